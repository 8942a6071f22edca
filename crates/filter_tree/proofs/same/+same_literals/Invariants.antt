use Rattle.std.proofs.Common.{length}
use Rattle.filter_tree.proofs.same.+same_literals.Given as goal

abbrev pub decreases-same_literals : goal.decreases-same_literals
decreases-same_literals g l = length l.one.now
