use Rattle.std.proofs.Common.{length}
use Rattle.filter_memo.proofs.covering.+has_each.Given as goal

abbrev pub decreases-has_each : goal.decreases-has_each
decreases-has_each l = length l.literals.now
