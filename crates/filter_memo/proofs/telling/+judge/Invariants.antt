use Rattle.std.proofs.Common.{length}
use Rattle.filter_memo.proofs.telling.+judge.Given as goal

abbrev pub decreases-judge : goal.decreases-judge
decreases-judge l = length l.numbers.now
