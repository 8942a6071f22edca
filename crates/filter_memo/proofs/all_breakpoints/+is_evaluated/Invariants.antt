use Rattle.std.proofs.Common.{length}
use Rattle.filter_memo.proofs.all_breakpoints.+is_evaluated.Given as goal

abbrev pub decreases-is_evaluated : goal.decreases-is_evaluated
decreases-is_evaluated l = length l.all_breakpoints.now
