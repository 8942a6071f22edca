use Rattle.std.proofs.Common.{◌≡◌, ℕ, ◌<◌, true}
use Rattle.filter_memo.specs.Telling.{has_number, numbers_in}
use Rattle.filter_memo.proofs.all_breakpoints.are_evaluated.Given as goal

-- the breakpoints evaluate the filters so far
abbrev pub invariant-loop-number : goal.invariant-loop-number
invariant-loop-number l = (number : ℕ) → number < l.number → has_number (numbers_in l.all_breakpoints) number ≡ true
