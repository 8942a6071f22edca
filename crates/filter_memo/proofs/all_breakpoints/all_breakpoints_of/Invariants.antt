use Rattle.filter_memo.specs.Telling.{AreSettled}
use Rattle.filter_memo.proofs.all_breakpoints.all_breakpoints_of.Given as goal

-- the breakpoints so far are settled
abbrev pub invariant-loop-part : goal.invariant-loop-part
invariant-loop-part l = AreSettled l.parts l.all_breakpoints.items
