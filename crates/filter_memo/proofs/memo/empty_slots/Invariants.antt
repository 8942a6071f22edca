use Rattle.filter_memo.specs.Memos.{AreEmpty}
use Rattle.filter_memo.proofs.memo.empty_slots.Given as goal

-- no slot so far has a text
abbrev pub invariant-loop : goal.invariant-loop
invariant-loop l = AreEmpty l.slots.items
