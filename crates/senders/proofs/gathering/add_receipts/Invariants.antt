use Rattle.std.proofs.Common.{◌≡◌, ◌++◌, Bor, drop, map}
use Rattle.publisher_desk.specs.Receipts.{ReceiptOf}
use Rattle.senders.specs.Gathering.{receipts_in}
use Rattle.senders.proofs.gathering.add_receipts.Given as goal

abbrev pub invariant-loop-note : goal.invariant-loop-note
invariant-loop-note l =
    map (λ (one : Bor ReceiptOf). one.now) l.receipts.items ++ receipts_in (drop l.note-index l.notes)
    ≡ map (λ (one : Bor ReceiptOf). one.now) l.fn.receipts.items ++ receipts_in l.notes
