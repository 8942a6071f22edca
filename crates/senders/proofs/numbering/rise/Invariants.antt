use Rattle.std.proofs.Common.{Bor, drop, map}
use Rattle.publisher_desk.specs.Receipts.{ReceiptOf}
use Rattle.publisher_desk.specs.Logged.{RiseTo}
use Rattle.senders.specs.Gathering.{numbers_of}
use Rattle.senders.proofs.NumberLemmas.{Leaves}
use Rattle.senders.proofs.numbering.rise.Given as goal

abbrev pub invariant-loop-receipt : goal.invariant-loop-receipt
invariant-loop-receipt l =
    Leaves (RiseTo l.high 0 (numbers_of (map (λ (one : Bor ReceiptOf). one.now) l.receipts))) l.high l.last
    (numbers_of (map (λ (one : Bor ReceiptOf). one.now) (drop l.receipt-index l.receipts)))
