use Rattle.std.proofs.Common.{◌≡◌, ◌++◌, Bor, drop, map}
use Rattle.publisher_desk.specs.Receipts.{ReceiptOf}
use Rattle.senders.specs.Gathering.{all_receipts}
use Rattle.senders.proofs.gathering.receipts_of.Given as goal

abbrev pub invariant-loop-seat : goal.invariant-loop-seat
invariant-loop-seat g l =
    map (λ (one : Bor ReceiptOf). one.now) l.receipts.items ++ all_receipts (drop l.seat-index l.seats)
    ≡ all_receipts l.seats
