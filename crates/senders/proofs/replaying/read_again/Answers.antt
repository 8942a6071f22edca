use Rattle.std.proofs.Common.{Bor, map, arith}
use Rattle.std.proofs.lemmas.List.{length-map}
use Rattle.publisher_desk.specs.Receipts.{ReceiptOf}
use Rattle.senders.proofs.ReplayLemmas.{right_then}
use Rattle.senders.proofs.replaying.read_again.Goals as goal

pub returns-clause-right : goal.returns-clause-right
returns-clause-right c =
    right_then c.args.book.now c.advance.new.fresh (map (λ (one : Bor ReceiptOf). one.now) c.args.receipts.now)
    c.args.reading.now
    c.in_ok-advance.ensures.ok (omega (arith, c.in_ok-advance.ensures.count))
    (omega (arith, length-map c.args.receipts.now (λ (one : Bor ReceiptOf). one.now)))
    c.is_right_now.result c.is_right_now.ensures
