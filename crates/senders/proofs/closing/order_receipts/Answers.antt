use Rattle.std.proofs.Common.{List, Bor, map, refl, ◌∙◌, subst, arith}
use Rattle.std.proofs.lemmas.List.{length-map}
use Rattle.publisher_desk.specs.Receipts.{ReceiptOf}
use Rattle.publisher_desk.specs.Logged.{RiseTo}
use Rattle.senders.specs.Gathering.{numbers_of}
use Rattle.senders.proofs.ClosingLemmas.{in_order, count_cause, repeated_cause}
use Rattle.senders.proofs.closing.order_receipts.Goals as goal

pub returns-then-len-count-clause-err : goal.returns-then-len-count-clause-err
returns-then-len-count-clause-err g c = λ acquired served.
    count_cause c.args.book.now c.args.seats.now
    (map (λ (one : Bor ReceiptOf). one.now) c.in_ok-receipts.receipts.items) c.log_len-count.result
    c.in_ok-receipts.ensures c.log_len-count.ensures.shows
    (λ same. c.if-len-count.true
    (omega (
      arith,
      same,
      c.len.ensures,
      length-map c.in_ok-receipts.receipts.items (λ (one : Bor ReceiptOf). one.now),
    )))

pub returns-then-not-rise-clause-err : goal.returns-then-not-rise-clause-err
returns-then-not-rise-clause-err g c = λ acquired served.
    let shown : List (Bor ReceiptOf) → List ReceiptOf = λ list. map (λ (one : Bor ReceiptOf). one.now) list in
    repeated_cause c.args.book.now c.args.seats.now (shown c.in_ok-receipts.receipts.items)
    (shown c.sort_receipts.new.receipts.items) c.log_len-count.result
    c.in_ok-receipts.ensures c.log_len-count.ensures.shows
    (omega (arith, length-map c.in_ok-receipts.receipts.items (λ (one : Bor ReceiptOf). one.now)))
    c.sort_receipts.ensures.all c.sort_receipts.ensures.sorted
    (subst (λ (list : List (Bor ReceiptOf)). ¬ RiseTo c.log_len-count.result 0
    (numbers_of (map (λ (one : Bor ReceiptOf). one.now) list))) c.as_slice.ensures.value c.if-not-rise.ensures)

pub returns-clause-ok : goal.returns-clause-ok
returns-clause-ok g c =
    let shown : List (Bor ReceiptOf) → List ReceiptOf = λ list. map (λ (one : Bor ReceiptOf). one.now) list in
    (in_order c.args.seats.now (shown c.in_ok-receipts.receipts.items) (shown c.sort_receipts.new.receipts.items)
    c.log_len-count.result
    c.in_ok-receipts.ensures
    (omega (arith, length-map c.in_ok-receipts.receipts.items (λ (one : Bor ReceiptOf). one.now)))
    c.sort_receipts.ensures.all c.if-not-are_rising.ensures.rising
    (subst (λ (list : List (Bor ReceiptOf)). RiseTo c.log_len-count.result 0
    (numbers_of (map (λ (one : Bor ReceiptOf). one.now) list))) c.as_slice.ensures.value c.if-not-rise.ensures)).0

pub returns-clause-long : goal.returns-clause-long
returns-clause-long g c =
    let shown : List (Bor ReceiptOf) → List ReceiptOf = λ list. map (λ (one : Bor ReceiptOf). one.now) list in
    let long = (in_order c.args.seats.now (shown c.in_ok-receipts.receipts.items)
    (shown c.sort_receipts.new.receipts.items) c.log_len-count.result
    c.in_ok-receipts.ensures
    (omega (arith, length-map c.in_ok-receipts.receipts.items (λ (one : Bor ReceiptOf). one.now)))
    c.sort_receipts.ensures.all c.if-not-are_rising.ensures.rising
    (subst (λ (list : List (Bor ReceiptOf)). RiseTo c.log_len-count.result 0
    (numbers_of (map (λ (one : Bor ReceiptOf). one.now) list))) c.as_slice.ensures.value c.if-not-rise.ensures)).1
    in
    record {
      count = long ∙ c.log_len-count.ensures.shows;
      room =
          omega (arith, c.log_len-count.ensures.shows, c.log_len-count.ensures.room);
    }

pub returns-clause-forward : goal.returns-clause-forward
returns-clause-forward g c = c.if-not-are_rising.ensures.forward refl

pub returns-clause-timed : goal.returns-clause-timed
returns-clause-timed g c = c.if-not-are_rising.ensures.timed refl
