use Rattle.std.proofs.Common.{Bor, map, arith}
use Rattle.std.proofs.lemmas.Bool.{MatchBool-at_true, MatchBool-at_false}
use Rattle.std.proofs.lemmas.List.{length-map}
use Rattle.publisher_desk.specs.Receipts.{ReceiptOf, transactions_of}
use Rattle.publisher_desk.specs.declared.note.Reading.{Reading}
use Rattle.tables_log.specs.BookView.{book_setting}
use Rattle.senders.specs.Histories.{IsRight}
use Rattle.senders.proofs.ReplayLemmas.{readings_rise, so_same, right_more, wrong_more, right_at_end}
use Rattle.senders.proofs.replaying.replay.Goals as goal
use Rattle.senders.proofs.replaying.replay.Goals.{then-not-branch, else-not-branch}

pub loop-reading-preserved : goal.loop-reading-preserved
loop-reading-preserved c = (
  c.in_ok-read_again.ensures.ok,
  λ d low. readings_rise c.args.readings.now c.loop-reading.reading-index _ c.reading-item.result d c.requires.sorted
      low c.reading-item.is c.in_ok-read_again.ensures.low,
  elim c.if-not-branch.branch [
    | then-not-branch w ↦
        wrong_more (IsRight (book_setting c.args.book.now)
        (transactions_of (map (λ (one : Bor ReceiptOf). one.now) c.args.receipts.now))) c.args.readings.now
        c.loop-reading.reading-index
        c.reading-item.result (omega arith) c.reading-item.is c.if-not-branch.are_right w.are_right-is
        (MatchBool-at_false _ _ w.if-not-branch.true c.in_ok-read_again.ensures.right)
    | else-not-branch w ↦
        right_more (IsRight (book_setting c.args.book.now)
        (transactions_of (map (λ (one : Bor ReceiptOf). one.now) c.args.receipts.now))) c.args.readings.now
        c.loop-reading.reading-index
        c.reading-item.result (omega arith) c.reading-item.is c.if-not-branch.are_right
        (MatchBool-at_true _ _ w.if-not-branch.false c.in_ok-read_again.ensures.right)
        (so_same _ _ c.if-not-branch.are_right c.loop-reading.are_right w.are_right-is c.loop-reading.invariant.2)
  ],
  c.in_ok-read_again.ensures.few,
)

pub returns-clause-right : goal.returns-clause-right
returns-clause-right c =
    right_at_end (IsRight (book_setting c.args.book.now)
    (transactions_of (map (λ (one : Bor ReceiptOf). one.now) c.args.receipts.now)))
    (map (λ (one : Bor Reading). one.now) c.args.readings.now) c.loop-reading.reading-index _
    (omega (arith, length-map c.args.readings.now (λ (one : Bor Reading). one.now))) c.loop-reading.invariant.2
