use Rattle.std.proofs.Common.{ap, arith, sym}
use Rattle.shard_checker.specs.CheckedView.{setting_in}
use Rattle.publisher_desk.specs.Receipts.{ReceiptOf}
use Rattle.publisher_desk.specs.Sights.{sight_of}
use Rattle.publisher_desk.proofs.LoggedLemmas.{no_events, receipt_noted, recorded_begins, refusal_sighted}
use Rattle.publisher_desk.proofs.SeatLemmas.{receipt_pushed, seat_stays}
use Rattle.publisher_desk.proofs.publisher.Publisher.commit.Goals as goal

pub invariant_of-seat-2 : goal.invariant_of-seat-2
invariant_of-seat-2 g c = (
  receipt_pushed c.seat.inside.notes.items c.reserve.new.self.items c.push_reserved.new.self.items
      c.reserve.ensures.items c.in-Ok.receipt c.seat.inside.high c.max.result c.number-number.result
      c.seat.inside.mark.parts c.commit.new.mark.parts c.seat.inside.mark.amount c.commit.new.mark.amount
      c.push_reserved.ensures.items (sym c.number-number.ensures) c.max.ensures
      (omega (arith, ap (λ (receipt : ReceiptOf). receipt.time) c.in-Ok.ensures.is, c.ranges.time))
      c.in-Ok.ensures.parts c.in-Ok.ensures.counted c.seat.invariant.0,
  receipt_noted (setting_in g.P.Publishing.checked) c.seat.inside.notes.items c.reserve.new.self.items
      c.push_reserved.new.self.items (sight_of c.seat.inside.token) (sight_of c.commit.new.token)
      c.reserve.ensures.items c.seat.invariant.1 c.in-Ok.receipt c.push_reserved.ensures.items c.in-Ok.ensures.seen,
)

-- the seat has seen more of the log, and has no note of it
pub invariant_of-seat-in-Err : goal.invariant_of-seat-in-Err
invariant_of-seat-in-Err g c = (
  seat_stays c.seat.inside.notes.items c.reserve.new.self.items c.seat.inside.high
      c.seat.inside.mark.parts c.commit.new.mark.parts c.seat.inside.mark.amount c.commit.new.mark.amount
      c.reserve.ensures.items c.in-Err.ensures.parts c.in-Err.ensures.uncounted c.seat.invariant.0,
  refusal_sighted g.P.Publishing.checked g.P.Publishing.limit c.seat.inside.notes.items _
      (sight_of c.seat.inside.token) (sight_of c.commit.new.token) c.in-Err.error c.seat.invariant.1
      c.in-Err.ensures.refused c.reserve.new.self.items c.reserve.ensures.items,
)

pub returns-clause-begins : goal.returns-clause-begins
returns-clause-begins g c =
    recorded_begins c.args.seat.now c.seat.inside.notes.items _ (sight_of c.seat.inside.token)
    (sight_of c.commit.new.token) _ _ c.seat.view_is c.in-Ok.receipt c.in-Ok.ensures.seen (no_events _)
