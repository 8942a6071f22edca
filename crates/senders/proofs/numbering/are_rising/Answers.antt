use Rattle.std.proofs.Common.{List, All, subst, take_all, arith}
use Rattle.std.proofs.lemmas.List.Elements.{All-more}
use Rattle.publisher_desk.specs.Seats.{IsForwardSeat, IsTimedSeat, SeatOf}
use Rattle.senders.specs.Gathering.{IsRising, IsRisingSeat}
use Rattle.senders.proofs.numbering.are_rising.Goals as goal

pub loop-seat-preserved : goal.loop-seat-preserved
loop-seat-preserved g c = (
  All-more (IsRisingSeat c.args.high) c.args.seats.now c.loop-seat.seat-index c.seat-item.result (omega arith)
      c.loop-seat.invariant.0
      (subst (IsRisingSeat c.args.high) c.seat-item.is
      (subst (IsRising c.args.high) c.notes.ensures.shows c.if-not-is_rising.ensures)),
  All-more IsForwardSeat c.args.seats.now c.loop-seat.seat-index c.seat-item.result (omega arith)
      c.loop-seat.invariant.1
      (subst IsForwardSeat c.seat-item.is c.notes.ensures.forward),
  All-more IsTimedSeat c.args.seats.now c.loop-seat.seat-index c.seat-item.result (omega arith) c.loop-seat.invariant.2
      (subst IsTimedSeat c.seat-item.is c.notes.ensures.timed),
)

pub returns-clause-rising : goal.returns-clause-rising
returns-clause-rising g c =
    subst (λ (seats : List SeatOf). All (IsRisingSeat c.args.high) seats)
    (take_all c.loop-seat.seat-index c.args.seats.now (omega arith)) c.loop-seat.invariant.0

pub returns-clause-forward : goal.returns-clause-forward
returns-clause-forward g c = λ so.
    subst (λ (seats : List SeatOf). All IsForwardSeat seats)
    (take_all c.loop-seat.seat-index c.args.seats.now (omega arith)) c.loop-seat.invariant.1

pub returns-clause-timed : goal.returns-clause-timed
returns-clause-timed g c = λ so.
    subst (λ (seats : List SeatOf). All IsTimedSeat seats)
    (take_all c.loop-seat.seat-index c.args.seats.now (omega arith)) c.loop-seat.invariant.2
