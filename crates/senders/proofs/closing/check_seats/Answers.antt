use Rattle.std.proofs.Common.{◌≡◌, List, All, get_or, set, take_all, ◌∙◌, ap, subst, arith}
use Rattle.std.proofs.lemmas.List.{set-get_or}
use Rattle.std.proofs.lemmas.List.Elements.{All-more}
use Rattle.publisher_desk.specs.Seats.{SeatOf}
use Rattle.publisher_desk.specs.SlotSights.{BeginsWith}
use Rattle.publisher_desk.specs.Viewers.{ClosingOf}
use Rattle.senders.proofs.closing.check_seats.Goals as goal

pub loop-place-preserved : goal.loop-place-preserved
loop-place-preserved g c =
    let place = c.loop-place.place in
    let item : SeatOf = c.index-seats-place.result in
    let there : get_or c.loop-place.seats place item ≡ get_or c.args.seats.now place item =
    ap (λ (list : List SeatOf). get_or list place item) c.loop-place.invariant.0 in (
      ap (set c.loop-place.seats place) c.check_seat.ensures.seat ∙ set-get_or c.loop-place.seats place item
          ∙ c.loop-place.invariant.0,
      c.check_seat.ensures.same ∙ c.loop-place.invariant.1,
      All-more (λ (seat : SeatOf). BeginsWith c.args.closing.now.events seat.events) c.args.seats.now place item
          (omega arith) c.loop-place.invariant.2
          (subst (λ (seat : SeatOf). BeginsWith c.args.closing.now.events seat.events) there
          (subst (λ (closing : ClosingOf). BeginsWith closing.events (get_or c.loop-place.seats place item).events)
          c.loop-place.invariant.1 c.check_seat.ensures.events)),
    )

pub returns-clause-shown : goal.returns-clause-shown
returns-clause-shown g c =
    subst (λ (seats : List SeatOf). All (λ (seat : SeatOf). BeginsWith c.args.closing.now.events seat.events) seats)
    (take_all c.loop-place.place c.args.seats.now (omega arith)) c.loop-place.invariant.2
