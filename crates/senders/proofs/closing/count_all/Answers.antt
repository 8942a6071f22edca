use Rattle.std.proofs.Common.{List, All, length, subst}
use Rattle.shard_checker.specs.CheckedView.{setting_in}
use Rattle.publisher_desk.specs.Counting.{IsCounted}
use Rattle.publisher_desk.specs.Logged.{AreSeatsIn}
use Rattle.publisher_desk.specs.Seats.{SeatOf}
use Rattle.publisher_desk.specs.SlotSights.{BeginsWith}
use Rattle.publisher_desk.specs.Viewers.{ClosingOf, IsSeenIn}
use Rattle.senders.specs.Results.{IsWitnessed, ServedOf}
use Rattle.senders.proofs.closing.count_all.Goals as goal

pub returns-clause-counted : goal.returns-clause-counted
returns-clause-counted g c =
    subst (λ (closing : ClosingOf). IsCounted g.P.Ledger.parts c.args.rest.now c.args.seats.now.items
    (length closing.log)) c.check_all.ensures.closing
    (subst (λ (seats : List SeatOf). IsCounted g.P.Ledger.parts c.args.rest.now seats
    (length c.check_all.new.closing.log)) c.as_mut_slice-2.ensures.value c.count_seats.ensures.counted)

pub returns-clause-logged : goal.returns-clause-logged
returns-clause-logged g c =
    subst (λ (closing : ClosingOf). AreSeatsIn (setting_in g.P.Publishing.checked) closing.log c.args.seats.now.items)
    c.check_all.ensures.closing
    (subst (λ (seats : List SeatOf). AreSeatsIn (setting_in g.P.Publishing.checked) c.check_all.new.closing.log seats)
    c.as_mut_slice-2.ensures.value c.count_seats.ensures.logged)

pub returns-clause-shown : goal.returns-clause-shown
returns-clause-shown g c =
    subst (λ (closing : ClosingOf). All (λ (seat : SeatOf). BeginsWith closing.events seat.events)
    c.args.seats.now.items) c.check_all.ensures.closing
    (subst (λ (seats : List SeatOf). All (λ (seat : SeatOf). BeginsWith c.check_all.new.closing.events seat.events)
    seats) c.as_mut_slice-2.ensures.value c.count_seats.ensures.shown)

pub returns-clause-seen : goal.returns-clause-seen
returns-clause-seen g c =
    subst (λ (served : List ServedOf). All (λ (one : ServedOf). IsSeenIn c.args.closing.now one.viewer) served)
    c.as_mut_slice.ensures.value c.check_all.ensures.seen

pub returns-clause-witnessed : goal.returns-clause-witnessed
returns-clause-witnessed g c =
    subst (λ (served : List ServedOf). All (IsWitnessed g.P.Publishing.checked) served)
    c.as_mut_slice.ensures.value c.check_all.ensures.witnessed
