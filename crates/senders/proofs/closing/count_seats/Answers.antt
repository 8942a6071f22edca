use Rattle.std.proofs.Common.{List, length, subst}
use Rattle.shard_checker.specs.CheckedView.{setting_in}
use Rattle.publisher_desk.specs.Counting.{IsCounted}
use Rattle.publisher_desk.specs.Logged.{AreSeatsIn}
use Rattle.publisher_desk.specs.Seats.{SeatOf}
use Rattle.publisher_desk.specs.Viewers.{ClosingOf}
use Rattle.senders.proofs.closing.count_seats.Goals as goal

pub returns-clause-counted : goal.returns-clause-counted
returns-clause-counted g c =
    subst (λ (closing : ClosingOf). IsCounted g.P.Ledger.parts c.args.rest.now c.args.seats.now (length closing.log))
    c.check_seats.ensures.closing
    (subst (λ (seats : List SeatOf). IsCounted g.P.Ledger.parts c.args.rest.now seats
    (length c.check_seats.new.closing.log)) c.check_seats.ensures.same c.count.ensures.counted)

pub returns-clause-logged : goal.returns-clause-logged
returns-clause-logged g c =
    subst (λ (closing : ClosingOf). AreSeatsIn (setting_in g.P.Publishing.checked) closing.log c.args.seats.now)
    c.check_seats.ensures.closing
    (subst (λ (seats : List SeatOf). AreSeatsIn (setting_in g.P.Publishing.checked) c.check_seats.new.closing.log seats)
    c.check_seats.ensures.same c.count.ensures.logged)
