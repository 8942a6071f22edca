use Rattle.std.proofs.Common.{Bool, ◌∷◌, sym, ◌∙◌, ap, rules}
use Rattle.shard_checker.specs.CheckedView.{setting_in}
use Rattle.publisher_desk.specs.Seats.{SeatOf}
use Rattle.publisher_desk.specs.Sights.{left, sight_of, view_of}
use Rattle.publisher_desk.proofs.LoggedLemmas.{more_logged}
use Rattle.publisher_desk.proofs.auditing.+audit_all.Goals as goal

pub returns-in-Some-clause-history : goal.returns-in-Some-clause-history
returns-in-Some-clause-history g t c =
    c.give_back.ensures.rest ∙ ap left (c.audit_all.ensures.history ∙ c.take_in.ensures)
    ∙ ap (λ (keeps : Bool). view_of keeps c.args.history.now.all c.args.history.now.sights) (sym c.requires.keeps)

pub returns-in-Some-clause-logged : goal.returns-in-Some-clause-logged
returns-in-Some-clause-logged g t c =
    more_logged (setting_in g.P.Publishing.checked) c.args.history.now c.take_in.new.self c.seat.inside.notes.items
    c.in-Some.rest.now c.args.seats.now (sight_of c.seat.inside.token) _ c.take_in.ensures
    (search rules ∙ ap (λ (seat : SeatOf). seat ∷ c.in-Some.rest.now) (sym c.seat.view_is))
    c.seat.invariant.1 c.audit_all.ensures.logged
