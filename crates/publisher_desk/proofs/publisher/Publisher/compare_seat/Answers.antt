use Rattle.std.proofs.Common.{List, subst}
use Rattle.shard_checker.specs.CheckedView.{setting_in}
use Rattle.publisher_desk.specs.Receipts.{ReceiptOf}
use Rattle.publisher_desk.specs.Sights.{Sees, StartsWith, sight_of}
use Rattle.publisher_desk.specs.Viewers.{ViewerOf}
use Rattle.publisher_desk.specs.declared.sight.Sight.{Sight}
use Rattle.publisher_desk.proofs.LoggedLemmas.{no_events, seen_begins, seen_sighted}
use Rattle.publisher_desk.proofs.SlotLemmas.{sees_more_log, starts_then}
use Rattle.publisher_desk.proofs.publisher.Publisher.compare_seat.Goals as goal

-- the seat has seen more of the log, and has no note of it
pub invariant_of-seat : goal.invariant_of-seat
invariant_of-seat g c = (
  c.seat.invariant.0,
  seen_sighted (setting_in g.P.Publishing.checked) c.seat.inside.notes.items (sight_of c.seat.inside.token)
      (sight_of c.compare-2.new.token) c.seat.invariant.1 c.compare-2.ensures.seen.log
      (subst (λ (old : Sight). Sees c.compare-2.ensures.seen.log old (sight_of c.compare-2.new.token))
      c.compare.ensures.same c.compare-2.ensures.seen.sees),
)

pub returns-clause-kept : goal.returns-clause-kept
returns-clause-kept g c =
    seen_begins c.args.seat.now c.seat.inside.notes.items _ (sight_of c.seat.inside.token)
    (sight_of c.compare-2.new.token) _ _ c.seat.view_is c.compare-2.ensures.seen.log
    (subst (λ (old : Sight). Sees c.compare-2.ensures.seen.log old (sight_of c.compare-2.new.token))
    c.compare.ensures.same c.compare-2.ensures.seen.sees) (no_events _)

pub returns-clause-back : goal.returns-clause-back
returns-clause-back g c =
    let seen : List ReceiptOf = (sight_of c.compare-2.new.token).seen in
    subst (λ (viewer : ViewerOf). StartsWith seen viewer.seen) c.viewer.view_is
    (starts_then seen (sight_of c.compare.new.token).seen (sight_of c.viewer.inside.token).seen
    c.compare-2.ensures.begins
    (sees_more_log c.compare.ensures.seen.log (sight_of c.viewer.inside.token) (sight_of c.compare.new.token)
    c.compare.ensures.seen.sees))
