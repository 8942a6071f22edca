use Rattle.std.proofs.Common.{ap, subst, sym, ◌∙◌}
use Rattle.shard_checker.specs.CheckedView.{setting_in}
use Rattle.publisher_desk.specs.Lending.{HasSlotsOf}
use Rattle.publisher_desk.specs.Receipts.{transactions_of}
use Rattle.publisher_desk.specs.Sights.{sight_of}
use Rattle.publisher_desk.specs.SlotSights.{slot_sight_of}
use Rattle.publisher_desk.proofs.LoggedLemmas.{seen_begins, seen_sighted}
use Rattle.publisher_desk.proofs.SlotLemmas.{sees_more_events}
use Rattle.publisher_desk.proofs.publisher.Publisher.with_slots_for.Goals as goal

-- the seat has seen more of the log, and has no note of it
pub invariant_of-seat : goal.invariant_of-seat
invariant_of-seat g c = (
  c.seat.invariant.0,
  seen_sighted (setting_in g.P.Publishing.checked) c.seat.inside.notes.items (sight_of c.seat.inside.token)
      (sight_of c.with_slots_for-answer.new.token) c.seat.invariant.1 c.with_slots_for-answer.ensures.lent.log
      c.with_slots_for-answer.ensures.lent.sees,
)

pub returns-clause-lent : goal.returns-clause-lent
returns-clause-lent g c = record {
  lent = c.with_slots_for-answer.ensures.lent.lent;
  log_is = ap transactions_of c.with_slots_for-answer.ensures.lent.sees.seen
      ∙ c.with_slots_for-answer.ensures.lent.log_is;
  noted = (seen_sighted (setting_in g.P.Publishing.checked) c.seat.inside.notes.items (sight_of c.seat.inside.token)
      (sight_of c.with_slots_for-answer.new.token) c.seat.invariant.1 c.with_slots_for-answer.ensures.lent.log
      c.with_slots_for-answer.ensures.lent.sees).noted;
  slots = subst (HasSlotsOf g.P.Publishing.checked c.with_slots_for-answer.ensures.lent.lent.old
      c.with_slots_for-answer.ensures.lent.lent.connections) (sym c.with_slots_for-answer.ensures.lent.shows.seen)
      c.with_slots_for-answer.ensures.lent.slots;
}

pub returns-clause-begins : goal.returns-clause-begins
returns-clause-begins g c =
    seen_begins c.args.seat.now c.seat.inside.notes.items _ (sight_of c.seat.inside.token)
    (sight_of c.with_slots_for-answer.new.token) _ _ c.seat.view_is c.with_slots_for-answer.ensures.lent.log
    c.with_slots_for-answer.ensures.lent.sees
    (sees_more_events c.with_slots_for-answer.ensures.lent.events (slot_sight_of c.seat.inside.slots)
    (slot_sight_of c.with_slots_for-answer.new.slots) c.with_slots_for-answer.ensures.lent.shows)
