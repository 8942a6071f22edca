use Rattle.std.proofs.Common.{List, ◌≡◌, ◌++◌, ap, arith, drop, length, refl, rules, subst, sym, take, ◌∙◌}
use Rattle.std.proofs.lemmas.Grind.{common_steps}
use Rattle.std.specs.Prelude.{None}
use Rattle.shard_checker.specs.CheckedView.{CheckedOf}
use Rattle.publisher_desk.specs.Held.{AreEventsOf}
use Rattle.publisher_desk.specs.Receipts.{transactions_of}
use Rattle.publisher_desk.specs.SlotEvents.{KeepsEnded, sent_at}
use Rattle.publisher_desk.specs.declared.connection_state.ConnectionState.{ConnectionState}
use Rattle.publisher_desk.specs.declared.slot_sight.SlotView.{SlotView}
use Rattle.publisher_desk.proofs.EndedLemmas.{streamed_ended}
use Rattle.publisher_desk.proofs.HeldLemmas.{kept_events}
use Rattle.publisher_desk.proofs.SentLemmas.{kept_sent, lent_within, sent_as}
use Rattle.publisher_desk.proofs.desk.Desk.with_slots_for.Goals as goal

-- what was lent is what the lock holds
pub returns-clause-lent : goal.returns-clause-lent
returns-clause-lent g c = record {
  lent = record {
    old = c.self.inside.book;
    new = c.use_slots-answer.new.book;
    connections = c.as_mut_slice.result.now;
    left = c.use_slots-answer.new.connections;
    named = c.self.invariant.is.named;
    transactions = transactions_of c.self.inside.history.all;
    stands = c.self.invariant.history_is.stands;
    sent = lent_within c.self.inside.book c.self.inside.slots.all c.self.inside.connections.items c.as_mut_slice.result.now
        c.as_mut_slice.ensures.value c.self.invariant.sent c.self.invariant.events_are.dated;
    slots = c.use_slots-answer.ensures.slots;
    does = c.use_slots-answer.ensures.did;
  };
  log = c.self.inside.history.all;
  log_is = refl;
  sees = c.look.ensures.seen;
  events = c.self.inside.slots.all;
  slots = record {
    each = c.has_each_slot.ensures
        ∙ ap (λ (checked : CheckedOf). length checked.catalog.subscriptions) c.self.invariant.is.named;
    connected = ap length c.as_mut_slice.ensures.value ∙ c.self.invariant.slots;
    used = c.self.invariant.events_are.used;
    confirmed = c.self.invariant.events_are.confirmed;
    sent = λ slot. ap (λ (list : List ConnectionState). sent_at list slot) c.as_mut_slice.ensures.value
        ∙ c.self.invariant.sent slot;
  };
  shows = c.look-2.ensures.seen;
}

pub invariant_of-self : goal.invariant_of-self
invariant_of-self g c = record {
  is = search rules;
  counted = search rules;
  slots = grind (arith, common_steps);
  sent =
      let back : take c.self.inside.connections.len (c.use_slots-answer.new.connections
      ++ drop (length c.use_slots-answer.new.connections) c.self.inside.connections.items)
      ≡ c.use_slots-answer.new.connections =
      grind (arith, common_steps) in
      sent_as c.use_slots-answer.new.connections _ c.self.inside.slots.all c.look-2.new.self back
      (ap (λ (view : SlotView). view.all) c.look-2.ensures.log)
      (kept_sent c.as_mut_slice.result.now c.use_slots-answer.new.connections c.self.inside.connections.items
      c.self.inside.slots.all c.as_mut_slice.ensures.value c.use_slots-answer.ensures.sent c.self.invariant.sent);
  ended =
      let back : take c.self.inside.connections.len (c.use_slots-answer.new.connections
      ++ drop (length c.use_slots-answer.new.connections) c.self.inside.connections.items)
      ≡ c.use_slots-answer.new.connections =
      grind (arith, common_steps) in
      streamed_ended c.self.inside.connections.items c.use_slots-answer.new.connections _ None None
      c.self.inside.slots.all c.look-2.new.self back (ap (λ (view : SlotView). view.all) c.look-2.ensures.log)
      (subst (λ (list : List ConnectionState). KeepsEnded None None list c.use_slots-answer.new.connections)
      c.as_mut_slice.ensures.value c.use_slots-answer.ensures.ended) c.self.invariant.ended;
  history_is = search rules;
  events_are = subst (AreEventsOf c.use_slots-answer.new.book) (sym c.look-2.ensures.log)
      (kept_events c.self.inside.book c.use_slots-answer.new.book _ c.self.inside.slots
      c.use_slots-answer.ensures.slots c.use_slots-answer.ensures.uses c.use_slots-answer.ensures.confirmed
      c.self.invariant.events_are);
}
