use Rattle.std.proofs.Common.{List, ◌≡◌, ◌++◌, arith, drop, length, refl, rules, subst, sym, take}
use Rattle.std.specs.Prelude.{None}
use Rattle.std.proofs.lemmas.Grind.{common_steps}
use Rattle.publisher_desk.specs.SlotEvents.{AreSent, KeepsEnded, advanced_after}
use Rattle.publisher_desk.specs.declared.connection_state.ConnectionState.{ConnectionState}
use Rattle.publisher_desk.proofs.EndedLemmas.{streamed_ended}
use Rattle.publisher_desk.proofs.HeldLemmas.{kept_events}
use Rattle.publisher_desk.proofs.SentLemmas.{kept_sent, lent_within}
use Rattle.publisher_desk.proofs.desk.Desk.with_slots.Goals as goal

-- what was lent is what the lock holds
pub returns-clause-lent : goal.returns-clause-lent
returns-clause-lent g c = record {
  old = c.self.inside.book;
  new = c.use_slots.new.book;
  connections = c.as_mut_slice.result.now;
  left = c.use_slots.new.connections;
  named = c.self.invariant.is.named;
  transactions = c.self.invariant.is.transactions;
  stands = c.self.invariant.is.stands;
  sent = lent_within c.self.inside.book c.self.inside.slots.all c.self.inside.connections.items c.as_mut_slice.result.now
      c.as_mut_slice.ensures.value c.self.invariant.sent c.self.invariant.events_are.dated;
  slots = c.use_slots.ensures.slots;
  does = c.use_slots.ensures.did;
}

pub invariant_of-self : goal.invariant_of-self
invariant_of-self g c = record {
  is = search rules;
  counted = search rules;
  slots = grind (arith, common_steps);
  sent =
      let kept : AreSent (advanced_after c.self.inside.slots.all) c.use_slots.new.connections =
      kept_sent c.as_mut_slice.result.now c.use_slots.new.connections c.self.inside.connections.items
      c.self.inside.slots.all c.as_mut_slice.ensures.value c.use_slots.ensures.sent c.self.invariant.sent in
      let back : take c.self.inside.connections.len (c.use_slots.new.connections
      ++ drop (length c.use_slots.new.connections) c.self.inside.connections.items) ≡ c.use_slots.new.connections =
      grind (arith, common_steps) in
      subst (AreSent (advanced_after c.self.inside.slots.all)) (sym back) kept;
  ended =
      let back : take c.self.inside.connections.len (c.use_slots.new.connections
      ++ drop (length c.use_slots.new.connections) c.self.inside.connections.items) ≡ c.use_slots.new.connections =
      grind (arith, common_steps) in
      streamed_ended c.self.inside.connections.items c.use_slots.new.connections _ None None c.self.inside.slots.all
      c.self.inside.slots back refl
      (subst (λ (list : List ConnectionState). KeepsEnded None None list c.use_slots.new.connections)
      c.as_mut_slice.ensures.value c.use_slots.ensures.ended) c.self.invariant.ended;
  history_is = search rules;
  events_are = kept_events c.self.inside.book c.use_slots.new.book _ c.self.inside.slots c.use_slots.ensures.slots
      c.use_slots.ensures.uses c.use_slots.ensures.confirmed c.self.invariant.events_are;
}
