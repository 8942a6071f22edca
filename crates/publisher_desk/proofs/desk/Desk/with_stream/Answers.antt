use Rattle.std.proofs.Common.{List, ◌≡◌, ◌++◌, ap, arith, drop, length, refl, rules, subst, take, ◌∙◌}
use Rattle.std.proofs.lemmas.Grind.{common_steps}
use Rattle.tables_log.specs.BookView.{book_log, book_slots}
use Rattle.shard_checker.specs.CheckedView.{CheckedOf}
use Rattle.publisher_desk.specs.Receipts.{transactions_of}
use Rattle.publisher_desk.specs.SlotEvents.{KeepsEnded, KeepsSent, events_then, events_with, sent_at}
use Rattle.publisher_desk.specs.SlotSights.{slot_sight_of}
use Rattle.publisher_desk.specs.declared.connection_state.ConnectionState.{ConnectionState}
use Rattle.publisher_desk.specs.declared.slot_sight.SlotView.{SlotView}
use Rattle.publisher_desk.proofs.EndedLemmas.{streamed_ended}
use Rattle.publisher_desk.proofs.SentLemmas.{lent_within, logged_by, sent_as, streamed_sent}
use Rattle.publisher_desk.proofs.StreamLemmas.{may_acquire, may_note, positions_confirmed, streamed_events}
use Rattle.publisher_desk.proofs.desk.Desk.with_stream.Goals as goal

pub note-requires-clause-may : goal.note-requires-clause-may
note-requires-clause-may g c =
    may_acquire c.self.inside.book c.self.inside.slots _ _ (slot_sight_of c.args.slots.now).held c.self.invariant.events_are
    c.use_stream-answer.ensures.acquires

pub note-requires-clause-mine : goal.note-requires-clause-mine
note-requires-clause-mine g c =
    may_note _ _ _ _ _ _ (slot_sight_of c.args.slots.now).held c.requires c.use_stream-answer.ensures.confirms

pub invariant_of-self : goal.invariant_of-self
invariant_of-self g c = record {
  is = search rules;
  counted = search rules;
  slots = grind (arith, common_steps);
  sent =
      let back : take c.self.inside.connections.len (c.use_stream-answer.new.connections
      ++ drop (length c.use_stream-answer.new.connections) c.self.inside.connections.items)
      ≡ c.use_stream-answer.new.connections =
      grind (arith, common_steps) in
      sent_as c.use_stream-answer.new.connections _ (events_then c.use_stream-answer.result.2
      (events_with c.use_stream-answer.result.1 c.self.inside.slots.all)) c.note.new.self back
      (ap (λ (view : SlotView). view.all) c.note.ensures.log)
      (streamed_sent c.self.inside.connections.items c.use_stream-answer.new.connections c.use_stream-answer.result.1
      c.use_stream-answer.result.2 c.self.inside.slots.all
      (subst (λ (list : List ConnectionState). KeepsSent c.use_stream-answer.result.1 list
      c.use_stream-answer.new.connections) c.as_mut_slice.ensures.value c.use_stream-answer.ensures.sent)
      c.self.invariant.sent);
  ended =
      let back : take c.self.inside.connections.len (c.use_stream-answer.new.connections
      ++ drop (length c.use_stream-answer.new.connections) c.self.inside.connections.items)
      ≡ c.use_stream-answer.new.connections =
      grind (arith, common_steps) in
      streamed_ended c.self.inside.connections.items c.use_stream-answer.new.connections _ c.use_stream-answer.result.1
      c.use_stream-answer.result.2 c.self.inside.slots.all c.note.new.self back
      (ap (λ (view : SlotView). view.all) c.note.ensures.log)
      (subst (λ (list : List ConnectionState). KeepsEnded c.use_stream-answer.result.1 c.use_stream-answer.result.2 list
      c.use_stream-answer.new.connections) c.as_mut_slice.ensures.value c.use_stream-answer.ensures.ended)
      c.self.invariant.ended;
  history_is = search rules;
  events_are = streamed_events c.self.inside.book c.use_stream-answer.new.book c.self.inside.slots _ _ _ _
      c.as_mut_slice.result.now c.self.invariant.events_are c.use_stream-answer.ensures.slots
      c.use_stream-answer.ensures.acquires c.use_stream-answer.ensures.confirms
      (λ slot. ap (λ (list : List ConnectionState). sent_at list slot) c.as_mut_slice.ensures.value
      ∙ c.self.invariant.sent slot)
      c.note.ensures.log (slot_sight_of c.args.slots.now) _ c.requires c.note.ensures.seen;
}

-- what was lent is what the lock holds
pub returns-clause-used : goal.returns-clause-used
returns-clause-used g c =
    let book = c.self.inside.book in
    let events = c.self.inside.slots.all in
    record {
      number = c.in_ok-number.number;
      acquired = c.use_stream-answer.result.1;
      confirmed = c.use_stream-answer.result.2;
      lent = record {
        old = book;
        new = c.use_stream-answer.new.book;
        connections = c.as_mut_slice.result.now;
        left = c.use_stream-answer.new.connections;
        named = c.self.invariant.is.named;
        transactions = transactions_of c.self.inside.history.all;
        stands = c.self.invariant.history_is.stands;
        sent = lent_within c.self.inside.book c.self.inside.slots.all c.self.inside.connections.items c.as_mut_slice.result.now
            c.as_mut_slice.ensures.value c.self.invariant.sent c.self.invariant.events_are.dated;
        slots = c.use_stream-answer.ensures.slots;
        does = c.use_stream-answer.ensures.did;
      };
      log = c.self.inside.history.all;
      sees = c.look.ensures.seen;
      log_is = refl;
      events = events;
      used = c.self.invariant.events_are.used;
      each = c.has_each_slot.ensures
          ∙ ap (λ (checked : CheckedOf). length checked.catalog.subscriptions) c.self.invariant.is.named;
      found = c.self.invariant.events_are.confirmed;
      sent = λ slot. ap (λ (list : List ConnectionState). sent_at list slot) c.as_mut_slice.ensures.value
          ∙ c.self.invariant.sent slot;
      ends = logged_by (length (book_log book)) events c.self.invariant.events_are.dated;
      mine = may_note _ _ _ _ _ _ (slot_sight_of c.args.slots.now).held c.requires c.use_stream-answer.ensures.confirms;
      number_is = search rules;
      permit_is = c.of-permit.ensures;
      changes = c.note.ensures.seen;
      known = positions_confirmed (book_slots book) (book_slots c.use_stream-answer.new.book) _
          c.use_stream-answer.result.1 c.use_stream-answer.result.2 _ events c.use_stream-answer.ensures.confirms
          c.self.invariant.events_are.confirmed;
    }
