use Rattle.std.proofs.Common.{List, ◌≡◌, ◌++◌, ap, arith, drop, false, length, rules, sym, subst, take, ◌∙◌}
use Rattle.std.proofs.lemmas.Grind.{common_steps}
use Rattle.std.specs.Prelude.{Some}
use Rattle.tables_log.specs.BookView.{book_log}
use Rattle.publisher_desk.specs.Held.{AreEventsOf}
use Rattle.publisher_desk.specs.SlotEvents.{AreSent, advanced_after, ended_at, over_after, with_position, sent_at}
use Rattle.publisher_desk.specs.SlotSights.{slot_sight_of}
use Rattle.publisher_desk.specs.declared.connection_state.ConnectionState.{ConnectionState}
use Rattle.publisher_desk.specs.declared.slot_event.Advance.{Advance}
use Rattle.publisher_desk.specs.declared.slot_event.SlotEvent.{SlotEvent}
use Rattle.publisher_desk.specs.declared.slot_sight.SlotView.{SlotView}
use Rattle.publisher_desk.proofs.EndedLemmas.{advanced_over, stays_ended, goes_on_still}
use Rattle.publisher_desk.proofs.SentLemmas.{advanced_events, advanced_here, advanced_sent, logged_by, sent_as}
use Rattle.publisher_desk.proofs.StepLemmas.{given_by}
use Rattle.publisher_desk.proofs.desk.Desk.step.Goals as goal

pub invariant_of-self-in-Some : goal.invariant_of-self-in-Some
invariant_of-self-in-Some g c =
    let one : Advance = record { slot = c.args.slot; position = c.further-position.result } in
    let more : SlotView = c.advance-in-Some.new.self in
    let was : List ConnectionState = c.self.inside.connections.items in
    let set : List ConnectionState = c.advance.new.connections in
    let back : take c.self.inside.connections.len (set ++ drop (length set) was) ≡ set = grind (arith, common_steps) in
    let sets : AreSent (with_position c.args.slot one.position (sent_at was)) set =
    subst (λ (list : List ConnectionState). AreSent (with_position c.args.slot one.position (sent_at list)) set)
    c.as_mut_slice-connections.ensures.value c.advance.ensures.sent in
    let within = rw c.in-Some.is at c.in_ok-step.ensures.within in
    let goes_on : ended_at was c.args.slot ≡ false =
    ap (λ (list : List ConnectionState). ended_at list c.args.slot) (sym c.as_mut_slice-connections.ensures.value)
    ∙ rw c.in-Some.is at c.in_ok-step.ensures.goes_on in
    let sent : sent_at c.as_mut_slice-connections.result.now c.args.slot ≡ advanced_after c.self.inside.slots.all c.args.slot =
    ap (λ (list : List ConnectionState). sent_at list c.args.slot) c.as_mut_slice-connections.ensures.value
    ∙ c.self.invariant.sent c.args.slot in
    let low = logged_by (length (book_log c.self.inside.book)) c.self.inside.slots.all c.self.invariant.events_are.dated
    c.args.slot in
    let furthest = c.further-position.ensures in
    let end = c.end_of_commit.ensures in
    record {
      is = search rules;
      counted = search rules;
      slots = grind (arith, common_steps);
      sent = sent_as set _ _ c.look-in-Some.new.self back
          (ap (λ (view : SlotView). view.all) (c.look-in-Some.ensures.log ∙ c.advance-in-Some.ensures.log))
          (advanced_sent was set c.self.inside.slots.all one sets c.self.invariant.sent);
      ended = stays_ended was _ c.self.inside.slots.all c.look-in-Some.new.self
          (ap (λ (view : SlotView). over_after view.all) (c.look-in-Some.ensures.log ∙ c.advance-in-Some.ensures.log)
          ∙ advanced_over c.self.inside.slots.all one)
          (λ slot. ap (λ (list : List ConnectionState). ended_at list slot) back
          ∙ (c.advance.ensures.ended slot
          ∙ ap (λ (list : List ConnectionState). ended_at list slot) c.as_mut_slice-connections.ensures.value))
          c.self.invariant.ended;
      history_is = search rules;
      events_are = subst (AreEventsOf c.self.inside.book) (sym c.look-in-Some.ensures.log)
          (advanced_events c.self.inside.book c.self.inside.slots more one c.self.invariant.events_are (
            goes_on_still was c.self.inside.slots.all c.args.slot c.self.invariant.ended goes_on,
            omega (arith, furthest, sent),
          )
          (omega (arith, within, furthest, end, sent, low)) c.advance-in-Some.ensures.log);
    }

-- nothing is sent
pub invariant_of-self-2 : goal.invariant_of-self-2
invariant_of-self-2 g c =
    let was : List ConnectionState = c.self.inside.connections.items in
    let set : List ConnectionState = c.settle.new.connections in
    let back : take c.self.inside.connections.len (set ++ drop (length set) was) ≡ set = grind (arith, common_steps) in
    record {
      is = search rules;
      counted = search rules;
      slots = grind (arith, common_steps);
      sent = sent_as set _ c.self.inside.slots.all c.look-3.new.self back
          (ap (λ (view : SlotView). view.all) c.look-3.ensures.log)
          (λ slot. c.settle.ensures.sent slot
          ∙ (ap (λ (list : List ConnectionState). sent_at list slot) c.as_mut_slice-connections.ensures.value
          ∙ c.self.invariant.sent slot));
      ended = stays_ended was _ c.self.inside.slots.all c.look-3.new.self
          (ap (λ (view : SlotView). over_after view.all) c.look-3.ensures.log)
          (λ slot. ap (λ (list : List ConnectionState). ended_at list slot) back
          ∙ (c.settle.ensures.ended slot
          ∙ ap (λ (list : List ConnectionState). ended_at list slot) c.as_mut_slice-connections.ensures.value))
          c.self.invariant.ended;
      history_is = search rules;
      events_are = subst (AreEventsOf c.self.inside.book) (sym c.look-3.ensures.log) c.self.invariant.events_are;
    }

pub returns-in-Some-clause-given : goal.returns-in-Some-clause-given
returns-in-Some-clause-given g c =
    let one : Advance = record { slot = c.args.slot; position = c.further-position.result } in
    let last = rw c.in-Some.is at c.in_ok-step.ensures.last in
    let sent : advanced_after (slot_sight_of c.look-in-Some.new.token).events c.args.slot ≡ one.position =
    ap (λ (events : List SlotEvent). advanced_after events c.args.slot)
    (c.look-in-Some.ensures.seen.seen ∙ ap (λ (view : SlotView). view.all) c.advance-in-Some.ensures.log)
    ∙ advanced_here c.self.inside.slots.all one in
    let furthest = c.further-position.ensures in
    let end = c.end_of_commit.ensures in
    given_by c.args.slot c.args.number (Some c.in-Some.last) (slot_sight_of c.look-in-Some.new.token).events
    c.in_ok-step.step last tt (omega (arith, sent, furthest, end))
