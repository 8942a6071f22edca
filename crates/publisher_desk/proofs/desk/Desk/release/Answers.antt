use Rattle.std.proofs.Common.{List, ◌≡◌, ◌++◌, ◌∷◌, ◌∙◌, [], ap, arith, drop, length, rules, subst, take, true}
use Rattle.std.proofs.lemmas.Grind.{common_steps}
use Rattle.tables_log.specs.Slots.{with_use}
use Rattle.publisher_desk.specs.Sights.{sight_of}
use Rattle.publisher_desk.specs.SlotEvents.{AreSent, HaveEnded, advanced_after, ended_at, sent_at}
use Rattle.publisher_desk.specs.declared.connection_state.ConnectionState.{ConnectionState}
use Rattle.publisher_desk.specs.SlotSights.{slot_sight_of}
use Rattle.publisher_desk.specs.declared.slot_event.Release.{Release}
use Rattle.publisher_desk.specs.declared.slot_event.SlotEvent.TheVariants.{Released}
use Rattle.publisher_desk.specs.Viewers.{release}
use Rattle.publisher_desk.specs.declared.slot_sight.SlotView.{SlotView}
use Rattle.publisher_desk.proofs.EndedLemmas.{released_ended}
use Rattle.publisher_desk.proofs.SentLemmas.{released_sent, sent_as}
use Rattle.publisher_desk.proofs.SlotLemmas.{released_events, releases_at}
use Rattle.publisher_desk.proofs.desk.Desk.release.Goals as goal

pub invariant_of-self : goal.invariant_of-self
invariant_of-self g c =
    let one : Release = release c.args.slot c.log_len-commits.result in
    let was : List ConnectionState = c.self.inside.connections.items in
    let set : List ConnectionState = c.part.new.connections in
    let back : take c.self.inside.connections.len (set ++ drop (length set) was) ≡ set = grind (arith, common_steps) in
    let sent : AreSent (advanced_after c.self.inside.slots.all) set =
    λ slot. c.part.ensures.sent slot
    ∙ (ap (λ (list : List ConnectionState). sent_at list slot) c.as_mut_slice-connections.ensures.value
    ∙ c.self.invariant.sent slot) in
    record {
      is = search rules;
      counted = search rules;
      slots = grind (arith, common_steps);
      sent = sent_as set _ (c.self.inside.slots.all ++ Released one ∷ []) c.release-2.new.self back
          (ap (λ (view : SlotView). view.all) c.release-2.ensures.log)
          (released_sent set c.self.inside.slots.all one sent);
      ended = released_ended was set _ c.self.inside.slots.all one c.release-2.new.self back
          (ap (λ (view : SlotView). view.all) c.release-2.ensures.log)
          (subst (λ (list : List ConnectionState). HaveEnded (with_use c.args.slot true (ended_at list)) set)
          c.as_mut_slice-connections.ensures.value c.part.ensures.ended) c.self.invariant.ended;
      history_is = search rules;
      events_are = released_events c.self.inside.book c.release.new.self c.self.inside.slots _ one
          c.log_len-commits.ensures.shows c.self.invariant.events_are c.release.ensures c.release-2.ensures.log
          (slot_sight_of c.args.slots.now) (slot_sight_of c.release-2.new.token) c.release-2.ensures.seen;
    }

pub returns-clause-released : goal.returns-clause-released
returns-clause-released g c =
    releases_at c.args.slot c.sent_up_to-sent.result c.log_len-commits.result c.self.inside.book c.self.inside.history
    (sight_of c.args.token.now) (sight_of c.look.new.token) c.self.inside.slots.all
    (slot_sight_of c.args.slots.now) (slot_sight_of c.release-2.new.token)
    (c.sent_up_to-sent.ensures
    ∙ (ap (λ (list : List ConnectionState). sent_at list c.args.slot) c.as_mut_slice-connections.ensures.value
    ∙ c.self.invariant.sent c.args.slot)) c.log_len-commits.ensures.shows c.self.invariant.history_is
    c.look.ensures.seen c.release-2.ensures.seen
