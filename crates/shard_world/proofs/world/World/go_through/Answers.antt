use Rattle.std.proofs.Common.{◌+◌, ◌∷◌, [], ◌++◌, ap, append_assoc, drop, subst, sym, take, ◌∙◌}
use Rattle.std.proofs.lemmas.List.{take-append-drop, take_more}
use Rattle.shard_world.specs.Pumping.{WalksAll, WalksSome}
use Rattle.shard_world.specs.World.{Open}
use Rattle.shard_world.proofs.PumpLemmas.{walks_end, walks_more}
use Rattle.shard_world.proofs.world.World.go_through.Goals as goal

pub returns-in-Err : goal.returns-in-Err
returns-in-Err c =
    let events = c.args.events.now in
    let index = c.loop-event.event-index in
    subst (λ all. WalksSome c.args.self.now c.go_on.new.self c.args.now c.args.subscriber all c.in-Err.answer)
    (sym (append_assoc (take index events) (_ ∷ []) (drop (index + 1) events))
    ∙ ap (λ first. first ++ drop (index + 1) events) (sym (take_more events index Open c.loop-event-test.true))
    ∙ take-append-drop (index + 1) events)
    (walks_end c.args.now c.args.subscriber c.args.self.now c.loop-event.self c.go_on.new.self (take index events)
    (drop (index + 1) events) _ c.in-Err.answer c.loop-event.invariant c.in-Err.ensures.ends c.in-Err.ensures.err)

pub loop-event-preserved : goal.loop-event-preserved
loop-event-preserved c =
    let events = c.args.events.now in
    let index = c.loop-event.event-index in
    subst (WalksAll c.args.self.now c.go_on.new.self c.args.now c.args.subscriber)
    (sym (take_more events index Open c.loop-event-test.true))
    (walks_more c.args.now c.args.subscriber c.args.self.now c.loop-event.self c.go_on.new.self (take index events) _
    c.in_default.field-0 c.loop-event.invariant c.in_default.ensures.goes c.in_default.ensures.ok)
