use Rattle.std.proofs.Common.{◌≡◌, ◌+◌, ◌∷◌, [], ◌++◌, ap, arith, map, subst, sym, take, ◌∙◌}
use mathlib.Core.List.{map-append}
use Rattle.std.proofs.lemmas.List.{take_more}
use Rattle.shard_world.specs.World.{timed_view}
use Rattle.shard_world.specs.WorldCalls.{RunsFromEach}
use Rattle.shard_world.proofs.RunLemmas.{runs_more}
use Rattle.shard_world.proofs.world.World.run.Goals as goal

pub loop-now-preserved : goal.loop-now-preserved
loop-now-preserved c =
    let events = c.args.events.now in
    let index = c.loop-now.now-index in
    let item = c.loop-now-item.result in
    let kept = c.loop-now.invariant in
    let more : take (index + 1) events ≡ take index events ++ item ∷ [] =
    take_more events index item (omega arith) ∙ ap (λ one. take index events ++ one ∷ []) (sym c.loop-now-item.is) in
    let asked : map timed_view (take index events) ++ timed_view item ∷ [] ≡ map timed_view (take (index + 1) events) =
    sym (map-append timed_view (take index events) (item ∷ [])) ∙ ap (map timed_view) (sym more) in (
      subst (λ its. RunsFromEach c.args.self.now c.step.new.self its c.push_reserved.new.self.items) asked
          (subst (RunsFromEach c.args.self.now c.step.new.self
          (map timed_view (take index events) ++ timed_view item ∷ [])) (sym c.push_reserved.ensures.items)
          (runs_more c.args.self.now c.loop-now.self c.step.new.self (map timed_view (take index events))
          c.loop-now.answers.items (timed_view item).0 (timed_view item).1 c.step.result kept.0 c.step.ensures)),
      omega (arith, kept.1, c.push_reserved.ensures.len),
      omega (arith, kept.2, c.push_reserved.ensures.capacity),
    )
