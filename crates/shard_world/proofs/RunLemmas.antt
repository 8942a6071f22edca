-- Several events, one after another.
use Rattle.std.proofs.Common.{ℕ, List, [], ◌∷◌, ◌++◌, refl, sym, subst, ◌∙◌, append_assoc}
use Rattle.std.proofs.lemmas.List.{append-nil}
use Rattle.shard_checker.specs.CheckedView.{CheckedOf}
use Rattle.shard_world.specs.World as w
use Rattle.shard_world.specs.World.{Answer, Event, Steps}
use Rattle.shard_world.specs.WorldCalls.{IsWorld, StepsFrom, StepsFromEach, Runs, RunsFrom, RunsFromEach, world_checked}
use Rattle.shard_world.specs.declared.world.World.{World}

runs_one_more : (checked : CheckedOf) (most : ℕ) (asked : List (ℕ × Event)) (answers : List Answer)
    (world between next : w.World) (event : ℕ × Event) (answer : Answer)
    → Runs checked most asked answers world between → Steps checked most between event.0 event.1 answer next
    → Runs checked most (asked ++ event ∷ []) (answers ++ answer ∷ []) world next
runs_one_more checked most [] [] world between next event answer runs steps =
    (next, subst (λ from. Steps checked most from event.0 event.1 answer next) runs steps, refl)
runs_one_more checked most (first ∷ asked) (one ∷ answers) world between next event answer runs steps =
    (runs.0, runs.1, runs_one_more checked most asked answers runs.0 between next event answer runs.2 steps)
runs_one_more checked most [] (one ∷ answers) world between next event answer runs steps = absurd runs
runs_one_more checked most (first ∷ asked) [] world between next event answer runs steps = absurd runs

pub runs_none : (world : World) → RunsFromEach world world [] []
runs_none code most events world is = record {
  next = world;
  runs = refl;
  is = subst (λ all. IsWorld code most all world) (sym (append-nil events)) is;
  checked = refl;
}

pub runs_more : (before between after : World) (asked : List (ℕ × Event)) (answers : List Answer) (now : ℕ)
    (event : Event) (answer : Answer) → RunsFromEach before between asked answers
    → StepsFromEach between after now event answer
    → RunsFromEach before after (asked ++ (now, event) ∷ []) (answers ++ answer ∷ [])
runs_more before between after asked answers now event answer runs steps most events world is =
    let first : RunsFrom before between most events world asked answers = runs most events world is in
    let then : StepsFrom between after most (events ++ asked) first.next now event answer =
    steps most (events ++ asked) first.next first.is in
    record {
      next = then.next;
      runs = runs_one_more (world_checked before) most asked answers world first.next then.next (now, event) answer
          first.runs
          (subst (λ checked. Steps checked most first.next now event answer then.next) first.checked then.steps);
      is = subst (λ all. IsWorld after most all then.next) (append_assoc events asked ((now, event) ∷ [])) then.is;
      checked = then.checked ∙ first.checked;
    }
