-- What a step of a script does to the program's world, from what the world's own calls do.
use Rattle.std.proofs.Common.{◌≡◌, ℕ, ◌<◌, inl, inr, List, [], ◌∷◌, ◌++◌, length, map, refl, sym, ap, subst, ◌∙◌, append-nil}
use Rattle.filter_tree.specs.Expr.{Expr}
use Rattle.pub_catalog.specs.Catalogs.{CatalogOf}
use Rattle.pub_reader.specs.Steps.{StepOf}
use Rattle.shard_checker.specs.CheckedView.{CheckedOf}
use Rattle.shard_world.specs.Pumping.{on_clock, pump_events, IsEndOfLog, IsPosition, PumpsAll, PumpsFromEach, PumpsSome, WantsMemory, Pumped, Ended}
use Rattle.shard_world.specs.ViewMeaning.{ShowsWorld}
use Rattle.shard_world.specs.World as w
use Rattle.shard_world.specs.WorldCalls.{IsWorld, StepsFromEach, world_checked}
use Rattle.shard_world.specs.declared.answer.Answer.{Answer}
use Rattle.shard_world.specs.declared.answer.Answer.TheVariants.{At}
use Rattle.shard_world.specs.declared.view.View.{View}
use Rattle.shard_world.specs.declared.world.World.{World}
use Rattle.commands.specs.Output.{text_of}
use Rattle.commands.specs.Simulate.Answers.{answer_line}
use Rattle.commands.specs.Simulate.StepActions as a
use Rattle.commands.specs.Simulate.StepActions.{StepActionOf, action_of}
use Rattle.commands.specs.Simulate.Steps.{IsDone}
use Rattle.commands.specs.Simulate.Views.{view_lines}
use Rattle.commands.specs.Simulate.WorldSteps.{DoesFromEach}

-- ---- a step

module _ (before after : World) (now : ℕ) (step : StepOf) (text : List ℕ) where
  asked_step : (most : ℕ) (asked : StepActionOf) (world : w.World) (lines : List (List ℕ)) (next : w.World)
      → asked ≡ action_of now step → IsDone (world_checked before) most now asked world lines next
      → IsDone (world_checked before) most now (action_of now step) world lines next
  asked_step most asked world lines next is done =
      subst (λ (a : StepActionOf). IsDone (world_checked before) most now a world lines next) is done

  pub event_made : (event : w.Event) (answer : Answer) → a.Event event ≡ action_of now step
      → StepsFromEach before after now event answer → text ≡ text_of (answer_line answer ∷ [])
      → DoesFromEach before after now step text
  event_made event answer is steps text_is = λ most events world stands.
      let into = steps most events world stands in
      record {
        lines = answer_line answer ∷ [];
        happened = (now, event) ∷ [];
        next = into.next;
        is_step = asked_step most (a.Event event) world (answer_line answer ∷ []) into.next is
            (record { answer = answer; steps = into.steps; are = refl });
        is_world = into.is;
        checked = into.checked;
        text_is = text_is;
      }

  all_pumped : (subscriber position : ℕ) → a.Pump subscriber ≡ action_of now step
      → PumpsAll before after now subscriber → IsPosition after subscriber position
      → IsEndOfLog before subscriber position → text ≡ text_of (answer_line (At position) ∷ [])
      → DoesFromEach before after now step text
  all_pumped subscriber position is pumps at end text_is = λ most events world stands.
      let asked : List (ℕ × w.Event) = map (on_clock now subscriber) (pump_events pumps.takes) in
      let into = pumps.all.runs most events world stands in
      record {
        lines = answer_line (At position) ∷ [];
        happened = asked;
        next = into.next;
        is_step = asked_step most (a.Pump subscriber) world (answer_line (At position) ∷ []) into.next is
            (inl (record {
              takes = pumps.takes;
              answers = pumps.all.answers;
              position = position;
              go_on = pumps.all.go_on;
              runs = into.runs;
              position_is = λ there.
                  subst (λ (c : CheckedOf). position ≡ w.position_of c into.next subscriber) into.checked
                  (at (subst (λ (c : CheckedOf). subscriber < length c.plan) (sym into.checked) there) most
                  (events ++ asked) into.next into.is);
              at_end = λ there. end there most events world stands;
              are = refl;
            }));
        is_world = into.is;
        checked = into.checked;
        text_is = text_is;
      }

  part_pumped : (subscriber : ℕ) (answer : Answer) → a.Pump subscriber ≡ action_of now step
      → PumpsSome before after now subscriber answer
      → WantsMemory before subscriber answer → text ≡ text_of (answer_line answer ∷ [])
      → DoesFromEach before after now step text
  part_pumped subscriber answer is pumps refused text_is = λ most events world stands.
      let part = pumps.some in
      let asked : List (ℕ × w.Event) = map (on_clock now subscriber) part.done in
      let into = part.runs most events world stands in
      record {
        lines = answer_line answer ∷ [];
        happened = asked;
        next = into.next;
        is_step = asked_step most (a.Pump subscriber) world (answer_line answer ∷ []) into.next is
            (inr (record {
              takes = pumps.takes;
              done = part.done;
              others = part.others;
              split = part.are;
              earlier = part.answers;
              answer = answer;
              go_on = part.go_on;
              ends = part.ends;
              runs = into.runs;
              refused = λ there c connected. refused there most events world stands c connected;
              are = refl;
            }));
        is_world = into.is;
        checked = into.checked;
        text_is = text_is;
      }

  pub pump_made : (subscriber : ℕ) (answer : Answer) → a.Pump subscriber ≡ action_of now step
      → PumpsFromEach before after now subscriber answer → text ≡ text_of (answer_line answer ∷ [])
      → DoesFromEach before after now step text
  pump_made subscriber answer is (Pumped position all at end) text_is =
      all_pumped subscriber position is all at end text_is
  pump_made subscriber answer is (Ended one some refused) text_is = part_pumped subscriber one is some refused text_is

pub view_made : (code : World) (now : ℕ) (step : StepOf) (catalog : CatalogOf Expr) (view : View) (text : List ℕ)
    → a.View ≡ action_of now step → catalog ≡ (world_checked code).catalog
    → ((most : ℕ) (events : List (ℕ × w.Event)) (world : w.World) → IsWorld code most events world
    → ShowsWorld (world_checked code) world view)
    → text ≡ text_of (view_lines catalog view) → DoesFromEach code code now step text
view_made code now step catalog view text is named shows text_is = λ most events world stands.
    let lines : List (List ℕ) = view_lines (world_checked code).catalog view in
    record {
      lines = lines;
      happened = [];
      next = world;
      is_step = asked_step code code now step text most a.View world lines world is
          (record { view = view; shows = shows most events world stands; are = refl; stays = refl });
      is_world = subst (λ (happened : List (ℕ × w.Event)). IsWorld code most happened world) (sym (append-nil events))
          stands;
      checked = refl;
      text_is = text_is ∙ ap (λ (c : CatalogOf Expr). text_of (view_lines c view)) named;
    }
