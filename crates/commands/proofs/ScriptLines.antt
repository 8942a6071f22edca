-- The lines of the steps of a script are written, step after step.
use Rattle.std.proofs.Common.{◌≡◌, ℕ, ◌+◌, ◌<◌, ◌≤◌, inl, inr, ◌⊎◌, List, [], ◌∷◌, ◌++◌, length, map, drop, get_or, Option, refl, sym, ap, subst, ◌∙◌, append_assoc}
use Rattle.std.specs.Prelude.{IfErr, IsErrAnd, OnOk, Result, Ok, Err}
use Rattle.std.proofs.lemmas.List.{at_drop_all, at_drop_more, length_push}
use Rattle.std.proofs.lemmas.List.Concat.{flat_map-append}
use Rattle.std.specs.Io.KnownBytes.{Appends}
use Rattle.std.proofs.KnownBytes.{Appends-nil, Appends-trans}
use Rattle.pub_reader.specs.Scripts.{LineOf}
use Rattle.pub_reader.specs.ScriptView.{line_view}
use Rattle.pub_reader.specs.declared.script.Line.{Line}
use Rattle.pub_reader.specs.Steps.{StepOf}
use Rattle.shard_checker.specs.CheckedView.{CheckedOf}
use Rattle.shard_world.specs.World as w
use Rattle.shard_world.specs.WorldCalls.{IsWorld, world_checked}
use Rattle.shard_world.specs.declared.world.World.{World}
use Rattle.commands.proofs.Writing.{first_after, unwritten}
use Rattle.commands.specs.Output.{StopsText, WritesFirst, ended, text_of}
use Rattle.commands.specs.Simulate.Steps.{IsStep, AreSteps, NoStep, OneMore, AreSomeSteps}
use Rattle.commands.specs.Simulate.WorldSteps.{AreAllLines, AreBegunLines, DoesFrom, DoesFromEach, StopsStep, WritesStep, WritesSteps}
use Rattle.commands.specs.declared.failure.Failure.{Failure}
use Rattle.commands.specs.declared.failure.Failure.TheVariants as f
use Rattle.commands.specs.declared.failure.Status.{Status}
use Rattle.commands.specs.declared.failure.Status.TheVariants.{Done}

-- ---- the text of one step

module _ (before after : World) (now : ℕ) (step : StepOf) (text : List ℕ) (old new : Option (List ℕ))
    (makes : DoesFromEach before after now step text) where
  stopped : (failure : Failure) → StopsText text old new failure → StopsStep before after now step old new failure
  stopped f.Output stops = record { text = text; makes = makes; first = stops }
  stopped f.OutOfMemory stops = stops
  stopped (f.CommandLine why) stops = absurd stops
  stopped (f.Input fault) stops = absurd stops

  pub step_written : {T : Type 0} (result : Result T Failure) → OnOk result (Appends old new text)
      → OnOk result (WritesStep before after now step old new)
  step_written (Ok given) appends = record { text = text; makes = makes; appends = appends }
  step_written (Err failure) appends = tt

  pub step_stopped : {T : Type 0} (result : Result T Failure) → IfErr result (StopsText text old new)
      → IfErr result (StopsStep before after now step old new)
  step_stopped (Ok given) stops = tt
  step_stopped (Err failure) stops = stopped failure stops

-- if memory runs out, nothing is written
pub step_unmade : {T : Type 0} (before after : World) (now : ℕ) (step : StepOf) (known : Option (List ℕ))
    (result : Result T Failure) → IsErrAnd result (λ failure. failure ≡ f.OutOfMemory)
    → IfErr result (StopsStep before after now step known known)
step_unmade before after now step known (Ok given) is = tt
step_unmade before after now step known (Err failure) is =
    subst (λ (failed : Failure). StopsStep before after now step known known failed) (sym is) refl

-- ---- the lines that are left

-- the first of the lines that are left
pub left_next : (items : List Line) (count : ℕ) (line : Line) → count < length items → line ≡ get_or items count line
    → map line_view (drop count items) ≡ line_view line ∷ map line_view (drop (count + 1) items)
left_next items count line within is =
    at_drop_more (map line_view) items count line within
    ∙ ap (λ (l : Line). line_view l ∷ map line_view (drop (count + 1) items)) (sym is)

pub none_left : (items : List Line) (count : ℕ) → length items ≤ count → map line_view (drop count items) ≡ []
none_left items count all = at_drop_all (map line_view) items count all

module _ (checked : CheckedOf) (most : ℕ) where
  -- this many steps are executed and their lines are written, and these are left
  pub record IsSoFar (steps left : List LineOf) (count : ℕ) (code : World) (old new : Option (List ℕ)) : Type 0 where
    pub first : List LineOf
    pub lines : List (List ℕ)
    pub events : List (ℕ × w.Event)
    pub world : w.World
    pub split : steps ≡ first ++ left
    pub counted : length first ≡ count
    pub are : AreSteps checked most first lines world
    pub is_world : IsWorld code most events world
    pub same : world_checked code ≡ checked
    pub appends : Appends old new (text_of lines)

  pub so_far_at_start : (steps left : List LineOf) (count : ℕ) (code : World) (known : Option (List ℕ)) → left ≡ steps
      → count ≡ 0 → IsWorld code most [] w.first_world → world_checked code ≡ checked
      → IsSoFar steps left count code known known
  so_far_at_start steps left count code known left_is none stands same = record {
    first = [];
    lines = [];
    events = [];
    world = w.first_world;
    split = sym left_is;
    counted = sym none;
    are = NoStep;
    is_world = stands;
    same = same;
    appends = Appends-nil known;
  }

  -- ---- one step more is made

  -- in the world that is left
  pub record IsMade (first : List LineOf) (lines : List (List ℕ)) (world : w.World) (before after : World)
      (events : List (ℕ × w.Event)) (step : LineOf) (text : List ℕ) : Type 0 where
    pub own : List (List ℕ)
    pub happened : List (ℕ × w.Event)
    pub next : w.World
    pub are : AreSteps checked most (first ++ step ∷ []) (lines ++ own) next
    pub is_world : IsWorld after most (events ++ happened) next
    pub same : world_checked after ≡ checked
    pub text_is : text ≡ text_of own

  made_after : (steps left : List LineOf) (count : ℕ) (before after : World) (old new : Option (List ℕ))
      (step : LineOf) (text : List ℕ)
      → (now : IsSoFar steps left count before old new) → DoesFromEach before after (count + 1) step.step text
      → count < 100000
      → IsMade now.first now.lines now.world before after now.events step text
  made_after steps left count before after old new step text now makes room =
      let into : DoesFrom before after most now.events now.world (count + 1) step.step text =
      makes most now.events now.world now.is_world in
      let is_step : IsStep checked most (length now.first + 1) step.step now.world into.lines into.next =
      subst (λ (c : CheckedOf). IsStep c most (length now.first + 1) step.step now.world into.lines into.next) now.same
      (subst (λ (clock : ℕ). IsStep (world_checked before) most clock step.step now.world into.lines into.next)
      (ap (λ n. n + 1) (sym now.counted)) into.is_step) in
      record {
        own = into.lines;
        happened = into.happened;
        next = into.next;
        are = OneMore now.first step now.lines into.lines now.world into.next now.are is_step;
        is_world = into.is_world;
        same = into.checked ∙ now.same;
        text_is = into.text_is;
      }

  lines_text : (lines own : List (List ℕ)) (text : List ℕ) → text ≡ text_of own
      → text_of lines ++ text ≡ text_of (lines ++ own)
  lines_text lines own text is = ap (λ t. text_of lines ++ t) is ∙ sym (flat_map-append ended lines own)

  split_next : (steps first left : List LineOf) (step : LineOf) (later : List LineOf) → steps ≡ first ++ left
      → left ≡ step ∷ later → steps ≡ (first ++ step ∷ []) ++ later
  split_next steps first left step later split left_is = split ∙ ap (λ rest. first ++ rest) left_is
      ∙ sym (append_assoc first (step ∷ []) later)

  pub so_far_next : (steps left : List LineOf) (step : LineOf) (later : List LineOf) (count next : ℕ)
      (before after : World) (old new newer : Option (List ℕ))
      → left ≡ step ∷ later → next ≡ count + 1 → count < 100000 → IsSoFar steps left count before old new
      → WritesStep before after (count + 1) step.step new newer
      → IsSoFar steps later next after old newer
  so_far_next steps left step later count next before after old new newer left_is next_is room now writes =
      let made = made_after steps left count before after old new step writes.text now writes.makes room in
      record {
        first = now.first ++ step ∷ [];
        lines = now.lines ++ made.own;
        events = now.events ++ made.happened;
        world = made.next;
        split = split_next steps now.first left step later now.split left_is;
        counted = length_push now.first step ∙ ap (λ n. n + 1) now.counted ∙ sym next_is;
        are = made.are;
        is_world = made.is_world;
        same = made.same;
        appends = subst (λ (t : List ℕ). Appends old newer t) (lines_text now.lines made.own writes.text made.text_is)
            (Appends-trans old new newer (text_of now.lines) writes.text now.appends writes.appends);
      }

  -- ---- writing stops

  some_at : (steps left first : List LineOf) (step : LineOf) (later : List LineOf) (lines : List (List ℕ))
      (world : w.World) → left ≡ step ∷ later → steps ≡ first ++ left → AreSteps checked most first lines world
      → AreSomeSteps checked most steps lines
  some_at steps left first step later lines world left_is split are = record {
    step = step;
    later = later;
    first = record { first = first; world = world; split = split ∙ ap (λ rest. first ++ rest) left_is; are = are };
  }

  some_or_all : (steps later first : List LineOf) (lines : List (List ℕ)) (world : w.World) → steps ≡ first ++ later
      → AreSteps checked most first lines world
      → AreBegunLines checked most steps lines ⊎ ((status : Status) × AreAllLines checked most steps lines status)
  some_or_all steps [] first lines world split are =
      inr (Done, (refl, record { first = first; world = world; split = split; are = are }))
  some_or_all steps (step ∷ later) first lines world split are =
      inl (inr (some_at steps (step ∷ later) first step later lines world refl split are))

  -- memory runs out before the first step
  pub memory_first : (steps : List LineOf) (old new : Option (List ℕ)) (result : Result Status Failure) → new ≡ old
      → IsErrAnd result (λ failure. failure ≡ f.OutOfMemory) → WritesSteps checked most steps old new result
  memory_first steps old new (Ok given) same is = absurd is
  memory_first steps old new (Err failure) same is =
      subst (λ (failed : Failure). WritesSteps checked most steps old new (Err failed)) (sym is)
      (record { lines = []; begun = inl refl; appends = unwritten old new same })

  steps_stopped : (steps left : List LineOf) (step : LineOf) (later : List LineOf) (count : ℕ) (before after : World)
      (old new newer : Option (List ℕ)) (failure : Failure)
      → left ≡ step ∷ later → count < 100000 → IsSoFar steps left count before old new
      → StopsStep before after (count + 1) step.step new newer failure
      → WritesSteps checked most steps old newer (Err failure)
  steps_stopped steps left step later count before after old new newer (f.CommandLine why) left_is room now stops =
      absurd stops
  steps_stopped steps left step later count before after old new newer (f.Input fault) left_is room now stops =
      absurd stops
  steps_stopped steps left step later count before after old new newer f.OutOfMemory left_is room now stops = record {
    lines = now.lines;
    begun = inr (some_at steps left now.first step later now.lines now.world left_is now.split now.are);
    appends = subst (λ (n : Option (List ℕ)). Appends old n (text_of now.lines)) (sym stops) now.appends;
  }
  steps_stopped steps left step later count before after old new newer f.Output left_is room now stops =
      let made = made_after steps left count before after old new step stops.text now stops.makes room in
      record {
        lines = now.lines ++ made.own;
        part = some_or_all steps later (now.first ++ step ∷ []) (now.lines ++ made.own) made.next
            (split_next steps now.first left step later now.split left_is) made.are;
        first = subst (λ (t : List ℕ). WritesFirst t old newer) (lines_text now.lines made.own stops.text made.text_is)
            (first_after (text_of now.lines) stops.text old new newer now.appends stops.first);
      }

  -- the same of what a `?` gives
  pub stop_returned : (steps left : List LineOf) (step : LineOf) (later : List LineOf) (count : ℕ)
      (before after : World) (old new newer : Option (List ℕ)) (failure : Failure) (result : Result Status Failure)
      → left ≡ step ∷ later → count < 100000 → IsSoFar steps left count before old new
      → StopsStep before after (count + 1) step.step new newer failure
      → IsErrAnd result (λ failed. failed ≡ failure) → WritesSteps checked most steps old newer result
  stop_returned steps left step later count before after old new newer failure (Ok given) left_is room now stops is =
      absurd is
  stop_returned steps left step later count before after old new newer failure (Err failed) left_is room now stops is =
      subst (λ (why : Failure). WritesSteps checked most steps old newer (Err why)) (sym is)
      (steps_stopped steps left step later count before after old new newer failure left_is room now stops)

  -- no step is left
  pub all_written : (steps left : List LineOf) (count : ℕ) (code : World) (old new : Option (List ℕ)) → left ≡ []
      → IsSoFar steps left count code old new → WritesSteps checked most steps old new (Ok Done)
  all_written steps left count code old new none now = record {
    lines = now.lines;
    whole = (
      refl,
      record {
        first = now.first;
        world = now.world;
        split = now.split ∙ ap (λ rest. now.first ++ rest) none;
        are =
            now.are;
      },
    );
    appends = now.appends;
  }
