-- What a step of a script does to the program's own world, and what a script writes.
use Rattle.std.specs.Prelude.{◌≡◌, ℕ, ◌⊎◌, List, [], ◌++◌, Option, Result}
use Rattle.std.specs.Io.KnownBytes.{Appends}
use Rattle.pub_reader.specs.Scripts.{LineOf}
use Rattle.pub_reader.specs.Steps.{StepOf}
use Rattle.shard_checker.specs.CheckedView.{CheckedOf}
use Rattle.shard_world.specs.World as w
use Rattle.shard_world.specs.WorldCalls.{IsWorld, world_checked}
use Rattle.shard_world.specs.declared.world.World.{World}
use Rattle.commands.specs.Output.{Writes, WritesFirst, text_of}
use Rattle.commands.specs.Simulate.Steps.{AreFirstSteps, AreSomeSteps, IsStep}
use Rattle.commands.specs.declared.failure.Failure.{Failure}
use Rattle.commands.specs.declared.failure.Failure.TheVariants as f
use Rattle.commands.specs.declared.failure.Status.{Status}
use Rattle.commands.specs.declared.failure.Status.TheVariants.{Done}

-- ---- one step

-- The step is made in the world that the program's matches, the text is its lines, and the program's world matches
-- what is left.
pub record DoesFrom (before after : World) (most : ℕ) (events : List (ℕ × w.Event)) (world : w.World) (now : ℕ)
    (step : StepOf) (text : List ℕ) : Type 0 where
  pub lines : List (List ℕ)
  pub happened : List (ℕ × w.Event)
  pub next : w.World
  pub is_step : IsStep (world_checked before) most now step world lines next
  pub is_world : IsWorld after most (events ++ happened) next
  pub checked : world_checked after ≡ world_checked before
  pub text_is : text ≡ text_of lines

-- in each world that it matches
abbrev pub DoesFromEach : World → World → ℕ → StepOf → List ℕ → Type 0
DoesFromEach before after now step text =
    (most : ℕ) (events : List (ℕ × w.Event)) (world : w.World) → IsWorld before most events world
    → DoesFrom before after most events world now step text

-- the step is made, and its lines are written
pub record WritesStep (before after : World) (now : ℕ) (step : StepOf) (old new : Option (List ℕ)) : Type 0 where
  pub text : List ℕ
  pub makes : DoesFromEach before after now step text
  pub appends : Appends old new text

-- or the first bytes of them
pub record WritesFirstOfStep (before after : World) (now : ℕ) (step : StepOf) (old new : Option (List ℕ)) : Type 0
  where
    pub text : List ℕ
    pub makes : DoesFromEach before after now step text
    pub first : WritesFirst text old new

-- a step stops: before the first byte, because memory ran out, or because the writer failed
abbrev pub StopsStep : World → World → ℕ → StepOf → Option (List ℕ) → Option (List ℕ) → Failure → Type 0
StopsStep before after now step old new f.Output = WritesFirstOfStep before after now step old new
StopsStep before after now step old new f.OutOfMemory = new ≡ old
StopsStep before after now step old new (f.CommandLine why) = ⊥
StopsStep before after now step old new (f.Input fault) = ⊥

-- ---- a script

-- the lines are those of all steps
abbrev pub AreAllLines : CheckedOf → ℕ → List LineOf → List (List ℕ) → Status → Type 0
AreAllLines checked most steps lines status = (status ≡ Done) × AreFirstSteps checked most steps [] lines

-- there is no line yet, or some step is left
abbrev pub AreBegunLines : CheckedOf → ℕ → List LineOf → List (List ℕ) → Type 0
AreBegunLines checked most steps lines = (lines ≡ []) ⊎ AreSomeSteps checked most steps lines

-- the lines of each step are written, as far as memory and the writer go
abbrev pub WritesSteps : CheckedOf → ℕ → List LineOf → Option (List ℕ) → Option (List ℕ) → Result Status Failure
    → Type 0
WritesSteps checked most steps old new result =
    Writes (AreAllLines checked most steps) (AreBegunLines checked most steps) old new result
