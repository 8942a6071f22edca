-- What the steps of a script do in the world of a publisher and its subscribers, and the lines of each. The clock of a
-- step, in microseconds since 2000-01-01, is its number from 1. The steps are this program's own.
use Rattle.std.specs.Prelude.{◌≡◌, ◌<◌, ℕ, ◌+◌, ◌⊎◌, List, [], ◌∷◌, ◌++◌, All, length, map, Some}
use Rattle.pub_reader.specs.Scripts.{LineOf}
use Rattle.pub_reader.specs.Steps.{StepOf}
use Rattle.shard_checker.specs.CheckedView.{CheckedOf}
use Rattle.tables_log.specs.Lsn.{end_lsn_of}
use Rattle.shard_world.specs.Pumping.{EndsWalk, KeepsConnection, on_clock, pump_events}
use Rattle.shard_world.specs.ViewMeaning.{ShowsWorld}
use Rattle.shard_world.specs.World as w
use Rattle.shard_world.specs.WorldCalls.{Runs}
use Rattle.shard_world.specs.declared.answer.Answer.{Answer}
use Rattle.shard_world.specs.declared.answer.Answer.TheVariants.{At, OutOfMemory}
use Rattle.shard_world.specs.declared.event.PeerEvent.{PeerEvent}
use Rattle.shard_world.specs.declared.view.View.{View}
use Rattle.commands.specs.Simulate.Answers.{answer_line}
use Rattle.commands.specs.Simulate.StepActions.{StepActionOf, action_of}
use Rattle.commands.specs.Simulate.StepActions as a
use Rattle.commands.specs.Simulate.Views.{view_lines}

module _ (checked : CheckedOf) (most : ℕ) where
  -- ---- a step

  -- the event happens, and the line is its answer's
  pub record IsAnswered (now : ℕ) (event : w.Event) (world : w.World) (lines : List (List ℕ)) (next : w.World) : Type
      0 where
    pub answer : Answer
    pub steps : w.Steps checked most world now event answer next
    pub are : lines ≡ answer_line answer ∷ []

  -- All that a pump causes happens, by a connection that stays, and the line shows where the subscriber is then: at the
  -- end of the log.
  pub record IsPumped (now subscriber : ℕ) (world : w.World) (lines : List (List ℕ)) (next : w.World) : Type 0 where
    pub takes : ℕ
    pub answers : List Answer
    pub position : ℕ
    pub go_on : All KeepsConnection answers
    pub runs : Runs checked most (map (on_clock now subscriber) (pump_events takes)) answers world next
    pub position_is : subscriber < length checked.plan → position ≡ w.position_of checked next subscriber
    pub at_end : subscriber < length checked.plan → position ≡ end_lsn_of (length world.transactions)
    pub are : lines ≡ answer_line (At position) ∷ []

  -- The beginning of it happens, up to an answer after which there is no connection, and the line is that answer's. If
  -- there was a connection, memory was refused.
  pub record IsPumpEnded (now subscriber : ℕ) (world : w.World) (lines : List (List ℕ)) (next : w.World) : Type 0 where
    pub takes : ℕ
    pub done : List PeerEvent
    pub others : List PeerEvent
    pub split : done ++ others ≡ pump_events takes
    pub earlier : List Answer
    pub answer : Answer
    pub go_on : All KeepsConnection earlier
    pub ends : EndsWalk answer
    pub runs : Runs checked most (map (on_clock now subscriber) done) (earlier ++ answer ∷ []) world next
    pub refused : subscriber < length checked.plan → (c : w.Connection) → (world.peers subscriber).connection ≡ Some c
        → answer ≡ OutOfMemory
    pub are : lines ≡ answer_line answer ∷ []

  -- the lines show the world, in which nothing changes
  pub record IsShown (world : w.World) (lines : List (List ℕ)) (next : w.World) : Type 0 where
    pub view : View
    pub shows : ShowsWorld checked world view
    pub are : lines ≡ view_lines checked.catalog view
    pub stays : next ≡ world

  abbrev pub IsDone : ℕ → StepActionOf → w.World → List (List ℕ) → w.World → Type 0
  IsDone now (a.Event event) world lines next = IsAnswered now event world lines next
  IsDone now (a.Pump subscriber) world lines next =
      IsPumped now subscriber world lines next ⊎ IsPumpEnded now subscriber world lines next
  IsDone now a.View world lines next = IsShown world lines next

  -- at this clock
  abbrev pub IsStep : ℕ → StepOf → w.World → List (List ℕ) → w.World → Type 0
  IsStep now step world lines next = IsDone now (action_of now step) world lines next

  -- ---- steps

  -- in their order, from the first world on
  pub data AreSteps : List LineOf → List (List ℕ) → w.World → Type 0 where
    NoStep : AreSteps [] [] w.first_world
    OneMore : (steps : List LineOf) (step : LineOf) (lines own : List (List ℕ)) (world next : w.World)
        → AreSteps steps lines world → IsStep (length steps + 1) step.step world own next
        → AreSteps (steps ++ step ∷ []) (lines ++ own) next

  -- the lines are those of the first steps, and the others are left
  pub record AreFirstSteps (steps left : List LineOf) (lines : List (List ℕ)) : Type 0 where
    pub first : List LineOf
    pub world : w.World
    pub split : steps ≡ first ++ left
    pub are : AreSteps first lines world

  -- some step is left
  pub record AreSomeSteps (steps : List LineOf) (lines : List (List ℕ)) : Type 0 where
    pub step : LineOf
    pub later : List LineOf
    pub first : AreFirstSteps steps (step ∷ later) lines
