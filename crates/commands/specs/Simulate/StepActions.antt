-- What a step of a script does to the world of a publisher and its subscribers: an event, where a commit has the step's
-- own clock; a pump of a subscriber; or a view. The steps are this program's own.
use Rattle.std.specs.Prelude.{ℕ}
use Rattle.pub_reader.specs.Steps.{StepOf}
use Rattle.pub_reader.specs.Steps as s
use Rattle.shard_world.specs.World as w
use Rattle.shard_world.specs.declared.event.PeerEvent.TheVariants as p
use Rattle.shard_world.specs.World.{event_view}
use Rattle.commands.specs.declared.simulate.StepAction.{StepAction}
use Rattle.commands.specs.declared.simulate.StepAction.TheVariants as v

pub data StepActionOf : Type 0 where
  Event : w.Event → StepActionOf
  Pump : ℕ → StepActionOf
  View : StepActionOf

-- a request of the code
abbrev pub action_view : StepAction → StepActionOf
action_view (v.Event event) = Event (event_view event)
action_view (v.Pump subscriber) = Pump subscriber
action_view v.View = View

-- at this clock
abbrev pub action_of : ℕ → StepOf → StepActionOf
action_of now (s.Commit commands) = Event (w.Commit commands now)
action_of now (s.Open subscriber) = Event (w.On subscriber p.Open)
action_of now (s.Hear subscriber bytes) = Event (w.On subscriber (p.Hear bytes))
action_of now (s.Take subscriber) = Event (w.On subscriber p.Take)
action_of now (s.Keep subscriber want) = Event (w.On subscriber (p.Keep want))
action_of now (s.Deliver subscriber bytes) = Event (w.On subscriber (p.Deliver bytes))
action_of now (s.Report subscriber want) = Event (w.On subscriber (p.Report want))
action_of now (s.Lose subscriber) = Event (w.On subscriber p.Lose)
action_of now (s.Pump subscriber) = Pump subscriber
action_of now s.View = View
