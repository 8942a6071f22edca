-- A step that was read, as plain data.
use Rattle.std.specs.Prelude.{map}
use Rattle.table_changes.specs.Commands.{command_view}
use Rattle.pub_reader.specs.declared.step.Step.{Step}
use Rattle.pub_reader.specs.declared.step.Step.TheVariants as v
use Rattle.pub_reader.specs.Steps.{StepOf, Commit, Open, Hear, Take, Keep, Deliver, Report, Lose, Pump, View}

abbrev pub step_view : Step → StepOf
step_view (v.Commit commands) = Commit (map command_view commands.items)
step_view (v.Open subscriber) = Open subscriber
step_view (v.Hear subscriber bytes) = Hear subscriber bytes
step_view (v.Take subscriber) = Take subscriber
step_view (v.Keep subscriber want) = Keep subscriber want
step_view (v.Deliver subscriber bytes) = Deliver subscriber bytes
step_view (v.Report subscriber want) = Report subscriber want
step_view (v.Lose subscriber) = Lose subscriber
step_view (v.Pump subscriber) = Pump subscriber
step_view v.View = View
