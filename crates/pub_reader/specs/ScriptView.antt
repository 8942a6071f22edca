-- A line of a script that was read, as plain data.
use Rattle.pub_reader.specs.StepView.{step_view}
use Rattle.pub_reader.specs.declared.script.Line.{Line}
use Rattle.pub_reader.specs.Scripts.{LineOf}

abbrev pub line_view : Line → LineOf
line_view line = record { place = line.place; step = step_view line.step }
