use Rattle.std.proofs.Common.{◌≡◌, map}
use Rattle.sql_reader.specs.Items.{to_read, size}
use Rattle.sql_reader.specs.Reading.{more_ahead}
use Rattle.sql_reader.specs.Repetitions.{each, repeat}
use Rattle.pub_reader.specs.Scripts as spec
use Rattle.pub_reader.specs.ScriptView.{line_view}
use Rattle.pub_reader.proofs.script.lines.Given as goal

abbrev pub invariant-loop-lines : goal.invariant-loop-lines
invariant-loop-lines l =
    spec.lines l.tables (to_read l.fn.r)
    ≡ repeat (each more_ahead (spec.one_line l.tables)) (map line_view l.lines.items) (to_read l.r)

abbrev pub decreases-loop-lines : goal.decreases-loop-lines
decreases-loop-lines l = size (to_read l.r)
