use Rattle.std.proofs.Common.{◌≡◌, ◌++◌, drop, map}
use Rattle.std.specs.String.{string_bytes}
use Rattle.commands.specs.Output.{text_of}
use Rattle.commands.specs.Simulate.Views.{row_line}
use Rattle.commands.proofs.simulate.views.push_rows.Given as goal

-- what is written, and the lines of the rows that are left
abbrev pub invariant-loop-row : goal.invariant-loop-row
invariant-loop-row l =
    string_bytes l.text ++ text_of (map (row_line l.before l.tables l.number) (drop l.row-index l.rows))
    ≡ string_bytes l.fn.text ++ text_of (map (row_line l.before l.tables l.number) l.rows)
