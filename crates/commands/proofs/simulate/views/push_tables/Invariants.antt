use Rattle.std.proofs.Common.{◌≡◌, ◌++◌, drop, map}
use Rattle.std.specs.String.{string_bytes}
use Rattle.commands.specs.Output.{text_of}
use Rattle.commands.specs.Simulate.Views.{rows_lines}
use Rattle.commands.proofs.simulate.views.push_tables.Given as goal

-- what is written, and the lines of the tables that are left
abbrev pub invariant-loop-number : goal.invariant-loop-number
invariant-loop-number l =
    string_bytes l.text ++ text_of
    (rows_lines l.before l.tables l.number (map (λ rows. rows.items) (drop l.number l.rows)))
    ≡ string_bytes l.fn.text ++ text_of (rows_lines l.before l.tables 0 (map (λ rows. rows.items) l.rows))
