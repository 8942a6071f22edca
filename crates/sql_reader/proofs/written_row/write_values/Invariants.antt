use Rattle.std.proofs.Common.{◌≡◌, ◌++◌, drop, map}
use Rattle.std.specs.Prelude.{codes}
use Rattle.std.specs.List.{flat_map, join_by}
use Rattle.std.specs.String.{string_bytes}
use Rattle.filter_tree.specs.Values.{datum_view}
use Rattle.sql_reader.specs.WrittenRows.{value_text}
use Rattle.sql_reader.proofs.written_row.write_values.Given as goal

-- what is written, and the values that are left, each after a comma, make up the text of all
abbrev pub invariant-loop-value : goal.invariant-loop-value
invariant-loop-value g l =
    string_bytes l.text ++ flat_map (λ cell. codes ", " ++ value_text cell)
    (map datum_view (drop l.value-index l.others))
    ≡ string_bytes l.fn.text ++ join_by value_text (codes ", ") (map datum_view l.values)
