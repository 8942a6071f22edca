use Rattle.std.proofs.Common.{◌≡◌, ◌++◌, drop}
use Rattle.std.specs.Prelude.{codes}
use Rattle.std.specs.List.{flat_map, join_by}
use Rattle.std.specs.String.{string_bytes}
use Rattle.catalog_text.specs.FilterText.{column_sql}
use Rattle.catalog_text.proofs.tables.write_column_names.Given as goal

-- what is written, and the columns that are left, each after a comma, make up the text of all
abbrev pub invariant-loop-number : goal.invariant-loop-number
invariant-loop-number l =
    string_bytes l.text ++ flat_map (λ number. codes ", " ++ column_sql l.columns number)
    (drop l.number-index l.others)
    ≡ string_bytes l.fn.text ++ join_by (column_sql l.columns) (codes ", ") l.numbers
