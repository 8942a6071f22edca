use Rattle.std.proofs.Common.{◌≡◌, ◌++◌, drop}
use Rattle.std.specs.List.{flat_map}
use Rattle.std.specs.String.{string_bytes}
use Rattle.catalog_text.specs.CatalogText.{column_text}
use Rattle.catalog_text.proofs.tables.write_columns.Given as goal

-- what is written, and the columns that are left, make up the text of all
abbrev pub invariant-loop-column : goal.invariant-loop-column
invariant-loop-column l =
    string_bytes l.text ++ flat_map column_text (drop l.column-index l.columns)
    ≡ string_bytes l.fn.text ++ flat_map column_text l.columns
