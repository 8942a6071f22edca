use Rattle.std.proofs.Common.{◌≡◌, drop}
use Rattle.std.specs.List.{list_any}
use Rattle.std.specs.Str.{bytes_eq}
use Rattle.catalog_text.proofs.tables.is_made.Given as goal

abbrev pub invariant-loop-table : goal.invariant-loop-table
invariant-loop-table l =
    list_any (λ table. bytes_eq l.schema table.schema) (drop l.table-index l.earlier)
    ≡ list_any (λ table. bytes_eq l.schema table.schema) l.earlier
