use Rattle.std.proofs.Common.{◌≡◌, ◌++◌, drop, map}
use Rattle.filter_tree.specs.Datum.{value_at}
use Rattle.filter_tree.specs.Values.{datum_view}
use Rattle.table_changes.proofs.key.values_at.Given as goal

-- the values so far, and those of the columns that are left, are the key
abbrev pub invariant-loop-column : goal.invariant-loop-column
invariant-loop-column g l =
    map datum_view l.values.items ++ map (value_at l.row) (drop l.column-index l.columns)
    ≡ map (value_at l.row) l.columns
