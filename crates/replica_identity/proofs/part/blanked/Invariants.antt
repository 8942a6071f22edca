use Rattle.std.proofs.Common.{◌≡◌, ◌++◌, drop, map}
use Rattle.filter_tree.specs.Values.{datum_view}
use Rattle.table_changes.specs.Columns.{blanked_from}
use Rattle.replica_identity.proofs.part.blanked.Given as goal

-- the values so far, and those that are left, are the row's
abbrev pub invariant-loop-column : goal.invariant-loop-column
invariant-loop-column l =
    map datum_view l.kept.items
    ++ blanked_from l.columns l.column-counter (map datum_view (drop l.column-counter l.values))
    ≡ blanked_from l.columns 0 (map datum_view l.values)
