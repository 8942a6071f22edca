use Rattle.std.proofs.Common.{◌≡◌, drop, []}
use Rattle.std.specs.Prelude.{fold}
use Rattle.std.specs.List.{flat_map}
use Rattle.filter_tree.specs.Shape.{atoms_view}
use Rattle.sql_reader.specs.Limits.{exprs_view}
use Rattle.sql_reader.specs.Counting.{atoms_backwards, gathered}
use Rattle.sql_reader.proofs.limits.has_too_many_atoms.Given as goal

-- the atoms of the filters that are left complete the list
abbrev pub invariant-loop-filter : goal.invariant-loop-filter
invariant-loop-filter l =
    fold gathered (atoms_view l.atoms.items) (flat_map atoms_backwards (exprs_view (drop l.filter-index l.filters)))
    ≡ fold gathered [] (flat_map atoms_backwards (exprs_view l.filters))
