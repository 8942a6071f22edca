use Rattle.std.proofs.Common.{◌≡◌, drop, map}
use Rattle.filter_tree.specs.Values.{datum_view}
use Rattle.filter_tree.specs.Same.{same_from}
use Rattle.filter_tree.proofs.same.has_values_of.Given as goal

-- the values that are left are the same exactly if all are
abbrev pub invariant-loop-column : goal.invariant-loop-column
invariant-loop-column g l =
    same_from l.column (map datum_view (drop l.column l.values)) l.other
    ≡ same_from 0 (map datum_view l.values) l.other
