use Rattle.std.proofs.Common.{◌≡◌, ◌++◌, drop, map}
use Rattle.filter_tree.specs.Values.{datum_view}
use Rattle.filter_tree.proofs.copies.copy_row.Given as goal

-- the copies so far, and the values that are left, are the row
abbrev pub invariant-loop-value : goal.invariant-loop-value
invariant-loop-value g l =
    map datum_view l.copies.items ++ map datum_view (drop l.value-index l.values) ≡ map datum_view l.values
