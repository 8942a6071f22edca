use Rattle.std.proofs.Common.{◌≡◌, drop, map}
use Rattle.std.specs.List.{list_any}
use Rattle.filter_tree.specs.Compare.{equals}
use Rattle.filter_tree.specs.Values.{datum_view, constant_view}
use Rattle.filter_tree.proofs.comparison.is_among.Given as goal

-- the value is among the literals that are left exactly if it is among all
abbrev pub invariant-loop-literal : goal.invariant-loop-literal
invariant-loop-literal g l =
    list_any (equals (datum_view l.value)) (map constant_view (drop l.literal-index l.literals))
    ≡ list_any (equals (datum_view l.value)) (map constant_view l.literals)
