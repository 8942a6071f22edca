use Rattle.std.proofs.Common.{◌≡◌, ◌++◌, drop, map}
use Rattle.filter_tree.specs.Values.{constant_view}
use Rattle.filter_tree.proofs.copies.copy_literals.Given as goal

-- the copies so far, and the literals that are left, are the list
abbrev pub invariant-loop-literal : goal.invariant-loop-literal
invariant-loop-literal g l =
    map constant_view l.copies.items ++ map constant_view (drop l.literal-index l.literals)
    ≡ map constant_view l.literals
