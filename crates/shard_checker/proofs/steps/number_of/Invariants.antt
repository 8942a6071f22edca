use Rattle.std.proofs.Common.{◌≡◌, true, drop}
use Rattle.std.specs.List.{list_any}
use Rattle.filter_tree.specs.Same.{same_atom}
use Rattle.filter_tree.specs.Shape.{atom_view, atoms_view}
use Rattle.shard_checker.proofs.steps.number_of.Given as goal

-- the atom is among those that are left
abbrev pub invariant-loop-number : goal.invariant-loop-number
invariant-loop-number g l = list_any (same_atom (atom_view l.atom)) (atoms_view (drop l.number l.atoms)) ≡ true
