use Rattle.std.proofs.Common.{◌≡◌, ◌++◌, [], drop}
use Rattle.filter_tree.specs.Shape.{atoms_view}
use Rattle.shard_checker.specs.KnownAtoms.{atom_masks}
use Rattle.shard_checker.proofs.known.Known.new.Given as goal

-- with the atoms that are left the sets are those of all
abbrev pub invariant-loop-atom : goal.invariant-loop-atom
invariant-loop-atom g l =
    l.masks.items ++ atom_masks (atoms_view (drop l.atom-index l.atoms)) [] ≡ atom_masks (atoms_view l.atoms) []
