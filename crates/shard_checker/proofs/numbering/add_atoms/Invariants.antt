use Rattle.std.proofs.Common.{◌≡◌, drop}
use Rattle.std.specs.Prelude.{fold}
use Rattle.filter_tree.specs.Lists.{with_item}
use Rattle.filter_tree.specs.Shape.{atoms_view}
use Rattle.filter_tree.specs.Same.{same_atom}
use Rattle.shard_checker.proofs.numbering.add_atoms.Given as goal

-- with those that are left they are what they are with all
abbrev pub invariant-loop-atom : goal.invariant-loop-atom
invariant-loop-atom g l =
    fold (with_item same_atom) (atoms_view l.atoms.items) (atoms_view (drop l.atom-index l.more))
    ≡ fold (with_item same_atom) (atoms_view l.fn.atoms.items) (atoms_view l.more)
