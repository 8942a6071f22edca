use Rattle.std.proofs.Common.{◌≡◌, drop}
use Rattle.std.specs.Prelude.{fold, flat_map}
use Rattle.filter_tree.specs.Lists.{with_item}
use Rattle.filter_tree.specs.Shape.{atoms_view}
use Rattle.filter_tree.specs.Same.{same_atom}
use Rattle.shard_checker.specs.Numbering.{share_atoms, numbered_atoms}
use Rattle.shard_checker.specs.Owners.{shares_view}
use Rattle.shard_checker.proofs.numbering.numbered_atoms.Given as goal

-- with those of the shares that are left they are those of all
abbrev pub invariant-loop-share : goal.invariant-loop-share
invariant-loop-share g l =
    fold (with_item same_atom) (atoms_view l.atoms.items)
    (flat_map share_atoms (shares_view (drop l.share-index l.shares))) ≡ numbered_atoms (shares_view l.shares)
