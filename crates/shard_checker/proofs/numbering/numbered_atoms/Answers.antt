use Rattle.std.proofs.Common.{sym, ◌∙◌}
use Rattle.std.specs.Prelude.{fold, flat_map}
use Rattle.std.proofs.lemmas.List.{at_drop_all}
use Rattle.filter_tree.specs.Lists.{with_item}
use Rattle.filter_tree.specs.Shape.{atoms_view}
use Rattle.filter_tree.specs.Same.{same_atom}
use Rattle.shard_checker.specs.Numbering.{share_atoms}
use Rattle.shard_checker.specs.Owners.{shares_view}
use Rattle.shard_checker.proofs.numbering.numbered_atoms.Goals as goal

-- no share is left
pub returns : goal.returns
returns g c =
    sym (at_drop_all (λ rest. fold (with_item same_atom) (atoms_view c.loop-share.atoms.items)
    (flat_map share_atoms (shares_view rest))) c.args.shares.now c.loop-share.share-index c.loop-share-test.false)
    ∙
    c.loop-share.invariant
