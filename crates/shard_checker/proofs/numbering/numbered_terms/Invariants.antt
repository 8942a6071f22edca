use Rattle.std.proofs.Common.{◌≡◌, drop}
use Rattle.std.specs.Prelude.{fold, flat_map}
use Rattle.filter_tree.specs.Lists.{with_item}
use Rattle.filter_tree.specs.Same.{same_term}
use Rattle.shard_checker.specs.Numbering.{share_terms, numbered_terms}
use Rattle.shard_checker.specs.Owners.{shares_view}
use Rattle.shard_checker.proofs.numbering.numbered_terms.Given as goal

-- with those of the shares that are left they are those of all
abbrev pub invariant-loop-share : goal.invariant-loop-share
invariant-loop-share g l =
    fold (with_item same_term) l.terms.items (flat_map share_terms (shares_view (drop l.share-index l.shares)))
    ≡ numbered_terms (shares_view l.shares)
