use Rattle.std.proofs.Common.{◌≡◌, drop}
use Rattle.std.specs.Prelude.{fold}
use Rattle.filter_tree.specs.Lists.{with_item}
use Rattle.filter_tree.specs.Same.{same_term}
use Rattle.shard_checker.proofs.numbering.add_terms.Given as goal

-- with those that are left they are what they are with all
abbrev pub invariant-loop-term : goal.invariant-loop-term
invariant-loop-term l =
    fold (with_item same_term) l.terms.items (drop l.term-index l.more)
    ≡ fold (with_item same_term) l.fn.terms.items l.more
