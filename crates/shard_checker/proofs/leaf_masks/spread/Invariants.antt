use Rattle.std.proofs.Common.{◌≡◌, ℕ, ◌<◌, ◌++◌, drop}
use Rattle.shard_checker.specs.LeafMasks.{all_at}
use Rattle.shard_checker.proofs.leaf_masks.spread.Given as goal

-- with the sets that are left those so far are all
abbrev pub invariant-loop-set : goal.invariant-loop-set
invariant-loop-set l = (leaf : ℕ) → leaf < 64 → all_at leaf l.masks.items ++ drop l.set-index l.sets ≡ l.sets
