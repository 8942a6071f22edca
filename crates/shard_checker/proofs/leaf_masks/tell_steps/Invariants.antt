use Rattle.std.proofs.Common.{◌≡◌, ℕ, ◌<◌, [], drop}
use Rattle.shard_checker.specs.LeafMasks.{all_at}
use Rattle.shard_checker.specs.Steps.{masks_of}
use Rattle.shard_checker.proofs.leaf_masks.tell_steps.Given as goal

-- with the steps that are left the sets are those of all
abbrev pub invariant-loop-step : goal.invariant-loop-step
invariant-loop-step l = (leaf : ℕ) → leaf < 64
    → masks_of (all_at leaf l.atoms) (all_at leaf l.masks.items) (drop l.step-index l.steps)
    ≡ masks_of (all_at leaf l.atoms) [] l.steps
