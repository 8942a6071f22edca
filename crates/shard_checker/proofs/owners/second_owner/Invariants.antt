use Rattle.std.proofs.Common.{◌≡◌, drop}
use Rattle.std.specs.Prelude.{map}
use Rattle.shard_checker.specs.LeafMasks.{all_at}
use Rattle.shard_checker.specs.Steps.{mask_in, second_among}
use Rattle.shard_checker.proofs.owners.second_owner.Given as goal

-- the result for the shares that are left is that for all
abbrev pub invariant-loop-number : goal.invariant-loop-number
invariant-loop-number l =
    second_among l.owner l.number (map (mask_in (all_at l.leaf l.masks)) (drop l.number l.roots))
    ≡ second_among l.owner 0 (map (mask_in (all_at l.leaf l.masks)) l.roots)
