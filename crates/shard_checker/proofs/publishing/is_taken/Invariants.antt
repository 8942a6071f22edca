use Rattle.std.proofs.Common.{◌≡◌, drop}
use Rattle.shard_checker.specs.Sound.{is_taken}
use Rattle.shard_checker.proofs.publishing.is_taken.Given as goal

-- one that is left names it exactly if one of all does
abbrev pub invariant-loop-subscription : goal.invariant-loop-subscription
invariant-loop-subscription l =
    is_taken (drop l.subscription-index l.subscriptions) l.publication ≡ is_taken l.subscriptions l.publication
