use Rattle.std.proofs.Common.{◌≡◌, ◌++◌, drop}
use Rattle.replica_identity.specs.Plans.{plan_view}
use Rattle.shard_checker.specs.CatalogRefusal.{table_shares}
use Rattle.shard_checker.specs.Owners.{shares_view}
use Rattle.shard_checker.proofs.sharding.shares_in.Given as goal

-- the shares so far, and those of the subscribers that are left, are those of all
abbrev pub invariant-loop-number : goal.invariant-loop-number
invariant-loop-number l =
    shares_view l.shares.items ++ table_shares (plan_view l.plan) l.table l.number (drop l.number l.subscriptions)
    ≡ table_shares (plan_view l.plan) l.table 0 l.subscriptions
