use Rattle.std.proofs.Common.{◌≡◌, drop}
use Rattle.std.specs.List.{list_any}
use Rattle.replica_identity.specs.Plans.{plan_view}
use Rattle.replica_identity.specs.Transforms.{takes_any}
use Rattle.replica_identity.proofs.transforms.carries_any.Given as goal

-- one of the tables that are left is carried exactly if one of all is
abbrev pub invariant-loop-table : goal.invariant-loop-table
invariant-loop-table l =
    list_any (takes_any (plan_view l.plan) l.subscriber) (drop l.table-index l.tables)
    ≡ list_any (takes_any (plan_view l.plan) l.subscriber) l.tables
