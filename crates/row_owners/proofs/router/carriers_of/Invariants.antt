use Rattle.std.proofs.Common.{take}
use Rattle.std.specs.List.{list_any}
use Rattle.replica_identity.specs.Plans.{plan_view}
use Rattle.replica_identity.specs.Transforms.{takes_any}
use Rattle.row_owners.specs.Owners.{OwnedWhere}
use Rattle.row_owners.proofs.router.carriers_of.Given as goal

-- those that get anything from one of the tables so far
abbrev pub invariant-loop-table : goal.invariant-loop-table
invariant-loop-table l =
    OwnedWhere l.set (λ subscriber. list_any (takes_any (plan_view l.plan) subscriber) (take l.table-index l.tables))
