use Rattle.replica_identity.specs.Plans.{plan_view}
use Rattle.replica_identity.specs.Transforms.{takes_row}
use Rattle.row_owners.proofs.OwnerLemmas.{OwnedBelow}
use Rattle.row_owners.proofs.table_router.takers_by.Given as goal

abbrev pub invariant-loop-subscriber : goal.invariant-loop-subscriber
invariant-loop-subscriber l =
    OwnedBelow l.set l.subscriber (λ subscriber. takes_row (plan_view l.plan) subscriber l.table l.row)
