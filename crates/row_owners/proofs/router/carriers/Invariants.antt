use Rattle.replica_identity.specs.Plans.{plan_view}
use Rattle.replica_identity.specs.Transforms.{takes_any}
use Rattle.row_owners.proofs.OwnerLemmas.{OwnedBelow}
use Rattle.row_owners.proofs.router.carriers.Given as goal

abbrev pub invariant-loop-subscriber : goal.invariant-loop-subscriber
invariant-loop-subscriber l =
    OwnedBelow l.set l.subscriber (λ subscriber. takes_any (plan_view l.plan) subscriber l.table)
