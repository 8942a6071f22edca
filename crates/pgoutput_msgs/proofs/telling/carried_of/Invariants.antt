use Rattle.std.proofs.Common.{drop}
use Rattle.replica_identity.specs.Plans.{plan_view}
use Rattle.replica_identity.specs.Transforms.{takes_any}
use Rattle.pgoutput_msgs.proofs.TellingLemmas.{Keeps}
use Rattle.pgoutput_msgs.proofs.telling.carried_of.Given as goal

abbrev pub invariant-loop-number : goal.invariant-loop-number
invariant-loop-number l =
    Keeps (takes_any (plan_view l.plan) l.subscriber) l.numbers l.carried.items (drop l.number-index l.numbers)
