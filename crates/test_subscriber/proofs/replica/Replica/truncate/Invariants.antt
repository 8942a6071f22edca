use Rattle.std.proofs.Common.{drop}
use Rattle.test_subscriber.specs.Answers.{SameOutcome, Stays}
use Rattle.test_subscriber.specs.Hearing.{hear_truncate}
use Rattle.test_subscriber.specs.Views.{machine_view}
use Rattle.test_subscriber.proofs.replica.Replica.truncate.Given as goal

-- the remaining tables end as all do
abbrev pub invariant-loop-oid : goal.invariant-loop-oid
invariant-loop-oid l =
    SameOutcome (hear_truncate (drop l.oid-index l.oids) (machine_view l.self))
    (hear_truncate l.oids (machine_view l.initial.self))
    × Stays (machine_view l.initial.self) (machine_view l.self)
