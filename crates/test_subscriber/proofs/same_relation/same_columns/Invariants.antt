use Rattle.std.proofs.Common.{◌≡◌, drop}
use Rattle.test_subscriber.specs.SameRelation.{same_columns}
use Rattle.test_subscriber.proofs.same_relation.same_columns.Given as goal

-- the remaining columns are the same exactly if all are
abbrev pub invariant-loop-number : goal.invariant-loop-number
invariant-loop-number l = same_columns (drop l.number l.one) (drop l.number l.other) ≡ same_columns l.one l.other
