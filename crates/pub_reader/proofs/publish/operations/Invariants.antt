use Rattle.std.proofs.Common.{◌≡◌}
use Rattle.std.specs.Prelude.{Some}
use Rattle.pub_reader.specs.Operations.{no_operation, parts, parts_after, rest_length, all_listed}
use Rattle.pub_reader.proofs.publish.operations.Given as goal

abbrev pub invariant-loop-rest : goal.invariant-loop-rest
invariant-loop-rest l = all_listed (Some l.listed) (parts_after l.rest) ≡ all_listed (Some no_operation) (parts l.text)

abbrev pub decreases-loop-rest : goal.decreases-loop-rest
decreases-loop-rest l = rest_length l.rest
