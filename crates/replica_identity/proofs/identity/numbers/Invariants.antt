use Rattle.std.proofs.Common.{◌≡◌}
use Rattle.replica_identity.specs.Identities.{numbers_to}
use Rattle.replica_identity.proofs.identity.numbers.Given as goal

abbrev pub invariant-loop-number : goal.invariant-loop-number
invariant-loop-number l = l.numbers.items ≡ numbers_to l.number
