use Rattle.std.proofs.Common.{◌≡◌, length}
use Rattle.sql_tokens.specs.Numbers.{number_from}
use Rattle.sql_tokens.proofs.numbers.value_of.Given as goal

abbrev pub invariant-loop-rest : goal.invariant-loop-rest
invariant-loop-rest l = number_from l.value l.rest ≡ number_from 0 l.digits

abbrev pub decreases-loop-rest : goal.decreases-loop-rest
decreases-loop-rest l = length l.rest
