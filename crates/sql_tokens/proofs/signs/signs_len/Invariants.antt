use Rattle.std.proofs.Common.{◌≡◌, ◌+◌, length}
use Rattle.sql_tokens.specs.Operators.{signs_len}
use Rattle.sql_tokens.proofs.signs.signs_len.Given as goal

abbrev pub invariant-loop-rest : goal.invariant-loop-rest
invariant-loop-rest l = (l.length + signs_len l.rest ≡ signs_len l.bytes) × (l.length + length l.rest ≡ length l.bytes)

abbrev pub decreases-loop-rest : goal.decreases-loop-rest
decreases-loop-rest l = length l.rest
