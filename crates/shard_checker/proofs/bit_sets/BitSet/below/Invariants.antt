use Rattle.std.proofs.Common.{◌≡◌, ℕ}
use Rattle.std.specs.Prelude.{nat_lt}
use Rattle.shard_checker.specs.BitSets.{has}
use Rattle.shard_checker.proofs.bit_sets.BitSet.below.Given as goal

-- the numbers so far
abbrev pub invariant-loop-number : goal.invariant-loop-number
invariant-loop-number l = (other : ℕ) → has l.set other ≡ nat_lt other l.number
