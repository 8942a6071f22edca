use Rattle.std.proofs.Common.{◌≡◌, ℕ, ◌<◌, ◌/◌, false, ◌&&◌}
use Rattle.shard_checker.specs.BitSets.{has}
use Rattle.shard_checker.proofs.bit_sets.BitSet.meets.Given as goal

-- no number of the words so far is in both
abbrev pub invariant-loop-index : goal.invariant-loop-index
invariant-loop-index l = (number : ℕ) → number / 64 < l.index → (has l.self number && has l.other number) ≡ false
