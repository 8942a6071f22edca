use Rattle.std.proofs.Common.{◌≡◌, ℕ, ◌<◌, length, get_or}
use Rattle.std.specs.Prelude.{bit_and}
use Rattle.shard_checker.proofs.bit_sets.BitSet.both.Given as goal

-- the words so far have the bits that both have
abbrev pub invariant-loop-index : goal.invariant-loop-index
invariant-loop-index l = record {
  long : length l.words.items ≡ l.index;
  each : (index : ℕ) → index < l.index → get_or l.words.items index 0
      ≡ bit_and (get_or l.self.words.items index 0) (get_or l.other.words.items index 0);
}
