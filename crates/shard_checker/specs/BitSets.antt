-- Sets of numbers as bits of words.
use Rattle.std.specs.Prelude.{◌≡◌, ◌<◌, ℕ, ◌==◌, ◌/◌, ◌%◌, Bool, true, false, ◌&&◌, ◌||◌, List, length, slice_index}
use Rattle.std.specs.Int.{bit_at}
use Rattle.shard_checker.specs.declared.bit_sets.BitSet.{BitSet}

-- the bit of the number is set in its word
abbrev pub has_bit : List ℕ → ℕ → Bool
has_bit words number = bit_at (slice_index words (number / 64)) (number % 64) == 1

-- the set has the number
abbrev pub has : BitSet → ℕ → Bool
has set number = has_bit set.words.items number

-- a word for the number exists
abbrev pub HasRoom : BitSet → ℕ → Type 0
HasRoom set number = number / 64 < length set.words.items

-- the number is put into the set if `is_there`
pub record Puts (old new : BitSet) (number : ℕ) (is_there : Bool) : Type 0 where
  pub each : (other : ℕ) → has new other ≡ (has old other || ((other == number) && is_there))

-- a number that is in both sets
pub record HaveBoth (one other : BitSet) : Type 0 where
  pub number : ℕ
  pub first : has one number ≡ true
  pub second : has other number ≡ true

-- whether some number is in both sets
abbrev pub TellsMeeting : BitSet → BitSet → Bool → Type 0
TellsMeeting one other true = HaveBoth one other
TellsMeeting one other false = (number : ℕ) → (has one number && has other number) ≡ false
