-- Truth values of numbered filters, as two words of bits.
use Rattle.std.specs.Prelude.{◌≡◌, ◌<◌, ◌==◌, ◌||◌, ℕ, Bool, true, false, not, if◌then◌else◌, nat_lt}
use Rattle.std.specs.Int.{bit_at}
use Rattle.filter_tree.specs.Logic.{or_of, not_of}
use Rattle.filter_tree.specs.declared.tri.Tri.{Tri}
use Rattle.filter_tree.specs.declared.tri.Tri.TheVariants.{True, False, Null}
use Rattle.filter_memo.specs.declared.clause.Values.{Values}
use Rattle.filter_memo.specs.declared.said.Said.{Said}

-- the number's bit is set
abbrev pub is_set : ℕ → ℕ → Bool
is_set word number = bit_at word number == 1

-- true where the first bit is set, else null where the second one is
abbrev pub tri_by : Bool → Bool → Tri
tri_by true null = True
tri_by false true = Null
tri_by false false = False

abbrev pub said_at : Said → ℕ → Tri
said_at said number = tri_by (is_set said.truths number) (is_set said.nulls number)

-- false from 64 on
abbrev pub said_within : Said → ℕ → Tri
said_within said number = if nat_lt number 64 then said_at said number else False

-- a word with one more bit
pub record SetsBit (old new number : ℕ) : Type 0 where
  pub each : (other : ℕ) → is_set new other ≡ (is_set old other || (other == number))

-- the bits of both words
pub record HasBoth (one other both : ℕ) : Type 0 where
  pub each : (number : ℕ) → is_set both number ≡ (is_set one number || is_set other number)

-- the number's value is joined with this one, and the others stay
pub record Adds (old new : Said) (number : ℕ) (tri : Tri) : Type 0 where
  pub each : (other : ℕ) → other < 64
      → said_at new other ≡ (if other == number then or_of (said_at old other) tri else said_at old other)

-- each number's values are joined
pub record Joins (one other both : Said) : Type 0 where
  pub each : (number : ℕ) → said_at both number ≡ or_of (said_at one number) (said_at other number)

-- nothing is true or null
pub record IsNothing (said : Said) : Type 0 where
  pub each : (number : ℕ) → said_at said number ≡ False

-- the other bits of a word
pub record Inverts (old new : ℕ) : Type 0 where
  pub each : (number : ℕ) → number < 64 → is_set new number ≡ not (is_set old number)

-- the same values as three words: by the words for true and null, and for false and null
pub record IsSplit (said : Said) (values : Values) : Type 0 where
  pub holds : (number : ℕ) → number < 64
      → tri_by (is_set values.truths number) (is_set values.nulls number) ≡ said_at said number
  pub fails : (number : ℕ) → number < 64
      → tri_by (is_set values.falses number) (is_set values.nulls number) ≡ not_of (said_at said number)
