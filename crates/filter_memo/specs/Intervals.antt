-- Intervals whose numbers all compare in the same way with given constants: PostgreSQL 15, 9.2 Comparison Functions and
-- Operators.
use Rattle.std.specs.Prelude.{◌≡◌, ℤ, pos, ◌≤ℤ◌, Bool, true, ◌||◌, List, int_lt}
use Rattle.std.specs.List.{list_all}
use Rattle.filter_tree.specs.Datum.{Number, Truth, Bytes, Datum, Missing, Known}
use Rattle.filter_tree.specs.Values.{datum_view}
use Rattle.filter_tree.specs.declared.value.Value.{Value}
use Rattle.filter_memo.specs.declared.interval.Interval.{Interval}

-- the constant is not a number from `low` to `high`
abbrev pub is_outside : Datum → ℤ → ℤ → Bool
is_outside Missing low high = true
is_outside (Known (Number number)) low high = int_lt number low || int_lt high number
is_outside (Known (Truth truth)) low high = true
is_outside (Known (Bytes bytes)) low high = true

abbrev pub are_outside : {A : _} → List (Value A) → ℤ → ℤ → Bool
are_outside bounds low high = list_all (λ bound. is_outside (datum_view bound) low high) bounds

-- no constant divides the numbers from `low` to `high`
pub data AreAlike {A : _} (bounds : List (Value A)) (low high : ℤ) : Type 0 where
  IsOne : low ≡ high → AreAlike bounds low high
  AreOutside : are_outside bounds low high ≡ true → AreAlike bounds low high

-- the value is a number from `low` to `high`
pub record IsBetween (datum : Datum) (low high : ℤ) : Type 0 where
  pub number : ℤ
  pub is : datum ≡ Known (Number number)
  pub from : low ≤ℤ number
  pub upto : number ≤ℤ high

-- the interval contains no number
pub record HasNoNumber (interval : Interval) : Type 0 where
  pub low : interval.low ≡ pos 1
  pub high : interval.high ≡ pos 0
