-- Which values a term has when its column is not null: "8.1 Numeric Types" and the remainder of "9.3 Mathematical
-- Functions and Operators", whose sign is that of the number.
use Rattle.std.specs.Prelude.{ℕ, ◌-◌, ℤ, pos, negsuc, neg_ℤ, ◌≤ℤ◌, if◌then◌else◌, List, Option, Some, None, slice_get}
use Rattle.std.specs.Int.{int_max, int_min}
use Rattle.std.specs.Ordering.{int_eq}
use Rattle.filter_tree.specs.Datum.{Constant, Number, Truth, Bytes}
use Rattle.filter_tree.specs.Range.{least_of, greatest_of}
use Rattle.filter_tree.specs.declared.filter.Term.{Term}
use Rattle.filter_tree.specs.declared.filter.Term.TheVariants.{Col, Mod}
use Rattle.filter_tree.specs.declared.table.ColType.{ColType}
use Rattle.filter_tree.specs.declared.table.ColType.TheVariants.{SmallInt, Integer, BigInt, Boolean, Text}
use Rattle.filter_tree.specs.declared.table.Column.{Column}
use Rattle.shard_checker.specs.declared.domain.Range.{Range}

-- a column past the last counts as a bigint
abbrev pub kind_in : Option Column → ColType
kind_in None = BigInt
kind_in (Some column) = column.kind

abbrev pub kind_at : List Column → ℕ → ColType
kind_at columns column = kind_in (slice_get columns column)

-- ---- the domain of a term

-- the greatest remainder by a divisor that is not 0: its distance from 0, less 1
abbrev pub greatest_remainder : ℤ → ℤ
greatest_remainder (pos n) = pos (n - 1)
greatest_remainder (negsuc n) = pos n

abbrev pub whole_range : ColType → Range
whole_range kind = record { least = least_of kind; greatest = greatest_of kind }

-- the numbers of the type that are at most `far` from 0
abbrev pub range_within : ColType → ℤ → Range
range_within kind far =
    record { least = int_max (least_of kind) (neg_ℤ far); greatest = int_min (greatest_of kind) far }

-- the remainder by 0 is the number itself
abbrev pub range_of : ColType → Term → Range
range_of kind (Col column) = whole_range kind
range_of kind (Mod column divisor) = if int_eq divisor (pos 0) then
    whole_range kind else range_within kind (greatest_remainder divisor)

pub record IsIn (range : Range) (number : ℤ) : Type 0 where
  pub above_least : range.least ≤ℤ number
  pub below_greatest : number ≤ℤ range.greatest

-- the constant is a value of the term; the term's column has this type
abbrev pub IsInDomain : ColType → Term → Constant → Type 0
IsInDomain SmallInt term (Number number) = IsIn (range_of SmallInt term) number
IsInDomain Integer term (Number number) = IsIn (range_of Integer term) number
IsInDomain BigInt term (Number number) = IsIn (range_of BigInt term) number
IsInDomain Boolean term (Truth truth) = Unit {0}
IsInDomain Text term (Bytes bytes) = Unit {0}
IsInDomain _ _ _ = ⊥
