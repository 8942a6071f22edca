-- The value of a term on a row that fits the columns is in the term's domain.
use Rattle.std.proofs.Common.{◌≡◌, ℕ, zero, suc, ◌-◌, ◌<◌, ◌≤◌, ℤ, pos, negsuc, neg_ℤ, ◌≤ℤ◌, List, [], ◌∷◌, length, refl, ap, subst, arith}
use Rattle.std.specs.Prelude.{Option, Some, None, IfSome, slice_get, int_rem, nat_abs}
use Rattle.std.specs.Int.{int_max, int_min}
use Rattle.std.specs.Ordering.{int_eq}
use Rattle.std.specs.Cmp.{signed_Decides}
use Rattle.std.proofs.Math.Nat.{mod-le, mod-zero}
use Rattle.std.proofs.lemmas.Int.{ints, clamps, rem_below}
use Rattle.std.proofs.lemmas.Option.{slice_get_past}
use Rattle.filter_tree.specs.Datum.{Constant, Number, Truth, Bytes, Datum, Missing, Known, value_at}
use Rattle.filter_tree.specs.Expr.{remainder_of, term_value}
use Rattle.filter_tree.specs.Lists.{column_of}
use Rattle.filter_tree.specs.Range.{least_of, greatest_of}
use Rattle.filter_tree.specs.Valid.{IsWithin}
use Rattle.filter_tree.specs.declared.filter.Term.{Term}
use Rattle.filter_tree.specs.declared.filter.Term.TheVariants.{Col, Mod}
use Rattle.filter_tree.specs.declared.table.ColType.{ColType}
use Rattle.filter_tree.specs.declared.table.ColType.TheVariants.{SmallInt, Integer, BigInt, Boolean, Text}
use Rattle.filter_tree.specs.declared.table.Column.{Column}
use Rattle.shard_checker.specs.Domain.{kind_in, kind_at, greatest_remainder, whole_range, range_within, range_of, IsIn, IsInDomain}
use Rattle.shard_checker.specs.Rows.{IsOfType, MayHold, IsTyped}
use Rattle.filter_tree.proofs.Tests.{by_test}

-- ---- remainders

-- the remainder is no farther from 0 than the number, and on its side
rem_between : (number divisor least greatest : ℤ) → least ≤ℤ pos 0 → pos 0 ≤ℤ greatest → least ≤ℤ number
    → number ≤ℤ greatest
    → (least ≤ℤ int_rem number divisor) × (int_rem number divisor ≤ℤ greatest)
rem_between (pos n) divisor least greatest low high above below =
    let small = mod-le n (nat_abs divisor) in (omega (arith, ints), omega (arith, ints))
rem_between (negsuc n) divisor least greatest low high above below =
    let small = mod-le (suc n) (nat_abs divisor) in (omega (arith, ints), omega (arith, ints))

-- a number that is nearer to 0 than another
near_above : (number : ℤ) (far : ℕ) → nat_abs number < suc far → neg_ℤ (pos far) ≤ℤ number
near_above (pos n) far near = omega (arith, ints)
near_above (negsuc n) far near = omega (arith, ints)

near_below : (number : ℤ) (far : ℕ) → nat_abs number < suc far → number ≤ℤ pos far
near_below (pos n) far near = omega (arith, ints)
near_below (negsuc n) far near = omega (arith, ints)

-- by a divisor that is not 0 it is nearer to 0 than the divisor
rem_within : (number divisor : ℤ) → (divisor ≡ pos 0 → ⊥)
    → (neg_ℤ (greatest_remainder divisor) ≤ℤ int_rem number divisor)
    × (int_rem number divisor ≤ℤ greatest_remainder divisor)
rem_within number (pos zero) divides = absurd (divides refl)
rem_within number (pos (suc k)) divides =
    let some : 0 < nat_abs (pos (suc k)) = omega arith in
    let near = rem_below number (pos (suc k)) some in
    let less : suc k - 1 ≡ k = omega arith in
    rw less (near_above (int_rem number (pos (suc k))) k near, near_below (int_rem number (pos (suc k))) k near)
rem_within number (negsuc k) divides =
    let some : 0 < nat_abs (negsuc k) = omega arith in
    let near = rem_below number (negsuc k) some in
    (near_above (int_rem number (negsuc k)) k near, near_below (int_rem number (negsuc k)) k near)

cut_above : (a b number : ℤ) → a ≤ℤ number → b ≤ℤ number → int_max a b ≤ℤ number
cut_above a b number above near = omega (arith, ints, clamps)

cut_below : (a b number : ℤ) → number ≤ℤ a → number ≤ℤ b → number ≤ℤ int_min a b
cut_below a b number below near = omega (arith, ints, clamps)

zero_above : (kind : ColType) → least_of kind ≤ℤ pos 0
zero_above SmallInt = omega (arith, ints)
zero_above Integer = omega (arith, ints)
zero_above BigInt = omega (arith, ints)
zero_above Boolean = omega (arith, ints)
zero_above Text = omega (arith, ints)

zero_below : (kind : ColType) → pos 0 ≤ℤ greatest_of kind
zero_below SmallInt = omega (arith, ints)
zero_below Integer = omega (arith, ints)
zero_below BigInt = omega (arith, ints)
zero_below Boolean = omega (arith, ints)
zero_below Text = omega (arith, ints)

rem_zero : (number : ℤ) → int_rem number (pos 0) ≡ number
rem_zero (pos n) = ap pos (mod-zero n)
rem_zero (negsuc n) = ap (λ k. neg_ℤ (pos k)) (mod-zero (suc n))

in_whole : (kind : ColType) (number : ℤ) → IsWithin kind number → IsIn (whole_range kind) number
in_whole kind number fits = record { above_least = fits.above_least; below_greatest = fits.below_greatest }

in_cut : (kind : ColType) (number divisor : ℤ) → IsWithin kind number → (divisor ≡ pos 0 → ⊥)
    → IsIn (range_within kind (greatest_remainder divisor)) (int_rem number divisor)
in_cut kind number divisor fits divides =
    let between = rem_between number divisor (least_of kind) (greatest_of kind) (zero_above kind) (zero_below kind)
    fits.above_least fits.below_greatest in
    let near = rem_within number divisor divides in
    record {
      above_least = cut_above (least_of kind) (neg_ℤ (greatest_remainder divisor)) (int_rem number divisor) between.0
          near.0;
      below_greatest = cut_below (greatest_of kind) (greatest_remainder divisor) (int_rem number divisor) between.1
          near.1;
    }

in_range : (kind : ColType) (column : ℕ) (number divisor : ℤ) → IsWithin kind number
    → IsIn (range_of kind (Mod column divisor)) (int_rem number divisor)
in_range kind column number divisor fits = by_test (int_eq divisor (pos 0))
    (λ zero_divisor. let e : divisor ≡ pos 0 = (signed_Decides divisor (pos 0)).0 zero_divisor in
    rw (zero_divisor, e, rem_zero) (in_whole kind number fits))
    (λ divides. rw divides
    (in_cut kind number divisor fits (λ e. let same = (signed_Decides divisor (pos 0)).1 e in cc)))

-- ---- values of terms

-- a term's value on a row, in the term's domain
pub record HasKnown (kind : ColType) (term : Term) (row : List Datum) : Type 0 where
  pub value : Constant
  pub is : term_value term row ≡ Known value
  pub in_domain : IsInDomain kind term value

of_number : (kind : ColType) (row : List Datum) (column : ℕ) (divisor number : ℤ)
    → value_at row column ≡ Known (Number number) → IsWithin kind number
    → (IsIn (range_of kind (Mod column divisor)) (int_rem number divisor)
    → IsInDomain kind (Mod column divisor) (Number (int_rem number divisor)))
    → HasKnown kind (Mod column divisor) row
of_number kind row column divisor number is fits domain =
    record {
      value = Number (int_rem number divisor);
      is = ap (λ v. remainder_of v divisor) is;
      in_domain =
          domain (in_range kind column number divisor fits);
    }

known_of : (kind : ColType) (term : Term) (row : List Datum) (value : Constant)
    → value_at row (column_of term) ≡ Known value → IsOfType kind value → HasKnown kind term row
known_of SmallInt (Col column) row (Number n) is fits =
    record { value = Number n; is = is; in_domain = in_whole SmallInt n fits }
known_of Integer (Col column) row (Number n) is fits =
    record { value = Number n; is = is; in_domain = in_whole Integer n fits }
known_of BigInt (Col column) row (Number n) is fits =
    record { value = Number n; is = is; in_domain = in_whole BigInt n fits }
known_of SmallInt (Mod column divisor) row (Number n) is fits = of_number SmallInt row column divisor n is fits (λ h. h)
known_of Integer (Mod column divisor) row (Number n) is fits = of_number Integer row column divisor n is fits (λ h. h)
known_of BigInt (Mod column divisor) row (Number n) is fits = of_number BigInt row column divisor n is fits (λ h. h)
known_of Boolean (Col column) row (Truth b) is fits = record { value = Truth b; is = is; in_domain = tt }
known_of Boolean (Mod column divisor) row (Truth b) is fits =
    record { value = Truth b; is = ap (λ v. remainder_of v divisor) is; in_domain = tt }
known_of Text (Col column) row (Bytes s) is fits = record { value = Bytes s; is = is; in_domain = tt }
known_of Text (Mod column divisor) row (Bytes s) is fits =
    record { value = Bytes s; is = ap (λ v. remainder_of v divisor) is; in_domain = tt }
known_of SmallInt term row (Truth b) is fits = absurd fits
known_of SmallInt term row (Bytes s) is fits = absurd fits
known_of Integer term row (Truth b) is fits = absurd fits
known_of Integer term row (Bytes s) is fits = absurd fits
known_of BigInt term row (Truth b) is fits = absurd fits
known_of BigInt term row (Bytes s) is fits = absurd fits
known_of Boolean term row (Number n) is fits = absurd fits
known_of Boolean term row (Bytes s) is fits = absurd fits
known_of Text term row (Number n) is fits = absurd fits
known_of Text term row (Truth b) is fits = absurd fits

past_from_none : (columns : List Column) (column : ℕ) → slice_get columns column ≡ None → length columns ≤ column
past_from_none [] column none = omega arith
past_from_none (first ∷ columns) zero none = absurd cc
past_from_none (first ∷ columns) (suc column) none = let shorter = past_from_none columns column none in omega arith

missing_past : (columns : List Column) (row : List Datum) (column : ℕ) → IsTyped columns row → length columns ≤ column
    → value_at row column ≡ Missing
missing_past columns row column valid past =
    let short : length row ≤ column = omega (arith, valid.wide) in
    rw (slice_get_past row column short) refl

-- the value of a column that is not null
column_known : (columns : List Column) (found : Option Column) (term : Term) (row : List Datum) (value : Constant)
    → IfSome found (λ column. MayHold column (Known value))
    → (found ≡ None → value_at row (column_of term) ≡ Missing) → value_at row (column_of term) ≡ Known value
    → HasKnown (kind_in found) term row
column_known columns None term row value fits past is = let gone = past refl in absurd cc
column_known columns (Some column) term row value fits past is = known_of column.kind term row value is fits

pub known_in_domain : (columns : List Column) (term : Term) (row : List Datum) (value : Constant)
    → IsTyped columns row → value_at row (column_of term) ≡ Known value
    → HasKnown (kind_at columns (column_of term)) term row
known_in_domain columns term row value valid is =
    column_known columns (slice_get columns (column_of term)) term row value
    (subst (λ v. IfSome (slice_get columns (column_of term)) (λ column. MayHold column v)) is
    (valid.fits (column_of term)))
    (λ none. missing_past columns row (column_of term) valid (past_from_none columns (column_of term) none))
    is
