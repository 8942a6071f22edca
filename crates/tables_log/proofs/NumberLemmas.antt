-- Keys that are one number, and other keys: which are the same, and what is found by each after a change.
use Rattle.std.proofs.Common.{◌≡◌, ℤ, Bool, true, false, List, [], ◌∷◌, refl, sym, ◌∙◌, ap}
use Rattle.std.specs.Prelude.{Option, Some, None, is_some, if◌then◌else◌}
use Rattle.std.specs.Ordering.{eq_by_cmp, int_cmp, is_eq}
use Rattle.filter_tree.specs.Datum.{Datum, Missing, Known, Number, Truth, Bytes}
use Rattle.filter_tree.specs.Order.{datum_cmp, row_cmp}
use Rattle.filter_tree.specs.Same.{same_row}
use Rattle.filter_tree.proofs.OrderLemmas.{orders_values, then_equal, ties_same_rows}
use Rattle.filter_tree.proofs.SameLemmas.{equal_from_same_row}
use Rattle.tables_log.specs.NumberKeys.{number_of_key, number_key, by_case, by_number, HasNoNumber}

-- ---- which keys are the same

pub key_of_number : (key : List Datum) (number : ℤ) → number_of_key key ≡ Some number → key ≡ number_key number
key_of_number [] number is = absurd cc
key_of_number (Missing ∷ values) number is = absurd cc
key_of_number (Known (Truth truth) ∷ values) number is = absurd cc
key_of_number (Known (Bytes bytes) ∷ values) number is = absurd cc
key_of_number (Known (Number other) ∷ []) number is = let same : other ≡ number = cc in ap number_key same
key_of_number (Known (Number other) ∷ value ∷ values) number is = absurd cc

pub numbers_tie : (one other : ℤ) → eq_by_cmp int_cmp one other ≡ same_row (number_key one) (number_key other)
numbers_tie one other =
    sym (ap is_eq (then_equal (datum_cmp (Known (Number one)) (Known (Number other)))
    ∙ orders_values.numbers one other))
    ∙ ties_same_rows (number_key one) (number_key other)

pub not_true : (b : Bool) → (b ≡ true → ⊥) → b ≡ false
not_true true never = absurd (never refl)
not_true false never = refl

-- a key that is one number, and one that is not
pub number_apart : (number : ℤ) (other : List Datum) → number_of_key other ≡ None
    → same_row (number_key number) other ≡ false
number_apart number other none = not_true (same_row (number_key number) other)
    (λ same. let equal : number_of_key (number_key number) ≡ number_of_key other =
    ap number_of_key (equal_from_same_row (number_key number) other same) in absurd cc)

pub row_apart : (key : List Datum) (number : ℤ) → number_of_key key ≡ None → same_row key (number_key number) ≡ false
row_apart key number none = not_true (same_row key (number_key number))
    (λ same. let equal : number_of_key key ≡ number_of_key (number_key number) =
    ap number_of_key (equal_from_same_row key (number_key number) same) in absurd cc)

-- ---- what is found by them

pub found_number : {X : Type 0} (of_number : ℤ → X) (of_key : List Datum → X) (key : List Datum) (number : ℤ)
    → number_of_key key ≡ Some number
    → by_number of_number of_key key ≡ of_number number
found_number of_number of_key key number is = ap (by_case of_number (of_key key)) is

pub found_row : {X : Type 0} (of_number : ℤ → X) (of_key : List Datum → X) (key : List Datum) → number_of_key key ≡ None
    → by_number of_number of_key key ≡ of_key key
found_row of_number of_key key none = ap (by_case of_number (of_key key)) none

by_kind : (key : List Datum) (P : Type 0) → ((number : ℤ) → number_of_key key ≡ Some number → P)
    → (number_of_key key ≡ None → P) → P
by_kind key P of_number of_row = by (number_of_key key) refl
  where
    by : (found : Option ℤ) → number_of_key key ≡ found → P
    by None is = of_row is
    by (Some number) is = of_number number is

pub puts_number : {V : Type 0} (old new : ℤ → Option V) (rows : List Datum → Option V) (key : List Datum) (number : ℤ)
    (value : Option V) → number_of_key key ≡ Some number
    → ((other : ℤ) → new other ≡ (if eq_by_cmp int_cmp number other then value else old other))
    → (other : List Datum) → by_number new rows other ≡ (if same_row key other then value else by_number old rows other)
puts_number old new rows key number value is puts other = by_kind other _
    (λ another is_other.
    let tie : eq_by_cmp int_cmp number another ≡ same_row key other =
    cc (numbers_tie number another, key_of_number key number is, key_of_number other another is_other) in
    found_number new rows other another is_other ∙ puts another ∙ ap (λ b. if b then value else old another) tie
    ∙ sym (ap (λ found. if same_row key other then value else found) (found_number old rows other another is_other)))
    (λ none.
    let apart : same_row key other ≡ false = ap (λ k. same_row k other) (key_of_number key number is)
    ∙ number_apart number other none in
    found_row new rows other none ∙ sym (found_row old rows other none)
    ∙ sym (ap (λ b. if b then value else by_number old rows other) apart))

pub puts_row : {V : Type 0} (numbers : ℤ → Option V) (old new : List Datum → Option V) (key : List Datum)
    (value : Option V) → number_of_key key ≡ None
    → ((other : List Datum) → new other ≡ (if eq_by_cmp row_cmp key other then value else old other))
    → (other : List Datum)
    → by_number numbers new other ≡ (if same_row key other then value else by_number numbers old other)
puts_row numbers old new key value none puts other = by_kind other _
    (λ number is.
    let apart : same_row key other ≡ false = ap (same_row key) (key_of_number other number is)
    ∙ row_apart key number none in
    found_number numbers new other number is ∙ sym (found_number numbers old other number is)
    ∙ sym (ap (λ b. if b then value else by_number numbers old other) apart))
    (λ no_number.
    found_row numbers new other no_number ∙ puts other
    ∙ ap (λ b. if b then value else old other) (ties_same_rows key other)
    ∙ sym (ap (λ found. if same_row key other then value else found) (found_row numbers old other no_number)))

-- ---- no key that is one number

pub not_number : {V : Type 0} (found : List Datum → Option V) (key : List Datum) (value : V) → HasNoNumber found
    → found key ≡ Some value → number_of_key key ≡ None
not_number found key value none is = by_kind key _
    (λ number is_number.
    let there : is_some (found (number_key number)) ≡ true =
    ap is_some (sym (ap found (key_of_number key number is_number)) ∙ is) in
    let not_there = none number in
    absurd cc)
    (λ no_number. no_number)
