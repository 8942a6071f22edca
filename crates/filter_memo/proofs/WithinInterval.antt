-- Numbers of an interval that no constant divides have the same order to each constant.
use Rattle.std.proofs.Common.{◌≡◌, ℕ, ◌<◌, ℤ, pos, ◌≤ℤ◌, Bool, true, false, ◌||◌, T, List, length, get_or, refl, sym, ap, subst, ◌∙◌, arith}
use Rattle.std.specs.Prelude.{◌<ℤ◌, int_lt, slice_index_or}
use Rattle.std.specs.Cmp.{Equal-is, int_cmp_is}
use Rattle.std.specs.List.{list_all}
use Rattle.std.specs.Ordering.{eq_by_cmp, int_cmp}
use Rattle.std.proofs.lemmas.Int.{ints}
use Rattle.std.proofs.lemmas.List.Folds.{list_all_at}
use Rattle.std.specs.declared.cmp.Ordering.TheVariants.{Less, Greater}
use Rattle.filter_tree.specs.Datum.{Constant, Number, Truth, Bytes, Datum, Known}
use Rattle.filter_tree.specs.Order.{datum_cmp}
use Rattle.filter_tree.specs.Values.{datum_view}
use Rattle.filter_tree.specs.declared.filter.Filter.{Filter}
use Rattle.filter_tree.specs.declared.value.Value.{Value}
use Rattle.filter_tree.specs.declared.value.Value.TheVariants.{Null}
use Rattle.filter_tree.proofs.OrderLemmas.{orders_values}
use Rattle.filter_tree.proofs.Tests.{by_test}
use Rattle.filter_memo.specs.Covering.{has}
use Rattle.filter_memo.specs.Intervals.{is_outside, AreAlike, IsOne, AreOutside, IsBetween, HasNoNumber}
use Rattle.filter_memo.specs.Telling.{IsInterval}
use Rattle.filter_memo.specs.declared.interval.Interval.{Interval}
use Rattle.filter_memo.specs.declared.breakpoints.Breakpoints.{Breakpoints}
use Rattle.filter_memo.proofs.Finding.{index_of}
use Rattle.filter_memo.proofs.Sides.{tied}

all_at : {X : Type 0} (test : X → Bool) (xs : List X) (index : ℕ) (d : X) → index < length xs
    → list_all test xs ≡ true → test (get_or xs index d) ≡ true
all_at test xs index d within all =
    by_test (test (get_or xs index d)) (λ yes. yes)
    (λ no. let none : list_all test xs ≡ false = list_all_at test xs index d within no in
    let both : true ≡ false = sym all ∙ none in absurd cc)

below : (number low value : ℤ) → int_lt number low ≡ true → low ≤ℤ value → number <ℤ value
below number low value h from = let apart : number <ℤ low = record { lt = subst T (sym h) tt } in omega (arith, ints)

above : (number high value : ℤ) → int_lt high number ≡ true → value ≤ℤ high → value <ℤ number
above number high value h upto = let apart : high <ℤ number = record { lt = subst T (sym h) tt } in omega (arith, ints)

is_less : (one other : ℤ) → one <ℤ other → int_cmp one other ≡ Less
is_less one other h = sym (int_cmp_is one other Less h)

is_greater : (one other : ℤ) → other <ℤ one → int_cmp one other ≡ Greater
is_greater one other h = sym (int_cmp_is one other Greater h)

-- a constant outside of the interval is below all its numbers, or above them
number_side : (number low high one other : ℤ) → (int_lt number low || int_lt high number) ≡ true → low ≤ℤ one
    → one ≤ℤ high → low ≤ℤ other → other ≤ℤ high → int_cmp number one ≡ int_cmp number other
number_side number low high one other h from upto from_other upto_other =
    by_test (int_lt number low)
    (λ yes. is_less number one (below number low one yes from)
    ∙ sym (is_less number other (below number low other yes from_other)))
    (λ no. let apart : int_lt high number ≡ true = rw no at h in
    is_greater number one (above number high one apart upto)
    ∙ sym (is_greater number other (above number high other apart upto_other)))

outside_side : (constant : Constant) (low high one other : ℤ) → is_outside (Known constant) low high ≡ true
    → low ≤ℤ one → one ≤ℤ high → low ≤ℤ other → other ≤ℤ high
    → datum_cmp (Known constant) (Known (Number one)) ≡ datum_cmp (Known constant) (Known (Number other))
outside_side (Number number) low high one other h from upto from_other upto_other =
    orders_values.numbers number one
    ∙ (number_side number low high one other h from upto from_other upto_other
    ∙ sym (orders_values.numbers number other))
outside_side (Truth truth) low high one other h from upto from_other upto_other = refl
outside_side (Bytes bytes) low high one other h from upto from_other upto_other = refl

-- numbers of an interval that has only one number are equal
by_one : (low high one other : ℤ) → low ≡ high → low ≤ℤ one → one ≤ℤ high → low ≤ℤ other → other ≤ℤ high → one ≡ other
by_one low high one other same from upto from_other upto_other = omega (arith, ints)

pub same_interval : {A : _} (bounds : List (Value A)) (v w : Datum) (low high : ℤ) → AreAlike bounds low high
    → IsBetween v low high → IsBetween w low high → (constant : Constant) → has bounds constant ≡ true
    → datum_cmp (Known constant) v ≡ datum_cmp (Known constant) w
same_interval bounds v w low high (IsOne same) at_v at_w constant h =
    let one : at_v.number ≡ at_w.number =
    by_one low high at_v.number at_w.number same at_v.from at_v.upto at_w.from at_w.upto in
    ap (datum_cmp (Known constant)) (at_v.is ∙ (ap (λ (n : ℤ). Known (Number n)) one ∙ sym at_w.is))
same_interval {A} bounds v w low high (AreOutside all) at_v at_w constant h =
    let bound = index_of (λ (value : Value A). eq_by_cmp datum_cmp (datum_view value) (Known constant)) bounds h in
    let is : datum_view (slice_index_or bounds bound.0 Null) ≡ Known constant =
    tied _ _ ((Equal-is _).0 (bound.1.1 Null)) in
    let outside : is_outside (datum_view (slice_index_or bounds bound.0 Null)) low high ≡ true =
    all_at (λ bound. is_outside (datum_view bound) low high) bounds bound.0 Null bound.1.0 all in
    ap (datum_cmp (Known constant)) at_v.is
    ∙ (outside_side constant low high at_v.number at_w.number
    (subst (λ (datum : Datum). is_outside datum low high ≡ true) is outside) at_v.from at_v.upto at_w.from at_w.upto
    ∙ sym (ap (datum_cmp (Known constant)) at_w.is))

pub no_number : {A : _} (parts : List (Filter A)) (all_breakpoints : List Breakpoints) (interval : Interval)
    → HasNoNumber interval
    → IsInterval parts all_breakpoints interval
no_number parts all_breakpoints interval none = record {
  tells = λ breakpoints row found within.
      absurd (never interval.low interval.high within.number none.low none.high within.from within.upto);
} where
  never : (low high number : ℤ) → low ≡ pos 1 → high ≡ pos 0 → low ≤ℤ number → number ≤ℤ high → ⊥
  never low high number p q from upto = omega (arith, ints)
