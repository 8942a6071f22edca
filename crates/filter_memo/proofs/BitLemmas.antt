-- Truth values as bits.
use Rattle.std.proofs.Common.{◌≡◌, ℕ, zero, suc, ◌*◌, ◌/◌, ◌%◌, ◌^◌, ◌<◌, ◌≤◌, max, Bool, true, false, ◌||◌, refl, sym, ap, ◌∙◌, inl, inr, arith, w64}
use Rattle.std.specs.Prelude.{◌==◌, bit_and, bit_or, if◌then◌else◌, nat_lt}
use Rattle.std.specs.Int.{bit_at}
use Rattle.std.proofs.lemmas.Bool.{cases_eq, eq-eqb, ne_eqb, lt-ltb, le-ltb}
use Rattle.std.proofs.lemmas.Nat.Bits.{bit_at-zero, bit_at-lt, bit_at_or, bit_at_set_same, bit_at_set_other, shr_and_one}
use Rattle.filter_tree.specs.Logic.{or_of}
use Rattle.filter_tree.specs.declared.tri.Tri.{Tri}
use Rattle.filter_tree.specs.declared.tri.Tri.TheVariants.{True, False, Null}
use Rattle.filter_tree.proofs.Tests.{or_true, or_false}
use Rattle.filter_memo.specs.Bits.{is_set, tri_by, said_at, said_within, SetsBit, HasBoth, Adds, Joins, IsNothing}
use Rattle.filter_memo.specs.declared.said.Said.{Said}

-- ---- words

set_each : (word number other : ℕ) → number < 64
    → is_set (bit_or word (1 * 2 ^ number % 2 ^ 64)) other ≡ (is_set word other || (other == number))
set_each word number other within =
    elim (cases_eq other number) [
      | inl same ↦
          eq-eqb _ 1 (ap (bit_at (bit_or word (1 * 2 ^ number % 2 ^ 64))) same ∙ bit_at_set_same w64 word number within)
          ∙ sym (ap (λ (b : Bool). is_set word other || b) (eq-eqb other number same) ∙ or_true (is_set word other))
      | inr apart ↦
          ap (λ (n : ℕ). n == 1) (bit_at_set_other w64 word number within other apart)
          ∙ sym (ap (λ (b : Bool). is_set word other || b) (ne_eqb other number apart) ∙ or_false (is_set word other))
    ]

pub bit_set : (word number : ℕ) → number < 64 → SetsBit word (bit_or word (1 * 2 ^ number % 2 ^ 64)) number
bit_set word number within = record { each = λ other. set_each word number other within }

pub bit_tested : (word number : ℕ) → (bit_and (word / 2 ^ number) 1 == 1) ≡ is_set word number
bit_tested word number = ap (λ n. n == 1) (shr_and_one word number)

max_is_one : (a b : ℕ) → a < 2 → b < 2 → (max a b == 1) ≡ ((a == 1) || (b == 1))
max_is_one zero zero p q = refl
max_is_one zero (suc zero) p q = refl
max_is_one (suc zero) zero p q = refl
max_is_one (suc zero) (suc zero) p q = refl
max_is_one zero (suc (suc b)) p q = absurd (omega (arith, q))
max_is_one (suc zero) (suc (suc b)) p q = absurd (omega (arith, q))
max_is_one (suc (suc a)) b p q = absurd (omega (arith, p))

pub bits_joined : (one other : ℕ) → HasBoth one other (bit_or one other)
bits_joined one other = record {
  each = λ number. ap (λ n. n == 1) (bit_at_or one other number)
      ∙ max_is_one (bit_at one number) (bit_at other number) (bit_at-lt one number) (bit_at-lt other number);
}

-- ---- values

pub nothing_said : (said : Said) → said.truths ≡ 0 → said.nulls ≡ 0 → IsNothing said
nothing_said said p q = record {
  each = λ number.
      let truth : is_set said.truths number ≡ false = rw p (ap (λ n. n == 1) (bit_at-zero number)) in
      let null : is_set said.nulls number ≡ false = rw q (ap (λ n. n == 1) (bit_at-zero number)) in
      rw (truth, null) refl;
}

pub joined : (p q r s : Bool) → tri_by (p || q) (r || s) ≡ or_of (tri_by p r) (tri_by q s)
joined true true true true = refl
joined true true true false = refl
joined true true false true = refl
joined true true false false = refl
joined true false true true = refl
joined true false true false = refl
joined true false false true = refl
joined true false false false = refl
joined false true true true = refl
joined false true true false = refl
joined false true false true = refl
joined false true false false = refl
joined false false true true = refl
joined false false true false = refl
joined false false false true = refl
joined false false false false = refl

pub values_joined : (one other both : Said) → HasBoth one.truths other.truths both.truths
    → HasBoth one.nulls other.nulls both.nulls → Joins one other both
values_joined one other both truths nulls = record {
  each = λ number.
      let truth = truths.each number in
      let null = nulls.each number in
      rw (truth, null) (joined (is_set one.truths number) (is_set other.truths number) (is_set one.nulls number)
      (is_set other.nulls number));
}

-- one more truth, and one more null
truth_more : (p r b : Bool) → tri_by (p || b) r ≡ (if b then or_of (tri_by p r) True else tri_by p r)
truth_more true true true = refl
truth_more true true false = refl
truth_more true false true = refl
truth_more true false false = refl
truth_more false true true = refl
truth_more false true false = refl
truth_more false false true = refl
truth_more false false false = refl

null_more : (p r b : Bool) → tri_by p (r || b) ≡ (if b then or_of (tri_by p r) Null else tri_by p r)
null_more true true true = refl
null_more true true false = refl
null_more true false true = refl
null_more true false false = refl
null_more false true true = refl
null_more false true false = refl
null_more false false true = refl
null_more false false false = refl

false_more : (tri : Tri) (b : Bool) → tri ≡ (if b then or_of tri False else tri)
false_more True true = refl
false_more True false = refl
false_more False true = refl
false_more False false = refl
false_more Null true = refl
false_more Null false = refl

pub true_added : (old new : Said) (number : ℕ) → SetsBit old.truths new.truths number → new.nulls ≡ old.nulls
    → Adds old new number True
true_added old new number sets same = record {
  each = λ other within.
      let truth = sets.each other in
      rw (truth, same) (truth_more (is_set old.truths other) (is_set old.nulls other) (other == number));
}

pub null_added : (old new : Said) (number : ℕ) → new.truths ≡ old.truths → SetsBit old.nulls new.nulls number
    → Adds old new number Null
null_added old new number same sets = record {
  each = λ other within.
      let null = sets.each other in
      rw (same, null) (null_more (is_set old.truths other) (is_set old.nulls other) (other == number));
}

pub false_added : (said : Said) (number : ℕ) → Adds said said number False
false_added said number = record { each = λ other within. false_more (said_at said other) (other == number) }

pub past_added : (said : Said) (number : ℕ) (tri : Tri) → 64 ≤ number → Adds said said number tri
past_added said number tri past = record {
  each = λ other within.
      let apart : (other == number) ≡ false = ne_eqb other number (λ same. absurd (omega (arith, same))) in
      rw apart refl;
}

pub said_by_bits : (said : Said) (number : ℕ) → number < 64 → said_within said number ≡ said_at said number
said_by_bits said number within = let low : nat_lt number 64 ≡ true = lt-ltb number 64 within in rw low refl

pub nothing_past : (said : Said) (number : ℕ) → 64 ≤ number → said_within said number ≡ False
nothing_past said number past = let high : nat_lt number 64 ≡ false = le-ltb number 64 past in rw high refl
