-- Clauses as bits.
use Rattle.std.proofs.Common.{◌≡◌, ℕ, zero, suc, ◌-◌, ◌*◌, ◌/◌, ◌%◌, ◌^◌, ◌<◌, min, Bool, true, false, not, ◌||◌, ◌&&◌, refl, sym, ap, ◌∙◌, inl, inr, arith, w64}
use Rattle.std.specs.Prelude.{◌==◌, bit_and, bit_or}
use Rattle.std.specs.Int.{bit_at, bit_not}
use Rattle.std.specs.Int.Bits.{and_zero_r, or_zero_l}
use Rattle.std.proofs.lemmas.Bool.{cases_eq, eq-eqb, ne_eqb}
use Rattle.std.proofs.Math.Nat.{mod-lt}
use Rattle.std.proofs.lemmas.Nat.{one_shl, pow_pos, le_or_l, div-add-mod'}
use Rattle.std.proofs.lemmas.Nat.Bits.{bit_at-lt, bit_at_and, bit_at_or, bit_at_not, bit_at_cat_low, and_pow, same_from_bits}
use Rattle.filter_tree.specs.Logic.{not_of}
use Rattle.filter_tree.proofs.Tests.{or_false}
use Rattle.filter_memo.specs.Bits.{is_set, tri_by, Inverts, IsSplit}
use Rattle.filter_memo.specs.Clauses.{meet, IsLiteral, IsEither}
use Rattle.filter_memo.specs.declared.clause.Clause.{Clause}
use Rattle.filter_memo.specs.declared.clause.Values.{Values}
use Rattle.filter_memo.specs.declared.said.Said.{Said}
use Rattle.filter_memo.proofs.BitLemmas.{bits_joined, joined}

-- ---- words

pub one_bit : (number : ℕ) → number < 64 → 1 * 2 ^ number % 2 ^ 64 ≡ 2 ^ number
one_bit number within = one_shl number 64 within

other_bit : (bit : ℕ) → bit < 2 → (1 - bit == 1) ≡ not (bit == 1)
other_bit zero h = refl
other_bit (suc zero) h = refl
other_bit (suc (suc bit)) h = absurd (omega (arith, h))

pub bits_inverted : (word : ℕ) → word < 2 ^ 64 → Inverts word (bit_not w64 word)
bits_inverted word fits = record {
  each = λ number within. ap (λ bit. bit == 1) (bit_at_not w64 word number fits within)
      ∙ other_bit (bit_at word number) (bit_at-lt word number);
}

min_is_one : (a b : ℕ) → a < 2 → b < 2 → (min a b == 1) ≡ ((a == 1) && (b == 1))
min_is_one zero zero p q = refl
min_is_one zero (suc zero) p q = refl
min_is_one (suc zero) zero p q = refl
min_is_one (suc zero) (suc zero) p q = refl
min_is_one zero (suc (suc b)) p q = absurd (omega (arith, q))
min_is_one (suc zero) (suc (suc b)) p q = absurd (omega (arith, q))
min_is_one (suc (suc a)) b p q = absurd (omega (arith, p))

bits_met : (one other number : ℕ) → is_set (bit_and one other) number ≡ (is_set one number && is_set other number)
bits_met one other number = ap (λ bit. bit == 1) (bit_at_and one other number)
    ∙ min_is_one (bit_at one number) (bit_at other number) (bit_at-lt one number) (bit_at-lt other number)

-- ---- values

null_apart : (p r : Bool) → tri_by p (r && not p) ≡ tri_by p r
null_apart true true = refl
null_apart true false = refl
null_apart false true = refl
null_apart false false = refl

false_apart : (p r : Bool) → tri_by (not (p || r)) (r && not p) ≡ not_of (tri_by p r)
false_apart true true = refl
false_apart true false = refl
false_apart false true = refl
false_apart false false = refl

pub values_split : (said : Said) (decided : ℕ) (values : Values) → Inverts said.truths decided
    → Inverts (bit_or said.truths said.nulls) values.falses → values.truths ≡ said.truths
    → values.nulls ≡ bit_and said.nulls decided → IsSplit said values
values_split said decided values others falses truths nulls = record {
  holds = λ number within.
      let p = is_set said.truths number in
      let r = is_set said.nulls number in
      let null : is_set values.nulls number ≡ (r && not p) =
      ap (λ word. is_set word number) nulls ∙ bits_met said.nulls decided number
      ∙ ap (λ bit. r && bit) (others.each number within) in
      ap (λ word. tri_by (is_set word number) (is_set values.nulls number)) truths
      ∙ ap (tri_by p) null ∙ null_apart p r;
  fails = λ number within.
      let p = is_set said.truths number in
      let r = is_set said.nulls number in
      let null : is_set values.nulls number ≡ (r && not p) =
      ap (λ word. is_set word number) nulls ∙ bits_met said.nulls decided number
      ∙ ap (λ bit. r && bit) (others.each number within) in
      let both : is_set (bit_or said.truths said.nulls) number ≡ (p || r) =
      (bits_joined said.truths said.nulls).each number in
      let fail : is_set values.falses number ≡ not (p || r) = falses.each number within ∙ ap not both in
      ap (λ bit. tri_by bit (is_set values.nulls number)) fail
      ∙ ap (tri_by (not (p || r))) null ∙ false_apart p r;
}

-- a word below 2 ^ 64 with the same bits
low_bits : (word number : ℕ) → number < 64 → is_set (word % 2 ^ 64) number ≡ is_set word number
low_bits word number within =
    ap (λ bit. bit == 1) (sym (bit_at_cat_low (word / 2 ^ 64) 64 (word % 2 ^ 64) number within)
    ∙ ap (λ n. bit_at n number) (div-add-mod' word (2 ^ 64)))

low_inverted : (word : ℕ) → Inverts word (bit_not w64 (word % 2 ^ 64))
low_inverted word = record {
  each = λ number within.
      (bits_inverted (word % 2 ^ 64) (mod-lt word (pow_pos 64))).each number within
      ∙ ap not (low_bits word number within);
}

-- any values can be split into three words
pub some_values : (said : Said) → (values : Values) × IsSplit said values
some_values said =
    let values : Values = record {
      truths = said.truths;
      falses = bit_not w64 (bit_or said.truths said.nulls % 2 ^ 64);
      nulls = bit_and said.nulls (bit_not w64 (said.truths % 2 ^ 64));
    } in (
      values,
      values_split said (bit_not w64 (said.truths % 2 ^ 64)) values (low_inverted said.truths)
          (low_inverted (bit_or said.truths said.nulls)) refl refl,
    )

-- ---- literals

meet_none : (word : ℕ) → meet word 0 ≡ false
meet_none word = ap (λ n. not (n == 0)) (and_zero_r word)

times_is_zero : (bit n : ℕ) → bit < 2 → 0 < n → not (bit * n == 0) ≡ (bit == 1)
times_is_zero zero n h some =
    let none : (0 * n == 0) ≡ true = eq-eqb (0 * n) 0 (omega arith) in ap not none
times_is_zero (suc zero) n h some =
    let apart : (1 * n == 0) ≡ false = ne_eqb (1 * n) 0 (λ same. absurd (omega (arith, same, some))) in
    ap not apart
times_is_zero (suc (suc bit)) n h some = absurd (omega (arith, h))

meet_bit : (word number : ℕ) → meet word (2 ^ number) ≡ is_set word number
meet_bit word number = ap (λ n. not (n == 0)) (and_pow word number)
    ∙ times_is_zero (bit_at word number) (2 ^ number) (bit_at-lt word number) (pow_pos number)

pub true_literal : (number bit : ℕ) → number < 64 → bit ≡ 2 ^ number
    → IsLiteral (record { truths = bit; falses = 0 }) number false
true_literal number bit within is = record {
  says = λ said values split.
      let truth : (meet values.truths bit || meet values.falses 0) ≡ is_set values.truths number =
      ap (λ own. meet values.truths bit || own) (meet_none values.falses) ∙ or_false (meet values.truths bit)
      ∙ ap (meet values.truths) is ∙ meet_bit values.truths number in
      let null : (meet values.nulls bit || meet values.nulls 0) ≡ is_set values.nulls number =
      ap (λ own. meet values.nulls bit || own) (meet_none values.nulls) ∙ or_false (meet values.nulls bit)
      ∙ ap (meet values.nulls) is ∙ meet_bit values.nulls number in
      ap (λ own. tri_by own (meet values.nulls bit || meet values.nulls 0)) truth
      ∙ ap (tri_by (is_set values.truths number)) null ∙ split.holds number within;
}

pub false_literal : (number bit : ℕ) → number < 64 → bit ≡ 2 ^ number
    → IsLiteral (record { truths = 0; falses = bit }) number true
false_literal number bit within is = record {
  says = λ said values split.
      let fail : (meet values.truths 0 || meet values.falses bit) ≡ is_set values.falses number =
      ap (λ own. own || meet values.falses bit) (meet_none values.truths)
      ∙ ap (meet values.falses) is ∙ meet_bit values.falses number in
      let null : (meet values.nulls 0 || meet values.nulls bit) ≡ is_set values.nulls number =
      ap (λ own. own || meet values.nulls bit) (meet_none values.nulls)
      ∙ ap (meet values.nulls) is ∙ meet_bit values.nulls number in
      ap (λ own. tri_by own (meet values.nulls 0 || meet values.nulls bit)) fail
      ∙ ap (tri_by (is_set values.falses number)) null ∙ split.fails number within;
}

-- ---- joined clauses

or_is_zero : (one other : ℕ) → not (bit_or one other == 0) ≡ (not (one == 0) || not (other == 0))
or_is_zero one other =
    elim (cases_eq one 0) [
      | inl none ↦ rw none (ap (λ n. not (n == 0)) (or_zero_l other))
      | inr some ↦
          let first : (one == 0) ≡ false = ne_eqb one 0 some in
          let both : (bit_or one other == 0) ≡ false =
          ne_eqb (bit_or one other) 0 (λ none. some (omega (arith, none, le_or_l one other))) in
          rw (first, both) refl
    ]

meet_either : (word one other : ℕ) → meet word (bit_or one other) ≡ (meet word one || meet word other)
meet_either word one other =
    let split : bit_and word (bit_or one other) ≡ bit_or (bit_and word one) (bit_and word other) =
    same_from_bits (bit_and word (bit_or one other)) (bit_or (bit_and word one) (bit_and word other))
    (λ i. omega (
      arith,
      bit_at_and word (bit_or one other) i,
      bit_at_or one other i,
      bit_at_or (bit_and word one) (bit_and word other) i,
      bit_at_and word one i,
      bit_at_and word other i,
    )) in
    ap (λ n. not (n == 0)) split ∙ or_is_zero (bit_and word one) (bit_and word other)

crossed : (a b c d : Bool) → ((a || b) || (c || d)) ≡ ((a || c) || (b || d))
crossed true b c d = refl
crossed false true true d = refl
crossed false true false d = refl
crossed false false true d = refl
crossed false false false d = refl

pub clauses_joined : (one other : Clause)
    → IsEither one other
    (record { truths = bit_or one.truths other.truths; falses = bit_or one.falses other.falses })
clauses_joined one other = record {
  says = λ values.
      let truth : (meet values.truths (bit_or one.truths other.truths)
      || meet values.falses (bit_or one.falses other.falses))
      ≡ ((meet values.truths one.truths || meet values.falses one.falses)
      || (meet values.truths other.truths || meet values.falses other.falses)) =
      ap (λ own. own || meet values.falses (bit_or one.falses other.falses))
      (meet_either values.truths one.truths other.truths)
      ∙ ap (λ own. (meet values.truths one.truths || meet values.truths other.truths) || own)
      (meet_either values.falses one.falses other.falses)
      ∙ crossed (meet values.truths one.truths) (meet values.truths other.truths) (meet values.falses one.falses)
      (meet values.falses other.falses) in
      let null : (meet values.nulls (bit_or one.truths other.truths)
      || meet values.nulls (bit_or one.falses other.falses))
      ≡ ((meet values.nulls one.truths || meet values.nulls one.falses)
      || (meet values.nulls other.truths || meet values.nulls other.falses)) =
      ap (λ own. own || meet values.nulls (bit_or one.falses other.falses))
      (meet_either values.nulls one.truths other.truths)
      ∙ ap (λ own. (meet values.nulls one.truths || meet values.nulls other.truths) || own)
      (meet_either values.nulls one.falses other.falses)
      ∙ crossed (meet values.nulls one.truths) (meet values.nulls other.truths) (meet values.nulls one.falses)
      (meet values.nulls other.falses) in
      rw (truth, null)
      (joined (meet values.truths one.truths || meet values.falses one.falses)
      (meet values.truths other.truths || meet values.falses other.falses)
      (meet values.nulls one.truths || meet values.nulls one.falses)
      (meet values.nulls other.truths || meet values.nulls other.falses));
}
