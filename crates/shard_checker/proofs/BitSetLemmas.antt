-- Bits of words, and the numbers that they are.
use Rattle.std.proofs.Common.{◌≡◌, ℕ, zero, suc, ◌+◌, ◌*◌, ◌/◌, ◌%◌, ◌^◌, ◌<◌, ◌≤◌, min, Bool, true, false, ◌&&◌, ◌||◌, List, [], ◌∷◌, ◌++◌, length, get_or, replicate, refl, sym, ap, ◌∙◌, inl, inr, arith, w64}
use Rattle.std.specs.Prelude.{◌==◌, bit_and, bit_or, slice_set}
use Rattle.std.specs.Int.{bit_at, trailing_zeros}
use Rattle.std.specs.Int.Bits.{and_zero_l, and_zero_r}
use Rattle.std.proofs.lemmas.Bool.{cases_eq, cases_lt, eq-eqb, ne_eqb}
use Rattle.std.proofs.lemmas.List.{get_or-set_same, get_or-set_other, get_or_past}
use Rattle.std.proofs.lemmas.Nat.Bits.{bit_at_and, bit_at-zero, bit_at-lt, bit_at-trailing_zeros, bit_at_set_same, bit_at_set_other}
use Rattle.filter_tree.proofs.Tests.{or_true, or_false}
use Rattle.shard_checker.specs.BitSets.{has_bit}

-- ---- more words

zeros : (count place : ℕ) → get_or (replicate count zero) place zero ≡ zero
zeros zero place = refl
zeros (suc count) zero = refl
zeros (suc count) (suc place) = zeros count place

pub padded : (words : List ℕ) (count place : ℕ) → get_or (words ++ replicate count 0) place 0 ≡ get_or words place 0
padded [] count place = zeros count place
padded (word ∷ words) count zero = refl
padded (word ∷ words) count (suc place) = padded words count place

-- ---- one more number

abbrev pub with_bit : List ℕ → ℕ → List ℕ
with_bit words number =
    slice_set words (number / 64) (bit_or (get_or words (number / 64) 0) (1 * 2 ^ (number % 64) % 2 ^ 64))

set_here : (words : List ℕ) (number other : ℕ) → number / 64 < length words → other / 64 ≡ number / 64
    → other % 64 ≡ number % 64 → has_bit (with_bit words number) other ≡ (has_bit words other || (other == number))
set_here words number other room word bit =
    let same : other ≡ number = omega arith in
    let within : number % 64 < 64 = omega arith in
    let one : bit_at (get_or (with_bit words number) (other / 64) 0) (other % 64) ≡ 1 =
    ap (λ (k : ℕ). bit_at (get_or (with_bit words number) k 0) (other % 64)) word
    ∙ ap (λ (k : ℕ). bit_at (get_or (with_bit words number) (number / 64) 0) k) bit
    ∙ ap (λ (w : ℕ). bit_at w (number % 64))
    (get_or-set_same words (number / 64)
    (bit_or (get_or words (number / 64) 0) (1 * 2 ^ (number % 64) % 2 ^ 64)) 0 room)
    ∙ bit_at_set_same w64 (get_or words (number / 64) 0) (number % 64) within in
    eq-eqb _ 1 one ∙ sym (ap (λ (b : Bool). has_bit words other || b) (eq-eqb other number same)
    ∙ or_true (has_bit words other))

other_bit : (words : List ℕ) (number other : ℕ) → number / 64 < length words → other / 64 ≡ number / 64
    → (other % 64 ≡ number % 64 → ⊥) → has_bit (with_bit words number) other ≡ has_bit words other
other_bit words number other room word apart =
    let within : number % 64 < 64 = omega arith in
    ap (λ (n : ℕ). n == 1)
    (ap (λ (k : ℕ). bit_at (get_or (with_bit words number) k 0) (other % 64)) word
    ∙ ap (λ (w : ℕ). bit_at w (other % 64))
    (get_or-set_same words (number / 64)
    (bit_or (get_or words (number / 64) 0) (1 * 2 ^ (number % 64) % 2 ^ 64)) 0 room)
    ∙ bit_at_set_other w64 (get_or words (number / 64) 0) (number % 64) within (other % 64) apart
    ∙ ap (λ (k : ℕ). bit_at (get_or words k 0) (other % 64)) (sym word))

other_word : (words : List ℕ) (number other : ℕ) → (other / 64 ≡ number / 64 → ⊥)
    → has_bit (with_bit words number) other ≡ has_bit words other
other_word words number other apart =
    ap (λ (w : ℕ). bit_at w (other % 64) == 1)
    (get_or-set_other words (number / 64) (other / 64)
    (bit_or (get_or words (number / 64) 0) (1 * 2 ^ (number % 64) % 2 ^ 64)) 0 apart)

or_other : (b : Bool) (number other : ℕ) → (other ≡ number → ⊥) → b ≡ (b || (other == number))
or_other b number other apart = sym (ap (λ (c : Bool). b || c) (ne_eqb other number apart) ∙ or_false b)

pub bit_is_set : (words : List ℕ) (number other : ℕ) → number / 64 < length words
    → has_bit (with_bit words number) other ≡ (has_bit words other || (other == number))
bit_is_set words number other room =
    elim (cases_eq (other / 64) (number / 64)) [
      | inl word ↦ elim (cases_eq (other % 64) (number % 64)) [
        | inl bit ↦ set_here words number other room word bit
        | inr apart ↦ other_bit words number other room word apart
            ∙ or_other (has_bit words other) number other (λ same. apart (ap (λ (n : ℕ). n % 64) same))
      ]
      | inr apart ↦ other_word words number other apart
          ∙ or_other (has_bit words other) number other (λ same. apart (ap (λ (n : ℕ). n / 64) same))
    ]

-- ---- numbers of both sets

bits_of_both : (a b : ℕ) → a < 2 → b < 2 → (min a b == 1) ≡ ((a == 1) && (b == 1))
bits_of_both zero zero h k = refl
bits_of_both zero (suc zero) h k = refl
bits_of_both zero (suc (suc b)) h k = absurd (omega arith)
bits_of_both (suc zero) zero h k = refl
bits_of_both (suc zero) (suc zero) h k = refl
bits_of_both (suc zero) (suc (suc b)) h k = absurd (omega arith)
bits_of_both (suc (suc a)) b h k = absurd (omega arith)

-- the bits of two words are those that both have
word_of_both : (one other : List ℕ) (number : ℕ)
    → (bit_at (bit_and (get_or one (number / 64) 0) (get_or other (number / 64) 0)) (number % 64) == 1)
    ≡ (has_bit one number && has_bit other number)
word_of_both one other number =
    ap (λ (n : ℕ). n == 1) (bit_at_and (get_or one (number / 64) 0) (get_or other (number / 64) 0) (number % 64))
    ∙ bits_of_both (bit_at (get_or one (number / 64) 0) (number % 64))
    (bit_at (get_or other (number / 64) 0) (number % 64))
    (bit_at-lt (get_or one (number / 64) 0) (number % 64)) (bit_at-lt (get_or other (number / 64) 0) (number % 64))

word_past : (one other both : List ℕ) (index : ℕ) → length both ≡ min (length one) (length other)
    → length both ≤ index → get_or both index 0 ≡ bit_and (get_or one index 0) (get_or other index 0)
word_past one other both index long past =
    get_or_past both index 0 past
    ∙ elim (cases_lt index (length one)) [
      | inl low ↦
          let far : length other ≤ index = omega arith in
          sym (ap (bit_and (get_or one index 0)) (get_or_past other index 0 far) ∙ and_zero_r (get_or one index 0))
      | inr far ↦
          sym (ap (λ (w : ℕ). bit_and w (get_or other index 0)) (get_or_past one index 0 far)
          ∙ and_zero_l (get_or other index 0))
    ]

pub both_have : (one other both : List ℕ) → length both ≡ min (length one) (length other)
    → ((index : ℕ) → index < length both
    → get_or both index 0 ≡ bit_and (get_or one index 0) (get_or other index 0))
    → (number : ℕ) → has_bit both number ≡ (has_bit one number && has_bit other number)
both_have one other both long each number =
    ap (λ (w : ℕ). bit_at w (number % 64) == 1)
    (elim (cases_lt (number / 64) (length both)) [
      | inl low ↦ each (number / 64) low
      | inr past ↦ word_past one other both (number / 64) long past
    ])
    ∙ word_of_both one other number

-- ---- a number that is in both sets

pub words_meet : (one other : List ℕ) (index : ℕ) → 0 < bit_and (get_or one index 0) (get_or other index 0)
    → bit_and (get_or one index 0) (get_or other index 0) < 2 ^ 64
    → (number : ℕ) × ((has_bit one number ≡ true) × (has_bit other number ≡ true))
words_meet one other index some small =
    let word : ℕ = bit_and (get_or one index 0) (get_or other index 0) in
    let place : ℕ = trailing_zeros w64 word in
    let found = bit_at-trailing_zeros w64 word some small in
    let low : place < 64 = found.0 in
    let at_word : (index * 64 + place) / 64 ≡ index = omega arith in
    let at_bit : (index * 64 + place) % 64 ≡ place = omega arith in
    let both : (has_bit one (index * 64 + place) && has_bit other (index * 64 + place)) ≡ true =
    sym (word_of_both one other (index * 64 + place))
    ∙ ap (λ (k : ℕ). bit_at (bit_and (get_or one k 0) (get_or other k 0)) ((index * 64 + place) % 64) == 1) at_word
    ∙ ap (λ (k : ℕ). bit_at word k == 1) at_bit
    ∙ eq-eqb (bit_at word place) 1 found.1 in
    (index * 64 + place, two_parts (has_bit one (index * 64 + place)) (has_bit other (index * 64 + place)) both)
  where
    two_parts : (p q : Bool) → (p && q) ≡ true → (p ≡ true) × (q ≡ true)
    two_parts true q h = (refl, h)
    two_parts false q h = absurd cc

pub words_apart : (one other : List ℕ) (index number : ℕ)
    → bit_and (get_or one index 0) (get_or other index 0) ≡ 0 → number / 64 ≡ index
    → (has_bit one number && has_bit other number) ≡ false
words_apart one other index number none at =
    sym (word_of_both one other number)
    ∙ ap (λ (k : ℕ). bit_at (bit_and (get_or one k 0) (get_or other k 0)) (number % 64) == 1) at
    ∙ ap (λ (w : ℕ). bit_at w (number % 64) == 1) none
    ∙ ap (λ (n : ℕ). n == 1) (bit_at-zero (number % 64))

pub past_apart : (one other : List ℕ) (number : ℕ) → min (length one) (length other) ≤ number / 64
    → (has_bit one number && has_bit other number) ≡ false
past_apart one other number past =
    words_apart one other (number / 64) number
    (elim (cases_lt (number / 64) (length one)) [
      | inl low ↦
          let far : length other ≤ number / 64 = omega arith in
          ap (bit_and (get_or one (number / 64) 0)) (get_or_past other (number / 64) 0 far)
          ∙ and_zero_r (get_or one (number / 64) 0)
      | inr far ↦
          ap (λ (w : ℕ). bit_and w (get_or other (number / 64) 0)) (get_or_past one (number / 64) 0 far)
          ∙ and_zero_l (get_or other (number / 64) 0)
    ]) refl
