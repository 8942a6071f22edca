-- Bits of a word of 32 bits.
use Rattle.std.proofs.Common.{◌≡◌, ℕ, zero, suc, ◌*◌, ◌/◌, ◌%◌, ◌^◌, ◌<◌, Bool, true, false, ◌&&◌, ◌||◌, refl, sym, ap, ◌∙◌, inl, inr, arith, w32}
use Rattle.std.specs.Prelude.{◌==◌, bit_and, bit_or, max}
use Rattle.std.specs.Int.{bit_at}
use Rattle.std.proofs.lemmas.Bool.{cases_eq, eq-eqb, ne_eqb}
use Rattle.std.proofs.lemmas.Nat.Bits.{bit_at-zero, bit_at-lt, bit_at_or, bit_at_set_same, bit_at_set_other, shr_and_one}
use Rattle.filter_tree.proofs.Tests.{or_true, or_false}

pub none_owned : (subscriber : ℕ) → (bit_at 0 subscriber == 1) ≡ false
none_owned subscriber = ap (λ n. n == 1) (bit_at-zero subscriber)

-- the bit of the number is set
pub put_owned : (bits subscriber other : ℕ) → subscriber < 32
    → (bit_at (bit_or bits (1 * 2 ^ subscriber % 2 ^ 32)) other == 1)
    ≡ ((bit_at bits other == 1) || ((other == subscriber) && true))
put_owned bits subscriber other within =
    elim (cases_eq other subscriber) [
      | inl same ↦
          eq-eqb _ 1 (ap (bit_at (bit_or bits (1 * 2 ^ subscriber % 2 ^ 32))) same
          ∙ bit_at_set_same w32 bits subscriber within)
          ∙ sym (ap (λ (b : Bool). (bit_at bits other == 1) || (b && true)) (eq-eqb other subscriber same)
          ∙ or_true (bit_at bits other == 1))
      | inr apart ↦
          ap (λ (n : ℕ). n == 1) (bit_at_set_other w32 bits subscriber within other apart)
          ∙ sym (ap (λ (b : Bool). (bit_at bits other == 1) || (b && true)) (ne_eqb other subscriber apart)
          ∙ or_false (bit_at bits other == 1))
    ]

and_false : (b : Bool) → (b && false) ≡ false
and_false true = refl
and_false false = refl

pub kept_owned : (bits subscriber other : ℕ)
    → (bit_at bits other == 1) ≡ ((bit_at bits other == 1) || ((other == subscriber) && false))
kept_owned bits subscriber other =
    sym (ap (λ (b : Bool). (bit_at bits other == 1) || b) (and_false (other == subscriber))
    ∙ or_false (bit_at bits other == 1))

pub bit_tested : (bits subscriber : ℕ) → (bit_and (bits / 2 ^ subscriber) 1 == 1) ≡ (bit_at bits subscriber == 1)
bit_tested bits subscriber = ap (λ n. n == 1) (shr_and_one bits subscriber)

pub both_owned : (bits others subscriber : ℕ)
    → (bit_at (bit_or bits others) subscriber == 1) ≡ ((bit_at bits subscriber == 1) || (bit_at others subscriber == 1))
both_owned bits others subscriber =
    ap (λ n. n == 1) (bit_at_or bits others subscriber)
    ∙ by (bit_at bits subscriber) (bit_at others subscriber) (bit_at-lt bits subscriber) (bit_at-lt others subscriber)
  where
    by : (one other : ℕ) → one < 2 → other < 2 → (max one other == 1) ≡ ((one == 1) || (other == 1))
    by zero zero few less = refl
    by zero (suc zero) few less = refl
    by (suc zero) zero few less = refl
    by (suc zero) (suc zero) few less = refl
    by (suc (suc one)) other few less = absurd (omega (arith, few))
    by one (suc (suc other)) few less = absurd (omega (arith, less))
