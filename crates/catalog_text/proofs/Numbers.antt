-- The text of a number of type i64 is what `{}` writes.
use Rattle.std.proofs.Common.{◌≡◌, ℕ, suc, ◌+◌, ◌^◌, ◌<◌, zero, Bool, true, if◌then◌else◌, ℤ, pos, negsuc, List, [], ◌∷◌, map, w64, refl, sym, ap, ◌∙◌, arith}
use Rattle.std.specs.Prelude.{nat_lt, codes}
use Rattle.std.specs.Char.{digit_char}
use Rattle.std.specs.Fmt.{decimal, signed_decimal}
use Rattle.std.specs.Int.Digits.{digits_of, AllBelowBase}
use Rattle.std.specs.Int.RustNames.{FitsSigned}
use Rattle.std.proofs.lemmas.Bool.{ne_eqb}
use Rattle.std.proofs.lemmas.Bool.Decides.{nat_tests}
use Rattle.std.proofs.lemmas.Fmt.{decimal_digit, decimal-digits_of}
use Rattle.std.proofs.lemmas.Int.{ints}
use Rattle.std.proofs.lemmas.Int.Digits.{all_below_base_digits_of}
use Rattle.catalog_text.specs.FilterText.{number_text}

digit_chars : (digits : List ℕ) → AllBelowBase 10 digits
    → map digit_char digits ≡ map (λ digit. 48 + digit) digits
digit_chars [] below = refl
digit_chars (digit ∷ digits) below =
    let first : nat_lt digit 10 ≡ true = grind (arith, nat_tests, below.0) in
    rw (first, digit_chars digits below.1) refl

above_zero : (n : ℕ) → 0 < n → n < 2 ^ 64 → decimal n ≡ map digit_char (digits_of 10 n)
above_zero n some small =
    decimal-digits_of n some small ∙ sym (digit_chars (digits_of 10 n) (all_below_base_digits_of 10 n (omega arith)))

natural : (n : ℕ) → n < 2 ^ 64 → decimal n ≡ number_text (pos n)
natural zero small = decimal_digit 0 (omega arith)
natural (suc n) small =
    above_zero (suc n) (omega arith) small
    ∙ sym (ap (λ (is : Bool). if is then codes "0" else map digit_char (digits_of 10 (suc n)))
    (ne_eqb (suc n) 0 (λ none. omega (arith, none))))

pub number_written : (number : ℤ) → FitsSigned w64 number → signed_decimal number ≡ number_text number
number_written (pos n) fits = natural n (omega (arith, ints))
number_written (negsuc n) fits =
    ap (λ (digits : List ℕ). 45 ∷ digits) (above_zero (suc n) (omega arith) (omega (arith, ints)))
