-- Hexadecimal digits as a number.
use Rattle.std.proofs.Common.{◌≡◌, ℕ, ◌^◌, ◌<◌, ◌≤◌, true, false, ◌==◌, List, [], ◌∷◌, length, refl, arith}
use Rattle.std.specs.Char.{is_ascii_hexdigit, digit_value}
use Rattle.std.specs.List.{list_all}
use Rattle.std.specs.Str.Parse.{AllDigits, IsNumeral, digits_value, without_leading_plus}
use Rattle.std.proofs.Math.Nat.{pow-le-pow_right}
use Rattle.std.proofs.lemmas.Bool.{and_parts}
use Rattle.std.proofs.lemmas.Bool.Decides.{nat_tests}
use Rattle.std.proofs.lemmas.Int.Digits.{digits_value-lt}

digit_is_small : (d : ℕ) → is_ascii_hexdigit d ≡ true → digit_value d < 16
digit_is_small d e = grind (arith, nat_tests)

digit_is_no_plus : (d : ℕ) → is_ascii_hexdigit d ≡ true → d == 43 ≡ false
digit_is_no_plus d e = grind (arith, nat_tests)

all_digits : (digits : List ℕ) → list_all is_ascii_hexdigit digits ≡ true → AllDigits 16 digits
all_digits [] e = tt
all_digits (d ∷ digits) e =
    let both = and_parts (is_ascii_hexdigit d) (list_all is_ascii_hexdigit digits) e in
    (digit_is_small d both.0, all_digits digits both.1)

pub no_plus : (digits : List ℕ) → 0 < length digits → list_all is_ascii_hexdigit digits ≡ true
    → without_leading_plus digits ≡ digits
no_plus [] some e = absurd (omega arith)
no_plus (d ∷ digits) some e =
    let both = and_parts (is_ascii_hexdigit d) (list_all is_ascii_hexdigit digits) e in
    rw (digit_is_no_plus d both.0) refl

pub is_numeral : (digits : List ℕ) → 0 < length digits → length digits ≤ 8 → list_all is_ascii_hexdigit digits ≡ true
    → IsNumeral 16 (without_leading_plus digits) × (digits_value 16 (without_leading_plus digits) < 2 ^ 32)
is_numeral digits some few e =
    let all = all_digits digits e in
    let less = digits_value-lt 16 digits all in
    let most : 16 ^ length digits ≤ 16 ^ 8 = pow-le-pow_right (omega arith) few in
    rw (no_plus digits some e) ((some, all), omega arith)
