-- Numbers of a certificate, as digits and as decimal texts.
use Rattle.std.proofs.Common.{◌≡◌, ℕ, zero, suc, ◌+◌, ◌-◌, ◌*◌, ◌^◌, ◌<◌, ◌≤◌, Bool, true, false, ◌&&◌, List, [], ◌∷◌, length, get_or, drop, Option, Some, None, refl, sym, ap, ◌∙◌, arith, rules}
use Rattle.std.specs.Prelude.{nat_lt, if◌then◌else◌}
use Rattle.std.specs.Fmt.{decimal}
use Rattle.std.specs.Str.{all_ascii_digits, bytes_eq}
use Rattle.std.proofs.lemmas.Bool.{ltb-true, lt-ltb}
use Rattle.std.proofs.lemmas.Fmt.{decimal-digits_value, digits_decimal, first_decimal, decimal_digit, decimal_nonempty}
use Rattle.std.proofs.lemmas.List.{drop_more, drop_all}
use Rattle.std.proofs.lemmas.Slice.Eq.{bytes_eq-Decides}
use Rattle.std.proofs.lemmas.Str.Parse.{IsNumeralModel, numerals_by_fold}
use Rattle.split_cert.specs.Numbers.{number_from, word_number}
use Rattle.filter_tree.proofs.Tests.{by_test}

same_tests : (a b : Bool) → (a ≡ true → b ≡ true) → (b ≡ true → a ≡ true) → a ≡ b
same_tests true b f g = sym (f refl)
same_tests false true f g = g refl
same_tests false false f g = refl

-- ---- a number that has 32 bits, if a test holds

abbrev small_if : Bool → ℕ → Option ℕ
small_if b n = if b && nat_lt n (2 ^ 32) then Some n else None

small : (b : Bool) (n : ℕ) → b ≡ true → n < 2 ^ 32 → small_if b n ≡ Some n
small b n e h = rw (e, lt-ltb _ _ h) refl

no_small : (b : Bool) (n : ℕ) → (b ≡ true → n < 2 ^ 32 → ⊥) → small_if b n ≡ None
no_small false n none = refl
no_small true n none = by_test (nat_lt n (2 ^ 32)) (λ e. absurd (none refl (ltb-true _ _ e))) (λ e. rw e refl)

apart : true ≡ false → ⊥
apart e = absurd cc

same_small : (b c : Bool) (n : ℕ) → (n < 2 ^ 32 → b ≡ c) → small_if b n ≡ small_if c n
same_small true true n same = refl
same_small false false n same = refl
same_small true false n same = no_small true n (λ _ h. absurd (apart (same h)))
same_small false true n same = sym (no_small true n (λ _ h. absurd (apart (sym (same h)))))

-- ---- digits, one after the other

-- a number only grows with more digits
number_from-grows : (n : ℕ) (digits : List ℕ) → n ≤ number_from n digits
unfolding number_from
number_from-grows n [] = omega arith
number_from-grows n (d ∷ digits) = let more = number_from-grows (10 * n + (d - 48)) digits in omega arith

-- at the end of the digits
pub digits_end : (digits : List ℕ) (i value : ℕ) → length digits ≤ i
    → all_ascii_digits (drop i digits) ≡ all_ascii_digits digits
    → number_from value (drop i digits) ≡ number_from 0 digits → value < 2 ^ 32
    → Some value ≡ (if all_ascii_digits digits && nat_lt (number_from 0 digits) (2 ^ 32) then
    Some (number_from 0 digits) else None)
unfolding number_from
digits_end digits i value over all same few =
    let none = drop_all i digits over in
    let digital : all_ascii_digits digits ≡ true = sym (rw none at all) in
    let number : value ≡ number_from 0 digits = rw none at same in
    ap Some number ∙ sym (small (all_ascii_digits digits) (number_from 0 digits) digital (omega arith))

-- if the next digit makes the number too large
pub digits_over : (digits : List ℕ) (i value : ℕ) → i < length digits
    → number_from value (drop i digits) ≡ number_from 0 digits → 2 ^ 32 ≤ 10 * value + (get_or digits i 0 - 48)
    → (if all_ascii_digits digits && nat_lt (number_from 0 digits) (2 ^ 32) then
    Some (number_from 0 digits) else None) ≡ None
unfolding number_from
digits_over digits i value within same over =
    let grown : number_from (10 * value + (get_or digits i 0 - 48)) (drop (i + 1) digits) ≡ number_from 0 digits =
    rw (drop_more digits i 0 within) at same in
    no_small (all_ascii_digits digits) (number_from 0 digits)
    (λ _ few. omega (
      arith,
      grown,
      number_from-grows (10 * value + (get_or digits i 0 - 48)) (drop (i + 1) digits),
    ))

pub ruleset digit_turns = (digits_end, digits_over)

-- ---- words

-- the test and the fold are those of decimal numerals
pub own : IsNumeralModel (λ digits. all_ascii_digits digits ≡ true) (number_from 0)
unfolding number_from
own = numerals_by_fold _ (search rules) number_from (search rules)

is_text : (word : List ℕ) (n : ℕ) → bytes_eq word (decimal n) ≡ true → word ≡ decimal n
is_text word n e = (bytes_eq-Decides word (decimal n)).0 e

pub no_word : (word : List ℕ) → length word ≡ 0 → word_number word ≡ None
unfolding word_number
no_word word none = no_small (bytes_eq word (decimal (number_from 0 word))) (number_from 0 word) (λ same few.
    let some = decimal_nonempty (number_from 0 word) (omega arith) in
    omega (arith, ap length (is_text word (number_from 0 word) same)))

-- a text that begins with 0 is the text of 0 only
zero_text : (n : ℕ) → n < 2 ^ 64 → get_or (decimal n) 0 0 ≡ 48 → length (decimal n) ≡ 1
zero_text zero few first = ap length (decimal_digit 0 (omega arith))
zero_text (suc n) few first = absurd (omega (arith, first_decimal (suc n) (omega arith) few))

pub leading_zero : (word : List ℕ) → 1 < length word → get_or word 0 0 ≡ 48 → word_number word ≡ None
unfolding word_number
leading_zero word long first = no_small (bytes_eq word (decimal (number_from 0 word))) (number_from 0 word) (λ same few.
    let e = is_text word (number_from 0 word) same in
    omega (arith, ap length e, zero_text (number_from 0 word) (omega arith) (rw e at first)))

-- otherwise the digits are the decimal text of their number
pub plain_number : (word : List ℕ) → 0 < length word → (get_or word 0 0 ≡ 48 → length word ≡ 1)
    → word_number word ≡ (if all_ascii_digits word && nat_lt (number_from 0 word) (2 ^ 32) then
    Some (number_from 0 word) else None)
unfolding word_number
plain_number word some plain =
    same_small _ _ (number_from 0 word) (λ few. same_tests _ _
    (λ same. rw (← is_text word (number_from 0 word) same) at (digits_decimal own (number_from 0 word) (omega arith)))
    (λ digits. (bytes_eq-Decides word (decimal (number_from 0 word))).1
    (sym (decimal-digits_value own word digits some plain (omega arith)))))

pub ruleset numbers = (no_word, leading_zero, plain_number)
