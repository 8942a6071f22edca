-- A decimal number is determined by its text, if no digit follows it.
use Rattle.std.proofs.Common.{◌≡◌, ℕ, zero, suc, ◌-◌, ◌<◌, Bool, true, false, if◌then◌else◌, ℤ, pos, negsuc, List, [], ◌∷◌, ◌++◌, map, length, refl, sym, ap, subst, ◌∙◌, arith}
use Rattle.std.specs.Prelude.{codes}
use Rattle.std.specs.Char.{is_ascii_digit, digit_char}
use Rattle.std.specs.Int.Digits.{digits_of, number_from_digits, AllBelowBase}
use Rattle.std.specs.Str.{all_ascii_digits}
use Rattle.std.proofs.lemmas.Bool.{and_from, and_parts, false≢true, ne_eqb}
use Rattle.std.proofs.lemmas.Bool.Decides.{nat_tests}
use Rattle.std.proofs.lemmas.Int.Digits.{all_below_base_digits_of, length-digits_of_step, number_digits_of}
use Rattle.std.proofs.lemmas.List.{length-map}
use Rattle.catalog_text.specs.FilterText.{number_text}
use Rattle.catalog_laws.proofs.QuotedTexts.{Same, head_is, tail_is}

-- ---- what follows

-- the bytes do not begin with a digit
abbrev pub NoDigit : List ℕ → Type 0
NoDigit [] = Unit {0}
NoDigit (byte ∷ bytes) = is_ascii_digit byte ≡ false

no_digit : (x z : List ℕ) (digit : ℕ) → NoDigit x → is_ascii_digit digit ≡ true → x ≡ digit ∷ z → ⊥
no_digit [] z digit none is e = absurd cc
no_digit (byte ∷ x) z digit none is e =
    false≢true (sym none ∙ ap is_ascii_digit (head_is byte digit x z e) ∙ is)

digits_apart : (one other x y : List ℕ) → all_ascii_digits one ≡ true → all_ascii_digits other ≡ true → NoDigit x
    → NoDigit y → one ++ x ≡ other ++ y → Same one other x y
digits_apart [] [] x y p q f g e = (refl, e)
digits_apart [] (b ∷ other) x y p q f g e =
    absurd (no_digit x (other ++ y) b f (and_parts (is_ascii_digit b) (all_ascii_digits other) q).0 e)
digits_apart (a ∷ one) [] x y p q f g e =
    absurd (no_digit y (one ++ x) a g (and_parts (is_ascii_digit a) (all_ascii_digits one) p).0 (sym e))
digits_apart (a ∷ one) (b ∷ other) x y p q f g e =
    let later = digits_apart one other x y (and_parts (is_ascii_digit a) (all_ascii_digits one) p).1
    (and_parts (is_ascii_digit b) (all_ascii_digits other) q).1 f g (tail_is a b (one ++ x) (other ++ y) e) in (
      ap (λ (byte : ℕ). byte ∷ one) (head_is a b (one ++ x) (other ++ y) e)
          ∙ ap (λ (digits : List ℕ). b ∷ digits) later.0,
      later.1,
    )

-- ---- the digits of a number

-- the number that ASCII digits write
abbrev value_of : List ℕ → ℕ
value_of text = number_from_digits 10 (map (λ byte. byte - 48) text)

-- the text is the number in digits, of which there is at least one
record IsNumeralOf (n : ℕ) (text : List ℕ) : Type 0 where
  some : 0 < length text
  digits : all_ascii_digits text ≡ true
  value : value_of text ≡ n

digit_is : (digit : ℕ) → digit < 10 → is_ascii_digit (digit_char digit) ≡ true
digit_is digit below = grind (arith, nat_tests)

digit_back : (digit : ℕ) → digit < 10 → digit_char digit - 48 ≡ digit
digit_back digit below = grind (arith, nat_tests)

all_digits : (digits : List ℕ) → AllBelowBase 10 digits → all_ascii_digits (map digit_char digits) ≡ true
all_digits [] below = refl
all_digits (digit ∷ digits) below =
    and_from (is_ascii_digit (digit_char digit)) (all_ascii_digits (map digit_char digits))
    (digit_is digit below.0) (all_digits digits below.1)

digits_back : (digits : List ℕ) → AllBelowBase 10 digits → map (λ byte. byte - 48) (map digit_char digits) ≡ digits
digits_back [] below = refl
digits_back (digit ∷ digits) below = rw (digit_back digit below.0, digits_back digits below.1) refl

-- a number above 0
above_zero : (n : ℕ) → 0 < n → IsNumeralOf n (map digit_char (digits_of 10 n))
above_zero n above =
    let below : AllBelowBase 10 (digits_of 10 n) = all_below_base_digits_of 10 n (omega arith) in
    record {
      some = omega (
        arith,
        length-map (digits_of 10 n) digit_char,
        length-digits_of_step 10 n (omega arith) above,
      );
      digits = all_digits (digits_of 10 n) below;
      value = ap (number_from_digits 10) (digits_back (digits_of 10 n) below) ∙ number_digits_of 10 n (omega arith);
    }

natural : (n : ℕ) → IsNumeralOf n (number_text (pos n))
natural zero = record { some = omega arith; digits = refl; value = refl }
natural (suc n) =
    subst (IsNumeralOf (suc n))
    (sym (ap (λ (is : Bool). if is then codes "0" else map digit_char (digits_of 10 (suc n)))
    (ne_eqb (suc n) 0 (λ none. omega (arith, none)))))
    (above_zero (suc n) (omega arith))

numerals_apart : (n m : ℕ) (one other x y : List ℕ) → IsNumeralOf n one → IsNumeralOf m other → NoDigit x → NoDigit y
    → one ++ x ≡ other ++ y → Same n m x y
numerals_apart n m one other x y p q f g e =
    let found = digits_apart one other x y p.digits q.digits f g e in
    (sym p.value ∙ ap value_of found.0 ∙ q.value, found.1)

-- ---- numbers

digit_first : (text : List ℕ) → 0 < length text → all_ascii_digits text ≡ true
    → (digit : ℕ) × (later : List ℕ) × (text ≡ digit ∷ later) × (is_ascii_digit digit ≡ true)
digit_first [] some digits = absurd (omega arith)
digit_first (digit ∷ later) some digits =
    (digit, later, refl, (and_parts (is_ascii_digit digit) (all_ascii_digits later) digits).0)

-- a number that is not below 0 begins with a digit
pub first_digit : (n : ℕ)
    → (digit : ℕ) × (later : List ℕ) × (number_text (pos n) ≡ digit ∷ later) × (is_ascii_digit digit ≡ true)
first_digit n = digit_first (number_text (pos n)) (natural n).some (natural n).digits

no_minus : (n : ℕ) (x z : List ℕ) → number_text (pos n) ++ x ≡ 45 ∷ z → ⊥
no_minus n x z e =
    let first = first_digit n in
    let minus : first.0 ≡ 45 = head_is first.0 45 (first.1 ++ x) z
    (ap (λ (text : List ℕ). text ++ x) (sym first.2) ∙ e) in
    false≢true (sym (ap is_ascii_digit minus) ∙ first.3)

pub numbers_apart : (one other : ℤ) (x y : List ℕ) → NoDigit x → NoDigit y
    → number_text one ++ x ≡ number_text other ++ y → Same one other x y
numbers_apart (pos n) (pos m) x y f g e =
    let found = numerals_apart n m (number_text (pos n)) (number_text (pos m)) x y (natural n) (natural m) f g e in
    (ap pos found.0, found.1)
numbers_apart (pos n) (negsuc m) x y f g e =
    absurd (no_minus n x (map digit_char (digits_of 10 (suc m)) ++ y) e)
numbers_apart (negsuc n) (pos m) x y f g e =
    absurd (no_minus m y (map digit_char (digits_of 10 (suc n)) ++ x) (sym e))
numbers_apart (negsuc n) (negsuc m) x y f g e =
    let one = map digit_char (digits_of 10 (suc n)) in
    let other = map digit_char (digits_of 10 (suc m)) in
    let found = numerals_apart (suc n) (suc m) one other x y (above_zero (suc n) (omega arith))
    (above_zero (suc m) (omega arith)) f g (tail_is 45 45 (one ++ x) (other ++ y) e) in
    (ap negsuc (omega (arith, found.0)), found.1)
