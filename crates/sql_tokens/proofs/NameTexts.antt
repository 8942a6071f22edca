-- A name in a text that is UTF-8 is UTF-8 too: it is valid to cut the text before and after each ASCII byte.
use Rattle.std.proofs.Common.{◌≡◌, ℕ, suc, ◌+◌, ◌<◌, ◌≤◌, Bool, true, false, ◌&&◌, ◌==◌, List, [], ◌∷◌, ◌++◌, length, get_or, take, drop, IsUtf8, refl, sym, ap, subst, ◌∙◌, arith, add-zero, append_assoc, get_or-drop, length-append, length-drop}
use Rattle.std.specs.Prelude.{if◌then◌else◌, slice_index}
use Rattle.std.specs.List.{prefix_len}
use Rattle.std.specs.Str.{IsAscii, IsCharBoundary, str_to_ascii_lowercase}
use Rattle.std.proofs.lemmas.Bool.{eqb-true}
use Rattle.std.proofs.lemmas.Bool.Decides.{nat_tests}
use Rattle.std.proofs.lemmas.List.{drop-drop, take_at, drop_at, get_or_at}
use Rattle.std.proofs.lemmas.Str.{IsUtf8-append, IsUtf8-take, IsUtf8-drop, IsUtf8-from_ascii, IsCharBoundary-before_ascii, IsCharBoundary-after_ascii}
use Rattle.std.proofs.lemmas.Str.Ascii.{IsAscii-nil, IsAscii-cons, IsAscii-map, lowercase_ascii}
use Rattle.sql_tokens.specs.declared.bytes.Class.TheVariants as class
use Rattle.sql_tokens.specs.Bytes.{is_in_class}
use Rattle.sql_tokens.specs.Quotes.{undoubled}

-- ---- from each ASCII byte on

abbrev pub AreTexts : List ℕ → Type 0
AreTexts [] = Unit {0}
AreTexts (b ∷ bytes) = (b < 128 → IsUtf8 (b ∷ bytes)) × AreTexts bytes

pub texts_from : (text bytes : List ℕ) (place : ℕ) → IsUtf8 text → drop place text ≡ bytes → AreTexts bytes
texts_from text [] place utf8 e = tt
texts_from text (b ∷ bytes) place utf8 e =
    let first : get_or text place 0 ≡ b = at_drop text place ∙ ap (λ left. get_or left 0 0) e in
    let within : place < length text = omega (arith, length-drop place text, ap length e) in
    let later : drop (place + 1) text ≡ bytes = sym (drop-drop 1 place text) ∙ ap (drop 1) e in (
      λ low. subst IsUtf8 e
          (IsUtf8-drop text place utf8 (IsCharBoundary-before_ascii text place within (omega (arith, first, low)))),
      texts_from text bytes (place + 1) utf8 later,
    )
  where
    at_drop : (text : List ℕ) (place : ℕ) → get_or text place 0 ≡ get_or (drop place text) 0 0
    at_drop text place = rw (get_or-drop place text 0 0, add-zero) refl

-- ---- words

letter_low : (b : ℕ) → is_in_class class.Letter b ≡ true → b < 128
letter_low b e = grind (arith, nat_tests)

word_byte_low : (b : ℕ) → is_in_class class.WordByte b ≡ true → b < 128
word_byte_low b e = grind (arith, nat_tests)

run_by : (b : ℕ) (bytes : List ℕ) (n : ℕ) (is : Bool) → is_in_class class.WordByte b ≡ is → IsAscii (take n bytes)
    → IsAscii (take (if is then 1 + n else 0) (b ∷ bytes))
run_by b bytes n true e h =
    let counted : suc n ≡ 1 + n = omega arith in
    subst (λ k. IsAscii (take k (b ∷ bytes))) counted (IsAscii-cons b (take n bytes) (word_byte_low b e) h)
run_by b bytes n false e h = IsAscii-nil

run_ascii : (bytes : List ℕ) → IsAscii (take (prefix_len (is_in_class class.WordByte) bytes) bytes)
run_ascii [] = IsAscii-nil
run_ascii (b ∷ bytes) =
    run_by b bytes (prefix_len (is_in_class class.WordByte) bytes) (is_in_class class.WordByte b) refl (run_ascii bytes)

pub word_utf8 : (b : ℕ) (bytes : List ℕ) → is_in_class class.Letter b ≡ true
    → IsUtf8 (str_to_ascii_lowercase (b ∷ take (prefix_len (is_in_class class.WordByte) bytes) bytes))
word_utf8 b bytes letter =
    let run = take (prefix_len (is_in_class class.WordByte) bytes) bytes in
    IsUtf8-from_ascii (str_to_ascii_lowercase (b ∷ run))
    (IsAscii-map _ (b ∷ run) lowercase_ascii (IsAscii-cons b run (letter_low b letter) (run_ascii bytes)))

-- ---- quoted names

-- what is between the first byte and another one
pub inner_utf8 : (bytes : List ℕ) (n : ℕ) → slice_index bytes 0 ≡ 34 → IsUtf8 bytes → n < length (drop 1 bytes)
    → get_or (drop 1 bytes) n 0 ≡ 34 → IsUtf8 (take n (drop 1 bytes))
inner_utf8 bytes n first utf8 within last =
    let long : 0 < length bytes = omega (arith, within, length-drop 1 bytes) in
    let after = IsCharBoundary-after_ascii bytes 0 utf8 long (omega (arith, first)) in
    IsUtf8-take (drop 1 bytes) n (IsUtf8-drop bytes 1 utf8 after)
    (IsCharBoundary-before_ascii (drop 1 bytes) n within (omega (arith, last)))

-- what is before an ASCII byte, and what is after it
parted : (part : List ℕ) (b : ℕ) (text : List ℕ) → b < 128 → IsUtf8 (part ++ b ∷ text) → IsUtf8 part × IsUtf8 text
parted part b text low utf8 =
    let whole = part ++ b ∷ text in
    let first : get_or whole (length part) 0 ≡ b = get_or_at part b text 0 (length part) refl in
    let within : length part < length whole = omega (arith, length-append part (b ∷ text)) in
    let is_low : get_or whole (length part) 0 < 128 = omega (arith, first, low) in
    let past : drop (length part + 1) whole ≡ text = sym (drop-drop 1 (length part) whole)
    ∙ ap (drop 1) (drop_at part (b ∷ text) (length part) refl) in (
      subst IsUtf8 (take_at part (b ∷ text) (length part) refl)
          (IsUtf8-take whole (length part) utf8 (IsCharBoundary-before_ascii whole (length part) within is_low)),
      subst IsUtf8 past (IsUtf8-drop whole (length part + 1) utf8
          (IsCharBoundary-after_ascii whole (length part) utf8 within is_low)),
    )

both_quotes : (quote b c : ℕ) → b == quote && c == quote ≡ true → (b ≡ quote) × (c ≡ quote)
both_quotes quote b c e = (grind (arith, nat_tests), grind (arith, nat_tests))

pub undoubled_utf8 : (quote : ℕ) (text part : List ℕ) → quote < 128 → IsUtf8 (part ++ text)
    → IsUtf8 (part ++ undoubled quote text)
unfolding undoubled
undoubled_utf8 quote [] part low utf8 = utf8
undoubled_utf8 quote (b ∷ []) part low utf8 = utf8
undoubled_utf8 quote (b ∷ c ∷ text) part low utf8 =
    either_one (b == quote && c == quote) refl
    (λ rest. undoubled_utf8 quote text [] low rest)
    (λ longer. undoubled_utf8 quote (c ∷ text) (part ++ b ∷ []) low longer)
  where
    either_one : (is : Bool) → b == quote && c == quote ≡ is → (IsUtf8 text → IsUtf8 (undoubled quote text))
        → (IsUtf8 ((part ++ b ∷ []) ++ c ∷ text) → IsUtf8 ((part ++ b ∷ []) ++ undoubled quote (c ∷ text)))
        → IsUtf8 (part ++ (if is then quote ∷ undoubled quote text else b ∷ undoubled quote (c ∷ text)))
    either_one true e one other =
        let is = both_quotes quote b c e in
        let first = parted part b (c ∷ text) (omega (arith, is.0, low)) utf8 in
        let second = parted [] c text (omega (arith, is.1, low)) first.1 in
        let mark : IsUtf8 (quote ∷ []) = IsUtf8-from_ascii (quote ∷ []) (IsAscii-cons quote [] low IsAscii-nil) in
        IsUtf8-append part (quote ∷ undoubled quote text) first.0
        (IsUtf8-append (quote ∷ []) (undoubled quote text) mark (one second.1))
    either_one false e one other =
        subst IsUtf8 (append_assoc part (b ∷ []) (undoubled quote (c ∷ text)))
        (other (subst IsUtf8 (sym (append_assoc part (b ∷ []) (c ∷ text))) utf8))
