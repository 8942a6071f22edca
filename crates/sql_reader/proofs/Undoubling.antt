-- A quoted text read one character at a time.
use Rattle.std.proofs.Common.{◌≡◌, ℕ, suc, ◌+◌, ◌<◌, ◌≤◌, Bool, true, false, ◌&&◌, ◌||◌, ◌==◌, if◌then◌else◌, List, [], ◌∷◌, ◌++◌, length, get_or, encode_utf8, inl, inr, refl, sym, ap, ◌∙◌, arith, append-nil, append_assoc}
use Rattle.std.specs.List.{list_any}
use Rattle.std.proofs.lemmas.Bool.{cases_lt, or_parts}
use Rattle.std.proofs.lemmas.Bool.Decides.{nat_tests}
use Rattle.std.proofs.lemmas.Str.{encode_ascii, inside_one, length-encode, len_utf8_bounds}
use Rattle.sql_tokens.specs.Quotes.{undoubled}

-- What is left once quotes are undoubled: after a quote, which may be the first of two, or after another byte.
unfoldable pub undoubled_from : ℕ → Bool → List ℕ → List ℕ
undoubled_from quote is_quote [] = []
undoubled_from quote is_quote (b ∷ bytes) = if is_quote && b == quote then
    undoubled_from quote false bytes else b ∷ undoubled_from quote (b == quote) bytes

undoubled_by_byte : (quote : ℕ) (bytes : List ℕ)
    → ((b : ℕ) → undoubled quote (b ∷ bytes) ≡ b ∷ undoubled_from quote (b == quote) bytes)
    × (undoubled quote bytes ≡ undoubled_from quote false bytes)
unfolding undoubled undoubled_from
undoubled_by_byte quote [] = (λ b. refl, refl)
undoubled_by_byte quote (c ∷ bytes) =
    let (after, here) = undoubled_by_byte quote bytes in
    let next = after c in (
      λ b. grind (arith, nat_tests),
      next,
    )

pub undoubled-from : (quote : ℕ) (bytes : List ℕ) → undoubled quote bytes ≡ undoubled_from quote false bytes
undoubled-from quote bytes = (undoubled_by_byte quote bytes).1

pub undoubled_from-nil : (quote : ℕ) (is_quote : Bool) (bytes : List ℕ) → length bytes ≡ 0
    → undoubled_from quote is_quote bytes ≡ []
unfolding undoubled_from
undoubled_from-nil quote is_quote [] e = refl
undoubled_from-nil quote is_quote (b ∷ bytes) e = absurd (omega arith)

-- bytes without a quote stay as they are
kept : (quote : ℕ) (xs rest : List ℕ) → quote < 128 → ((k : ℕ) → k < length xs → 128 ≤ get_or xs k 0)
    → undoubled_from quote false (xs ++ rest) ≡ xs ++ undoubled_from quote false rest
unfolding undoubled_from
kept quote [] rest small high = refl
kept quote (x ∷ xs) rest small high =
    let first : 128 ≤ x = high 0 (omega arith) in
    let e = kept quote xs rest small (λ k below. high (suc k) (omega arith)) in
    grind (arith, nat_tests)

-- the same after a quote, if there is at least one byte
kept_after : (quote : ℕ) (is_quote : Bool) (xs rest : List ℕ) → quote < 128 → 0 < length xs
    → ((k : ℕ) → k < length xs → 128 ≤ get_or xs k 0)
    → undoubled_from quote is_quote (xs ++ rest) ≡ xs ++ undoubled_from quote false rest
unfolding undoubled_from
kept_after quote is_quote [] rest small some high = absurd (omega arith)
kept_after quote is_quote (x ∷ xs) rest small some high =
    let first : 128 ≤ x = high 0 (omega arith) in
    let e = kept quote xs rest small (λ k below. high (suc k) (omega arith)) in
    grind (arith, nat_tests)

char_byte : (quote : ℕ) (is_quote : Bool) (b : ℕ) (rest : List ℕ)
    → undoubled_from quote is_quote (b ∷ rest)
    ≡ (if is_quote && b == quote then
    undoubled_from quote false rest else b ∷ undoubled_from quote (b == quote) rest)
unfolding undoubled_from
char_byte quote is_quote b rest = refl

pub undoubled_from-char : (quote : ℕ) (is_quote : Bool) (c : ℕ) (rest : List ℕ) → quote < 128
    → undoubled_from quote is_quote (encode_utf8 c ++ rest)
    ≡ (if is_quote && c == quote then
    undoubled_from quote false rest else encode_utf8 c ++ undoubled_from quote (c == quote) rest)
undoubled_from-char quote is_quote c rest small = elim (cases_lt c 128) [
  | inl ascii ↦ rw (encode_ascii c ascii) (char_byte quote is_quote c rest)
  | inr big ↦
      let high : (k : ℕ) → k < length (encode_utf8 c) → 128 ≤ get_or (encode_utf8 c) k 0 =
      λ k below. elim (cases_lt (get_or (encode_utf8 c) k 0) 128) [
        | inl low ↦ absurd (omega (arith, inside_one c [] (encode_utf8 c) k (sym (append-nil _)) below low))
        | inr h ↦ h
      ] in
      let e = kept_after quote is_quote (encode_utf8 c) rest small (omega (arith, length-encode c, len_utf8_bounds c))
      high in
      grind (arith, nat_tests)
]

undoubled_from-without : (quote : ℕ) (bytes : List ℕ) → list_any (λ b. b == quote) bytes ≡ false
    → undoubled_from quote false bytes ≡ bytes
unfolding undoubled_from
undoubled_from-without quote [] none = refl
undoubled_from-without quote (b ∷ bytes) none =
    let parts = or_parts (b == quote) (list_any (λ b. b == quote) bytes) none in
    rw parts.0 (ap (λ rest. b ∷ rest) (undoubled_from-without quote bytes parts.1))

-- a text without quotes stays as it is
pub undoubled_without : (quote : ℕ) (bytes : List ℕ) → list_any (λ b. b == quote) bytes ≡ false
    → undoubled quote bytes ≡ bytes
undoubled_without quote bytes none = undoubled-from quote bytes ∙ undoubled_from-without quote bytes none

pub ruleset undoubled_turns =
    (undoubled-from, undoubled_from-nil, undoubled_from-char, append_assoc, append-nil, nat_tests)
