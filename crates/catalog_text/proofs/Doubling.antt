-- A text put between quotes, one character at a time. The quote is ASCII.
use Rattle.std.proofs.Common.{◌≡◌, ℕ, suc, ◌<◌, ◌≤◌, ◌==◌, if◌then◌else◌, List, [], ◌∷◌, ◌++◌, length, get_or, encode_utf8, inl, inr, refl, sym, arith, append-nil, append_assoc, false}
use Rattle.std.proofs.lemmas.Bool.{cases_lt}
use Rattle.std.proofs.lemmas.Bool.Decides.{nat_tests}
use Rattle.std.proofs.lemmas.Str.{encode_ascii, inside_one}
use Rattle.sql_tokens.specs.Doubled.{doubled}

-- bytes that are not ASCII stay as they are
kept : (quote : ℕ) → quote < 128 → (xs rest : List ℕ) → ((k : ℕ) → k < length xs → 128 ≤ get_or xs k 0)
    → doubled quote (xs ++ rest) ≡ xs ++ doubled quote rest
kept quote ascii [] rest high = refl
kept quote ascii (x ∷ xs) rest high =
    let first : 128 ≤ x = high 0 (omega arith) in
    let e = kept quote ascii xs rest (λ k below. high (suc k) (omega arith)) in
    let other : x == quote ≡ false = grind (arith, nat_tests) in
    rw (other, e) refl

pub doubled-char : (quote c : ℕ) (rest : List ℕ) → quote < 128
    → doubled quote (encode_utf8 c ++ rest)
    ≡ (if c == quote then quote ∷ quote ∷ doubled quote rest else encode_utf8 c ++ doubled quote rest)
doubled-char quote c rest ascii = elim (cases_lt c 128) [
  | inl low ↦ rw (encode_ascii c low) (grind (arith, nat_tests))
  | inr big ↦
      let high : (k : ℕ) → k < length (encode_utf8 c) → 128 ≤ get_or (encode_utf8 c) k 0 =
      λ k below. elim (cases_lt (get_or (encode_utf8 c) k 0) 128) [
        | inl low ↦ absurd (omega (arith, inside_one c [] (encode_utf8 c) k (sym (append-nil _)) below low))
        | inr h ↦ h
      ] in
      let e = kept quote ascii (encode_utf8 c) rest high in
      let other : c == quote ≡ false = grind (arith, nat_tests) in
      rw other e
]

pub ruleset doubling = (doubled-char, encode_ascii, append_assoc, append-nil, nat_tests)
