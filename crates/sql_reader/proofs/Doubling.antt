-- A text put between quotes, one character at a time.
use Rattle.std.proofs.Common.{◌≡◌, ℕ, suc, ◌<◌, ◌≤◌, ◌==◌, if◌then◌else◌, List, [], ◌∷◌, ◌++◌, length, get_or, encode_utf8, inl, inr, refl, sym, arith, append-nil, append_assoc, false}
use Rattle.std.proofs.lemmas.Bool.{cases_lt}
use Rattle.std.proofs.lemmas.Bool.Decides.{nat_tests}
use Rattle.std.proofs.lemmas.Str.{encode_ascii, inside_one}
use Rattle.sql_tokens.specs.Doubled.{doubled}

-- bytes that are not ASCII stay as they are
kept : (xs rest : List ℕ) → ((k : ℕ) → k < length xs → 128 ≤ get_or xs k 0)
    → doubled 39 (xs ++ rest) ≡ xs ++ doubled 39 rest
kept [] rest high = refl
kept (x ∷ xs) rest high =
    let first : 128 ≤ x = high 0 (omega arith) in
    let e = kept xs rest (λ k below. high (suc k) (omega arith)) in
    let other : x == 39 ≡ false = grind (arith, nat_tests) in
    rw (other, e) refl

pub doubled-char : (c : ℕ) (rest : List ℕ)
    → doubled 39 (encode_utf8 c ++ rest)
    ≡ (if c == 39 then 39 ∷ 39 ∷ doubled 39 rest else encode_utf8 c ++ doubled 39 rest)
doubled-char c rest = elim (cases_lt c 128) [
  | inl ascii ↦ rw (encode_ascii c ascii) (grind (arith, nat_tests))
  | inr big ↦
      let high : (k : ℕ) → k < length (encode_utf8 c) → 128 ≤ get_or (encode_utf8 c) k 0 =
      λ k below. elim (cases_lt (get_or (encode_utf8 c) k 0) 128) [
        | inl low ↦ absurd (omega (arith, inside_one c [] (encode_utf8 c) k (sym (append-nil _)) below low))
        | inr h ↦ h
      ] in
      let e = kept (encode_utf8 c) rest high in
      let other : c == 39 ≡ false = grind (arith, nat_tests) in
      rw other e
]

pub ruleset doubling = (doubled-char, append_assoc, append-nil, nat_tests)
