-- Hexadecimal digits, byte by byte.
use Rattle.std.proofs.Common.{◌≡◌, ℕ, suc, ◌/◌, ◌%◌, ◌<◌, List, [], ◌∷◌, length, get_or, map, refl, arith}
use Rattle.std.specs.List.{flat_map}
use Rattle.std.specs.Prelude.{IsOk, MatchResult, Result, Ok, Err}
use Rattle.std.specs.Str.{IsAscii, IsUtf8}
use Rattle.std.proofs.lemmas.Bool.Decides.{nat_tests}
use Rattle.std.proofs.lemmas.List.Folds.{flat_map-map}
use Rattle.std.proofs.lemmas.Str.{IsUtf8-from_ascii}
use Rattle.std.proofs.lemmas.Str.Ascii.{IsAscii-nil, IsAscii-cons}
use Rattle.commands.specs.Eval.Hexadecimal.{digit, digits_of, hexadecimal}

-- pairs of digits, one after the other
pub pairs_flat : (bytes : List ℕ) → flat_map (λ (pair : List ℕ). pair) (map digits_of bytes) ≡ hexadecimal bytes
pairs_flat bytes = flat_map-map (λ (pair : List ℕ). pair) digits_of bytes

digit_ascii : (number : ℕ) → number < 16 → digit number < 128
digit_ascii number small = grind (arith, nat_tests)

digits_ascii : (bytes : List ℕ) → ((k : ℕ) → k < length bytes → get_or bytes k 0 < 256) → IsAscii (hexadecimal bytes)
digits_ascii [] small = IsAscii-nil
digits_ascii (byte ∷ bytes) small =
    let one : byte < 256 = small 0 (omega arith) in
    let others = digits_ascii bytes (λ k within. small (suc k) (omega arith)) in
    IsAscii-cons (digit (byte / 16)) (digit (byte % 16) ∷ hexadecimal bytes) (digit_ascii (byte / 16) (omega arith))
    (IsAscii-cons (digit (byte % 16)) (hexadecimal bytes) (digit_ascii (byte % 16) (omega arith)) others)

-- they are a text
pub digits_text : (bytes : List ℕ) → ((k : ℕ) → k < length bytes → get_or bytes k 0 < 256) → IsUtf8 (hexadecimal bytes)
digits_text bytes small = IsUtf8-from_ascii (hexadecimal bytes) (digits_ascii bytes small)

-- a text is read
pub read_of_text : {A E : Type 0} (P : A → Type 0) (Q : E → Type 0) (Text : Type 0) (result : Result A E)
    → MatchResult result P (λ error. ¬ Text × Q error) → Text → IsOk result
read_of_text P Q Text (Ok _) cases text = refl
read_of_text P Q Text (Err _) cases text = absurd (cases.0 text)
