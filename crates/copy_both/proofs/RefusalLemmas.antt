-- The fields of an ErrorResponse, one after another.
use Rattle.std.proofs.Common.{◌≡◌, ℕ, ◌+◌, List, [], ◌∷◌, ◌++◌, length, append_assoc, arith, length-append}
use Rattle.copy_both.specs.Refusals.{error_fields}

-- the bytes before the code: `SERROR`, a zero byte, `VERROR`, a zero byte and `C`
abbrev pub severities : List ℕ
severities = 83 ∷ 69 ∷ 82 ∷ 82 ∷ 79 ∷ 82 ∷ 0 ∷ 86 ∷ 69 ∷ 82 ∷ 82 ∷ 79 ∷ 82 ∷ 0 ∷ 67 ∷ []

pub fields_are : (code before name after : List ℕ)
    → severities ++ (code ++ ((0 ∷ 77 ∷ []) ++ (before ++ (name ++ (after ++ (0 ∷ 0 ∷ []))))))
    ≡ error_fields code (before ++ name ++ after)
fields_are code before name after = simp append_assoc

pub length-fields : (code text : List ℕ) → length code ≡ 5 → length (error_fields code text) ≡ 24 + length text
length-fields code text five = simp length-append (omega arith)

pub joined_9 : (out a b c d e f g h i : List ℕ)
    → out ++ a ++ b ++ c ++ d ++ e ++ f ++ g ++ h ++ i ≡ out
    ++ (a ++ (b ++ (c ++ (d ++ (e ++ (f ++ (g ++ (h ++ i))))))))
joined_9 out a b c d e f g h i = simp append_assoc
