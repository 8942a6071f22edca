-- The bytes of a String are UTF-8.
use Rattle.std.proofs.Common.{◌≡◌, ℕ, List, sym, subst}
use Rattle.std.specs.Str.{IsUtf8}
use Rattle.std.specs.String.{string_bytes}
use Rattle.std.specs.declared.string.String.{String}
use Rattle.std.proofs.lemmas.Str.{IsUtf8-string_bytes}

pub text_of_string : {Z : Type 0} (text : String Z) (bytes : List ℕ) → bytes ≡ string_bytes text → IsUtf8 bytes
text_of_string text bytes is = subst IsUtf8 (sym is) (IsUtf8-string_bytes text)
