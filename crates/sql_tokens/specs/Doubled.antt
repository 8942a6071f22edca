-- A text as it is written between quotes, with each quote in it doubled: PostgreSQL 15, "SQL Syntax", 4.1.2.1 String
-- Constants.
use Rattle.std.specs.Prelude.{ℕ, ◌==◌, if◌then◌else◌, List, [], ◌∷◌, ◌++◌, flat_map}

abbrev pub quoted_byte : ℕ → ℕ → List ℕ
quoted_byte quote byte = if byte == quote then quote ∷ quote ∷ [] else byte ∷ []

abbrev pub doubled : ℕ → List ℕ → List ℕ
doubled quote text = flat_map (quoted_byte quote) text

-- such a text with the quotes around it
abbrev pub in_quotes : ℕ → List ℕ → List ℕ
in_quotes quote text = quote ∷ (doubled quote text ++ (quote ∷ []))
