-- Quoted names and string constants: PostgreSQL 15, "SQL Syntax", 4.1.1 Identifiers and Key Words and 4.1.2.1 String
-- Constants.
use Rattle.std.specs.Prelude.{ℕ, ◌+◌, ◌&&◌, ◌==◌, nat_lt, if◌then◌else◌, List, [], ◌∷◌, length, take, drop, Option, Some, None}
use Rattle.sql_tokens.specs.declared.kinds.TokenKind.TheVariants.{QuotedName, Text}
use Rattle.sql_tokens.specs.declared.kinds.FaultKind.TheVariants.{BadToken, NameTooLong, LiteralBytes}
use Rattle.sql_tokens.specs.declared.kinds.Piece.{Piece}
use Rattle.sql_tokens.specs.declared.kinds.Piece.TheVariants.{Whole, Faulty}
use Rattle.sql_tokens.specs.Comments.{longer}

-- What is between two quotes; each two adjacent quotes are one.
unfoldable pub undoubled : ℕ → List ℕ → List ℕ
undoubled quote (b ∷ c ∷ bytes) = if b == quote && c == quote then
    quote ∷ undoubled quote bytes else b ∷ undoubled quote (c ∷ bytes)
undoubled quote (b ∷ []) = b ∷ []
undoubled quote [] = []

-- How many bytes come before the closing quote, which is a quote with none after it. There is no closing quote after a
-- zero byte.
unfoldable pub inner_len : ℕ → List ℕ → Option ℕ
inner_len quote (b ∷ c ∷ bytes) =
    if b == 0 then None
    else (if b == quote then (if c == quote then longer 2 (inner_len quote bytes) else Some 0)
    else longer 1 (inner_len quote (c ∷ bytes)))
inner_len quote (b ∷ []) = if b == 0 then None else (if b == quote then Some 0 else None)
inner_len quote [] = None

-- A name of `n` bytes between its quotes, or of `meant` bytes once doubled quotes are undone. It is not empty, and
-- `meant` is at most 63.
abbrev pub name_piece : ℕ → ℕ → Piece
name_piece n meant = if n == 0 then
    Faulty BadToken else (if nat_lt 63 meant then Faulty NameTooLong else Whole QuotedName (n + 2))

-- likewise a string constant, which may be empty
abbrev pub string_piece : ℕ → ℕ → Piece
string_piece n meant = if nat_lt 65535 meant then Faulty LiteralBytes else Whole Text (n + 2)

-- the piece that an opening quote makes with the bytes after it
abbrev pub quoted : ℕ → (ℕ → ℕ → Piece) → List ℕ → Option ℕ → Piece
quoted quote piece bytes None = Faulty BadToken
quoted quote piece bytes (Some n) = piece n (length (undoubled quote (take n bytes)))

unfoldable pub quoted_name : List ℕ → Piece
quoted_name bytes = quoted 34 name_piece (drop 1 bytes) (inner_len 34 (drop 1 bytes))

unfoldable pub front_string : List ℕ → Piece
front_string bytes = quoted 39 string_piece (drop 1 bytes) (inner_len 39 (drop 1 bytes))
