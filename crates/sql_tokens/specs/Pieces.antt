-- How a piece is placed at the front of some bytes: PostgreSQL 15, "SQL Syntax", 4.1 Lexical Structure. A token begins
-- and ends with an ASCII character.
use Rattle.std.specs.Prelude.{ℕ, ◌-◌, ◌^◌, ◌<◌, ◌≤◌, List, length, slice_index}
use Rattle.sql_tokens.specs.declared.kinds.TokenKind.{TokenKind}
use Rattle.sql_tokens.specs.declared.kinds.TokenKind.TheVariants.{QuotedName, Number, Text}
use Rattle.sql_tokens.specs.declared.kinds.Piece.{Piece}
use Rattle.sql_tokens.specs.declared.kinds.Piece.TheVariants.{Blank, Whole, Faulty}

-- a number is at most the greatest bigint
abbrev pub IsBigint : TokenKind → Type 0
IsBigint (Number n) = n < 2 ^ 63
IsBigint _ = Unit {0}

-- a quote at each end
abbrev pub HasQuotes : TokenKind → ℕ → Type 0
HasQuotes QuotedName n = 2 ≤ n
HasQuotes Text n = 2 ≤ n
HasQuotes _ n = Unit {0}

pub record IsToken (bytes : List ℕ) (kind : TokenKind) (n : ℕ) : Type 0 where
  pub some : 0 < n
  pub within : n ≤ length bytes
  pub first : slice_index bytes 0 < 128
  pub last : slice_index bytes (n - 1) < 128
  pub quotes : HasQuotes kind n
  pub number : IsBigint kind

abbrev pub IsPiece : List ℕ → Piece → Type 0
IsPiece bytes (Blank n) = (0 < n) × (n ≤ length bytes)
IsPiece bytes (Whole kind n) = IsToken bytes kind n
IsPiece bytes (Faulty fault) = Unit {0}
