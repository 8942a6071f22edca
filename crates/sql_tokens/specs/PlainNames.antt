-- What names are: 1 to 63 bytes of UTF-8, none of which is zero: PostgreSQL 15, "SQL Syntax", 4.1.1 Identifiers and
-- Key Words.
use Rattle.std.specs.Prelude.{ℕ, ◌<◌, ◌≤◌, List, length, Contains}
use Rattle.std.specs.Str.{IsUtf8}
use Rattle.sql_tokens.specs.declared.kinds.TokenKind.{TokenKind}
use Rattle.sql_tokens.specs.declared.kinds.TokenKind.TheVariants.{Word, QuotedName}
use Rattle.sql_tokens.specs.Lexed.{Lexed, End, Bad, Then}
use Rattle.sql_tokens.specs.Meant.{name_of}

pub record IsPlainName (name : List ℕ) : Type 0 where
  pub some : 0 < length name
  pub short : length name ≤ 63
  pub no_zero : ¬ Contains name 0
  pub utf8 : IsUtf8 name

-- a token that is a name means such a name
abbrev pub IsPlainToken : TokenKind → List ℕ → Type 0
IsPlainToken Word text = IsPlainName (name_of Word text)
IsPlainToken QuotedName text = IsPlainName (name_of QuotedName text)
IsPlainToken _ text = Unit {0}

-- so do all of these tokens
abbrev pub AreTokensPlain : Lexed → Type 0
AreTokensPlain (End place) = Unit {0}
AreTokensPlain (Bad place fault) = Unit {0}
AreTokensPlain (Then lexeme rest) = IsPlainToken lexeme.kind lexeme.text × AreTokensPlain rest
