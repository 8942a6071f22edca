-- What a name or a string constant means: PostgreSQL 15, "SQL Syntax", 4.1.1 Identifiers and Key Words and 4.1.2.1
-- String Constants.
use Rattle.std.specs.Prelude.{ℕ, ◌-◌, List, length, take, drop}
use Rattle.std.specs.Str.{str_to_ascii_lowercase}
use Rattle.sql_tokens.specs.declared.kinds.TokenKind.{TokenKind}
use Rattle.sql_tokens.specs.declared.kinds.TokenKind.TheVariants.{QuotedName}
use Rattle.sql_tokens.specs.Lexed.{Lexeme}
pub use Rattle.sql_tokens.specs.Quotes.{undoubled}

-- the bytes between the first and the last
abbrev pub between_quotes : List ℕ → List ℕ
between_quotes text = take (length text - 2) (drop 1 text)

-- a quoted name as it is between its quotes, any other name in lower case
abbrev pub name_of : TokenKind → List ℕ → List ℕ
name_of QuotedName text = undoubled 34 (between_quotes text)
name_of _ text = str_to_ascii_lowercase text

abbrev pub name_meant : Lexeme → List ℕ
name_meant lexeme = name_of lexeme.kind lexeme.text

abbrev pub text_meant : Lexeme → List ℕ
text_meant lexeme = undoubled 39 (between_quotes lexeme.text)
