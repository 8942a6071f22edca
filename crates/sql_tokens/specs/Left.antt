-- What a cursor has left of its text, and what a call of `next` says about it: PostgreSQL 15, "SQL Syntax", 4.1
-- Lexical Structure.
use Rattle.std.specs.Prelude.{◌≡◌, ℕ, ◌+◌, ◌-◌, ◌<◌, ◌≤◌, List, length, take, drop, Option, Some, None, Result, Ok, Err}
use Rattle.std.specs.Str.{IsCharBoundary}
use Rattle.sql_tokens.specs.declared.cursor.Tokens.{Tokens}
use Rattle.sql_tokens.specs.declared.kinds.Token.{Token}
use Rattle.sql_tokens.specs.declared.kinds.TokenKind.TheVariants.{QuotedName, Text}
use Rattle.sql_tokens.specs.declared.kinds.TokenFault.{TokenFault}
use Rattle.sql_tokens.specs.Pieces.{IsBigint}
use Rattle.sql_tokens.specs.Lexed.{Lexeme, Lexed, End, Bad, Then, at}

-- the text of a cursor
abbrev pub text_of : Tokens → List ℕ
text_of tokens = tokens.text.now

-- the tokens that it has not returned yet
abbrev pub left : Tokens → Lexed
left tokens = at (text_of tokens) tokens.place

-- a token with its bytes
abbrev pub lexeme : List ℕ → Token → Lexeme
lexeme text token = record { kind = token.kind; place = token.place; text = take token.length (drop token.place text) }

-- the tokens of a result; `rest` are the tokens after it
abbrev pub answered : List ℕ → Result (Option Token) TokenFault → Lexed → Lexed
answered text (Ok None) rest = End (length text)
answered text (Ok (Some token)) rest = Then (lexeme text token) rest
answered text (Err fault) rest = Bad fault.place fault.kind

-- where the text continues after a result
abbrev pub place_after : List ℕ → Result (Option Token) TokenFault → ℕ
place_after text (Ok (Some token)) = token.place + token.length
place_after text _ = length text

-- a token with a quote at each end, between which it is valid to cut the text
pub record IsBetweenQuotes (text : List ℕ) (token : Token) : Type 0 where
  pub quotes : 2 ≤ token.length
  pub starts : IsCharBoundary text (token.place + 1)
  pub ends : IsCharBoundary text (token.place + token.length - 1)

-- a token lies within the text, and it is valid to cut the text at its ends
pub record IsCut (text : List ℕ) (token : Token) : Type 0 where
  pub some : 0 < token.length
  pub within : token.place + token.length ≤ length text
  pub starts : IsCharBoundary text token.place
  pub ends : IsCharBoundary text (token.place + token.length)
  pub quoted_name : token.kind ≡ QuotedName → IsBetweenQuotes text token
  pub string : token.kind ≡ Text → IsBetweenQuotes text token
  pub number : IsBigint token.kind
