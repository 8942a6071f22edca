-- How the tokens of a replication command, or of a list of names, are written: PostgreSQL 15, 55.4. Streaming
-- Replication Protocol (START_REPLICATION), 4.1.1. Identifiers and Key Words, 4.1.2.1. String Constants, and 8.20.
-- pg_lsn Type.
use Rattle.std.specs.Prelude.{◌≡◌, ◌≤◌, ◌↔◌, ℕ, ◌+◌, ◌*◌, ◌^◌, ◌||◌, ◌==◌, Bool, true, false, List, [], ◌∷◌, ◌++◌, length, slice_index, Some, codes}
use Rattle.std.specs.Char.{is_ascii_whitespace}
use Rattle.std.specs.List.{list_all}
use Rattle.std.specs.Str.{str_to_ascii_lowercase}
use Rattle.std.specs.Str.Parse.{IsNumeral, digits_value}
use Rattle.sql_tokens.specs.Doubled.{in_quotes}
use Rattle.copy_both.specs.declared.token.Token.{Token}
use Rattle.copy_both.specs.declared.token.Token.TheVariants.{Word, QuotedName, Value, Position, Open, Close, Comma, Semicolon}
use Rattle.copy_both.specs.CommandTokens.{is_letter, is_word_byte, tokens_of}

-- ---- one token

-- A word begins with a letter or `_`, and continues with letters, digits, `_` and `$`. It means its lower case.
pub record IsWord (meant bytes : List ℕ) : Type 0 where
  pub first : is_letter (slice_index bytes 0) ≡ true
  pub each : list_all is_word_byte bytes ≡ true
  pub folded : meant ≡ str_to_ascii_lowercase bytes

-- 1 to 8 hexadecimal digits
pub record IsHexadecimal (digits : List ℕ) : Type 0 where
  pub numeral : IsNumeral 16 digits
  pub few : length digits ≤ 8

-- A place in the log is written as two numbers with a slash between them: its high 32 bits, and its low ones.
pub record IsPlace (place : ℕ) (bytes : List ℕ) : Type 0 where
  pub high : List ℕ
  pub low : List ℕ
  pub whole : bytes ≡ high ++ (codes "/" ++ low)
  pub before : IsHexadecimal high
  pub after : IsHexadecimal low
  pub value : place ≡ digits_value 16 high * 2 ^ 32 + digits_value 16 low

-- The token is written as these bytes. In a name or a string, each quote is doubled.
abbrev pub IsWritten : Token → List ℕ → Type 0
IsWritten (Word text) bytes = IsWord text bytes
IsWritten (QuotedName text) bytes = bytes ≡ in_quotes 34 text
IsWritten (Value text) bytes = bytes ≡ in_quotes 39 text
IsWritten (Position place) bytes = IsPlace place bytes
IsWritten Open bytes = bytes ≡ codes "("
IsWritten Close bytes = bytes ≡ codes ")"
IsWritten Comma bytes = bytes ≡ codes ","
IsWritten Semicolon bytes = bytes ≡ codes ";"

-- ---- a text

-- A byte that cannot follow a token directly, since the token would not end before it: one that a word or a number
-- continues with, a slash after a word, or a second quote.
abbrev pub continues : Token → ℕ → Bool
continues (Word text) byte = is_word_byte byte || byte == 47
continues (QuotedName text) byte = byte == 34
continues (Value text) byte = byte == 39
continues (Position place) byte = is_word_byte byte
continues Open byte = false
continues Close byte = false
continues Comma byte = false
continues Semicolon byte = false

-- the bytes do not begin with one that passes this test
abbrev pub BeginsWithout : (ℕ → Bool) → List ℕ → Type 0
BeginsWithout test [] = Unit {0}
BeginsWithout test (byte ∷ bytes) = test byte ≡ false

-- A text is blanks, then the token, then bytes that do not continue it and of which this holds.
pub record BeginsWith (text : List ℕ) (token : Token) (Rest : List ℕ → Type 0) : Type 0 where
  pub blanks : List ℕ
  pub bytes : List ℕ
  pub rest : List ℕ
  pub whole : text ≡ blanks ++ (bytes ++ rest)
  pub blank : list_all is_ascii_whitespace blanks ≡ true
  pub written : IsWritten token bytes
  pub ends : BeginsWithout (continues token) rest
  pub more : Rest rest

-- A text is these tokens in order. Before, between and after them it may have blanks.
abbrev pub Spells : List ℕ → List Token → Type 0
Spells text [] = list_all is_ascii_whitespace text ≡ true
Spells text (token ∷ tokens) = BeginsWith text token (λ rest. Spells rest tokens)

-- ---- the law

-- The tokens that are read from a text are those that it spells. A text that spells no list of tokens is not read.
abbrev pub TokensAreSpelled : Type 0
TokensAreSpelled = (text : List ℕ) (tokens : List Token) → (tokens_of text ≡ Some tokens) ↔ Spells text tokens
