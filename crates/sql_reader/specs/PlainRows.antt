-- Values of rows as they are mostly written, which are read byte by byte: PostgreSQL 15, "SQL Syntax", 4.1.2 Constants.
-- Each is the value that the tokens from its place on spell.
use Rattle.std.specs.Prelude.{◌≡◌, ℕ, ◌+◌, ◌^◌, ◌<◌, ◌==◌, Bool, true, not, ◌||◌, List, ◌++◌, length, take, drop, slice_index, Ok}
use Rattle.std.specs.Char.{is_ascii_digit}
use Rattle.std.specs.List.{prefix_len}
use Rattle.filter_tree.specs.Datum.{Datum}
use Rattle.filter_tree.specs.Values.{datum_view}
use Rattle.sql_tokens.specs.Lexed.{at}
use Rattle.sql_tokens.specs.Numbers.{number_of}
use Rattle.sql_reader.specs.Items.{Items, items, size}
use Rattle.sql_reader.specs.Rows.{value}
use Rattle.sql_reader.specs.declared.plain_row.Digits.{Digits}
use Rattle.sql_reader.specs.declared.plain_row.PlacedValue.{PlacedValue}

-- a comma or a closing parenthesis, which ends a value
abbrev pub is_end : ℕ → Bool
is_end byte = byte == 44 || byte == 41

-- neither a quote nor zero
abbrev pub is_plain : ℕ → Bool
is_plain byte = not (byte == 39 || byte == 0)

-- all digits at the front of some bytes, at least one, with the number that they spell
pub record AreDigits (bytes : List ℕ) (digits : Digits) : Type 0 where
  pub some : 0 < digits.length
  pub all : prefix_len is_ascii_digit bytes ≡ digits.length
  pub spell : number_of (take digits.length bytes) ≡ digits.number
  pub small : digits.number < 2 ^ 63

-- the tokens of a text from a place on
abbrev pub tokens_at : List ℕ → ℕ → Items
tokens_at text place = items (at text place)

-- a value is read from tokens, and the others are left
pub record ReadsValue (cell : Datum) (ts after : Items) : Type 0 where
  pub reads : value ts ≡ Ok (cell, after)
  pub fewer : size after < size ts

-- the value is at this place of a text, and ends there
pub record IsPlain (text : List ℕ) (place : ℕ) (found : PlacedValue) : Type 0 where
  pub takes : ReadsValue (datum_view found.value) (tokens_at text place) (tokens_at text found.after)
  pub later : place < found.after
  pub within : found.after < length text
  pub ends : is_end (slice_index text found.after) ≡ true

-- a word is at this place of a text, and a value ends after it
pub record IsWord (text : List ℕ) (place : ℕ) (word : List ℕ) : Type 0 where
  pub is : drop place text ≡ word ++ drop (place + length word) text
  pub within : place + length word < length text
  pub ends : is_end (slice_index text (place + length word)) ≡ true
