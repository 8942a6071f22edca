-- The tokens of a replication command, and of a list of names: words and quoted names ("4.1.1. Identifiers and Key
-- Words"), strings between single quotes ("4.1.2.1. String Constants"), places in the log ("8.20. pg_lsn Type") and
-- marks. There are no comments.
use Rattle.std.specs.Prelude.{ℕ, zero, suc, ◌+◌, ◌-◌, ◌*◌, ◌^◌, ◌||◌, ◌==◌, Bool, true, false, nat_lt, not, if◌then◌else◌, List, [], ◌∷◌, map, length, take, drop, slice_index, Option, Some, None}
use Rattle.std.specs.Char.{is_ascii_alphabetic, is_ascii_alphanumeric, is_ascii_hexdigit, is_ascii_whitespace}
use Rattle.std.specs.List.{list_all, prefix_len, slice_split}
use Rattle.std.specs.Option.{option_map}
use Rattle.std.specs.Str.{str_to_ascii_lowercase, bytes_eq}
use Rattle.std.specs.Str.Parse.{digits_value}
use Rattle.copy_both.specs.declared.quoted.QuotedText.{QuotedText}
use Rattle.copy_both.specs.declared.token.Piece.{Piece}
use Rattle.copy_both.specs.declared.token.Piece.TheVariants.{Blank, Whole, Bad}
use Rattle.copy_both.specs.declared.token.Token.{Token}
use Rattle.copy_both.specs.declared.token.Token.TheVariants.{Word, QuotedName, Value, Position, Open, Close, Comma, Semicolon}

-- ---- between quotes

-- this number of further bytes, which mean one
abbrev pub longer : ℕ → ℕ → Option QuotedText → Option QuotedText
longer n byte None = None
longer n byte (Some found) = Some (record { meant = byte ∷ found.meant; length = n + found.length })

-- What is between quotes, after the first one: its meaning, in which two adjacent quotes are one, and the number of its
-- bytes with the last quote.
unfoldable pub quoted : ℕ → List ℕ → Option QuotedText
quoted quote (b ∷ c ∷ bytes) =
    if b == quote then (if c == quote then
    longer 2 quote (quoted quote bytes) else Some (record { meant = []; length = 1 }))
    else longer 1 b (quoted quote (c ∷ bytes))
quoted quote (b ∷ []) = if b == quote then Some (record { meant = []; length = 1 }) else None
quoted quote [] = None

abbrev pub name_piece : Option QuotedText → Piece
name_piece None = Bad
name_piece (Some found) = Whole (QuotedName found.meant) (1 + found.length)

abbrev pub value_piece : Option QuotedText → Piece
value_piece None = Bad
value_piece (Some found) = Whole (Value found.meant) (1 + found.length)

-- ---- words and places

abbrev pub is_letter : ℕ → Bool
is_letter b = is_ascii_alphabetic b || b == 95

-- what a word continues with
abbrev pub is_word_byte : ℕ → Bool
is_word_byte b = is_ascii_alphanumeric b || b == 95 || b == 36

-- the number that 1 to 8 hexadecimal digits represent
abbrev pub hexadecimal : List ℕ → Option ℕ
hexadecimal digits =
    if length digits == 0 || nat_lt 8 (length digits) || not (list_all is_ascii_hexdigit digits) then
    None else Some (digits_value 16 digits)

-- the place of these high and low 32 bits, written in `n` bytes
abbrev pub place_piece : ℕ → Option ℕ → Option ℕ → Piece
place_piece n (Some high) (Some low) = Whole (Position (high * 2 ^ 32 + low)) n
place_piece n (Some high) None = Bad
place_piece n None low = Bad

-- digits, a slash and digits
abbrev pub place : List ℕ → List ℕ → Piece
place high after =
    let low = take (prefix_len is_word_byte after) after in
    place_piece (length high + 1 + length low) (hexadecimal high) (hexadecimal low)

-- a word means its lower case
abbrev pub word : List ℕ → Piece
word written = if is_letter (slice_index written 0) then
    Whole (Word (str_to_ascii_lowercase written)) (length written) else Bad

-- the longest run of a word's bytes is a word, or it begins a place
unfoldable pub run : List ℕ → Piece
run bytes =
    let n = prefix_len is_word_byte bytes in
    let rest = drop n bytes in
    if slice_index rest 0 == 47 then place (take n bytes) (drop 1 rest) else word (take n bytes)

-- ---- all tokens

abbrev pub mark : ℕ → Piece
mark b = if b == 40 then
    Whole Open 1 else (if b == 41 then
    Whole Close 1 else (if b == 44 then Whole Comma 1 else (if b == 59 then Whole Semicolon 1 else Bad)))

-- what is at the front of a text: a blank, a token of this number of bytes, or neither
unfoldable pub front : List ℕ → Piece
front bytes =
    let b = slice_index bytes 0 in
    if is_ascii_whitespace b then Blank
    else (if b == 34 then name_piece (quoted 34 (drop 1 bytes))
    else (if b == 39 then value_piece (quoted 39 (drop 1 bytes))
    else (if is_word_byte b then run bytes else mark b)))

abbrev pub begins : Piece → (ℕ → Option (List Token)) → Option (List Token)
begins Blank go_on = go_on 0
begins (Whole token n) go_on = option_map (λ tokens. token ∷ tokens) (go_on (n - 1))
begins Bad go_on = None

-- the tokens of some bytes, past `skip` of them, if all of them can be read
unfoldable pub tokens_from : ℕ → List ℕ → Option (List Token)
tokens_from skip [] = Some []
tokens_from (suc skip) (b ∷ bytes) = tokens_from skip bytes
tokens_from zero (b ∷ bytes) = begins (front (b ∷ bytes)) (λ n. tokens_from n bytes)

abbrev pub tokens_of : List ℕ → Option (List Token)
tokens_of text = tokens_from 0 text

-- ---- what a token is

abbrev pub is_comma : Token → Bool
is_comma Comma = true
is_comma (Word text) = false
is_comma (QuotedName text) = false
is_comma (Value text) = false
is_comma (Position place) = false
is_comma Open = false
is_comma Close = false
is_comma Semicolon = false

abbrev pub is_close : Token → Bool
is_close Close = true
is_close (Word text) = false
is_close (QuotedName text) = false
is_close (Value text) = false
is_close (Position place) = false
is_close Open = false
is_close Comma = false
is_close Semicolon = false

-- a quoted name is not a keyword
abbrev pub is_keyword : List ℕ → Token → Bool
is_keyword keyword (Word text) = bytes_eq text keyword
is_keyword keyword (QuotedName text) = false
is_keyword keyword (Value text) = false
is_keyword keyword (Position place) = false
is_keyword keyword Open = false
is_keyword keyword Close = false
is_keyword keyword Comma = false
is_keyword keyword Semicolon = false

-- a name has 1 to 63 bytes
abbrev pub as_name : List ℕ → Option (List ℕ)
as_name text = if length text == 0 || nat_lt 63 (length text) then None else Some text

abbrev pub name_in : Token → Option (List ℕ)
name_in (Word text) = as_name text
name_in (QuotedName text) = as_name text
name_in (Value text) = None
name_in (Position place) = None
name_in Open = None
name_in Close = None
name_in Comma = None
name_in Semicolon = None

abbrev pub token_position : Token → Option ℕ
token_position (Position place) = Some place
token_position (Word text) = None
token_position (QuotedName text) = None
token_position (Value text) = None
token_position Open = None
token_position Close = None
token_position Comma = None
token_position Semicolon = None

-- ---- lists with commas

-- all of them, if none is missing
abbrev pub all_of : {X : Type 0} → List (Option X) → Option (List X)
all_of [] = Some []
all_of (None ∷ more) = None
all_of (Some x ∷ more) = option_map (λ xs. x ∷ xs) (all_of more)

-- what is between commas, each read by the same rule
abbrev pub separated : {X : Type 0} → (List Token → Option X) → List Token → Option (List X)
separated rule tokens = all_of (map rule (slice_split is_comma tokens))

abbrev pub lone_name : List Token → Option (List ℕ)
lone_name (token ∷ []) = name_in token
lone_name _ = None

abbrev pub names_in : List Token → Option (List (List ℕ))
names_in tokens = separated lone_name tokens
