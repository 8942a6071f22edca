-- What is at the front of a text: PostgreSQL 15, "SQL Syntax", 4.1 Lexical Structure. The text reads as zero bytes
-- past its end.
use Rattle.std.specs.Prelude.{ℕ, ◌+◌, Bool, ◌&&◌, ◌||◌, ◌==◌, nat_lt, if◌then◌else◌, List, drop, slice_index, Option, Some, None}
use Rattle.std.specs.List.{prefix_len}
use Rattle.std.specs.Char.{to_ascii_lowercase}
use Rattle.sql_tokens.specs.declared.bytes.Class.TheVariants as class
use Rattle.sql_tokens.specs.declared.kinds.TokenKind.TheVariants.{Word, Open, Close, Comma, Semicolon, Dot, DoubleColon}
use Rattle.sql_tokens.specs.declared.kinds.FaultKind.TheVariants.{BadToken, NameTooLong, StringForm}
use Rattle.sql_tokens.specs.declared.kinds.Piece.{Piece}
use Rattle.sql_tokens.specs.declared.kinds.Piece.TheVariants.{Blank, Whole, Faulty}
use Rattle.sql_tokens.specs.Bytes.{is_in_class}
use Rattle.sql_tokens.specs.Comments.{begins_line_comment, begins_block_comment, line_comment, block_comment}
use Rattle.sql_tokens.specs.Quotes.{quoted_name, front_string}
use Rattle.sql_tokens.specs.Numbers.{front_number}
use Rattle.sql_tokens.specs.Operators.{operator}

-- a comment, after its first two characters
abbrev pub comment_piece : Option ℕ → Piece
comment_piece None = Faulty BadToken
comment_piece (Some n) = Blank (2 + n)

-- a letter directly before a quote, depending on the letter and the two bytes after it
abbrev pub is_string_form : ℕ → ℕ → ℕ → Bool
is_string_form letter next after =
    let e = to_ascii_lowercase letter in
    ((e == 101 || e == 98 || e == 120 || e == 110) && next == 39)
    || (e == 117 && next == 38 && (after == 39 || after == 34))

-- a word of `n` bytes; a name has at most 63
abbrev pub word_piece : ℕ → List ℕ → Piece
word_piece n bytes =
    if n == 1 && is_string_form (slice_index bytes 0) (slice_index bytes 1) (slice_index bytes 2) then Faulty StringForm
    else (if nat_lt 63 n then Faulty NameTooLong else Whole Word n)

unfoldable pub front_word : List ℕ → Piece
front_word bytes = word_piece (1 + prefix_len (is_in_class class.WordByte) (drop 1 bytes)) bytes

-- a byte that begins nothing longer, except for two colons
abbrev pub punctuation : ℕ → ℕ → Piece
punctuation b next =
    if b == 40 then Whole Open 1 else (if b == 41 then Whole Close 1 else (if b == 44 then Whole Comma 1
    else (if b == 59 then Whole Semicolon 1 else (if b == 46 then Whole Dot 1
    else (if b == 58 && next == 58 then Whole DoubleColon 2 else Faulty BadToken)))))

unfoldable pub front : List ℕ → Piece
front bytes =
    let b = slice_index bytes 0 in
    if is_in_class class.Space b then Blank 1
    else (if begins_line_comment bytes then comment_piece (line_comment (drop 2 bytes))
    else (if begins_block_comment bytes then comment_piece (block_comment 0 (drop 2 bytes))
    else (if is_in_class class.Letter b then front_word bytes
    else (if is_in_class class.Digit b then front_number bytes
    else (if b == 34 then quoted_name bytes
    else (if b == 39 then front_string bytes
    else (if is_in_class class.Sign b then operator bytes
    else punctuation b (slice_index bytes 1))))))))
