-- Operators: PostgreSQL 15, "SQL Syntax", 4.1.3 Operators.
use Rattle.std.specs.Prelude.{ℕ, ◌+◌, ◌-◌, max, not, ◌&&◌, ◌||◌, ◌==◌, if◌then◌else◌, List, [], ◌∷◌, length, take, Option, Some, None}
use Rattle.std.specs.List.{list_any, suffix_len}
use Rattle.sql_tokens.specs.declared.bytes.Class.TheVariants as class
use Rattle.sql_tokens.specs.declared.kinds.Operator.{Operator}
use Rattle.sql_tokens.specs.declared.kinds.Operator.TheVariants as op
use Rattle.sql_tokens.specs.declared.kinds.TokenKind.TheVariants as kind
use Rattle.sql_tokens.specs.declared.kinds.FaultKind.TheVariants as fault
use Rattle.sql_tokens.specs.declared.kinds.Piece.{Piece}
use Rattle.sql_tokens.specs.declared.kinds.Piece.TheVariants.{Whole, Faulty}
use Rattle.sql_tokens.specs.Bytes.{is_in_class}
use Rattle.sql_tokens.specs.Comments.{begins_line_comment, begins_block_comment}

-- the longest run of an operator's characters, which stops before a comment
unfoldable pub signs_len : List ℕ → ℕ
signs_len [] = 0
signs_len (b ∷ bytes) =
    if is_in_class class.Sign b && not (begins_line_comment (b ∷ bytes) || begins_block_comment (b ∷ bytes)) then
    1 + signs_len bytes else 0

-- A run drops the plus and minus characters at its end, but keeps one character. It drops none if it has a character
-- that allows such an end.
abbrev pub operator_len : List ℕ → ℕ
operator_len run = if list_any (is_in_class class.FreeSign) run then
    length run else max 1 (length run - suffix_len (is_in_class class.PlusMinus) run)

-- the operators of one and of two characters that are known
abbrev pub single_sign : ℕ → Option Operator
single_sign b =
    if b == 61 then Some op.Equal else (if b == 60 then Some op.Less else (if b == 62 then Some op.Greater
    else (if b == 37 then
    Some op.Percent else (if b == 45 then Some op.Minus else (if b == 42 then Some op.Star else None)))))

abbrev pub double_sign : ℕ → ℕ → Option Operator
double_sign b c =
    if b == 60 && c == 62 then Some op.NotEqual else (if b == 33 && c == 61 then Some op.NotEqual
    else (if b == 60 && c == 61 then
    Some op.LessOrEqual else (if b == 62 && c == 61 then Some op.GreaterOrEqual else None)))

abbrev pub operator_of : List ℕ → Option Operator
operator_of (b ∷ []) = single_sign b
operator_of (b ∷ c ∷ []) = double_sign b c
operator_of _ = None

abbrev pub operator_piece : ℕ → Option Operator → Piece
operator_piece n (Some o) = Whole (kind.Operator o) n
operator_piece n None = Faulty fault.Operator

unfoldable pub operator : List ℕ → Piece
operator bytes =
    let n = operator_len (take (signs_len bytes) bytes) in
    operator_piece n (operator_of (take n bytes))
