-- Numbers: PostgreSQL 15, "SQL Syntax", 4.1.2.6 Numeric Constants. Those here have decimal digits only, and fit a
-- bigint.
use Rattle.std.specs.Prelude.{ℕ, ◌+◌, ◌-◌, ◌*◌, ◌^◌, ◌==◌, nat_lt, if◌then◌else◌, List, [], ◌∷◌, take, slice_index}
use Rattle.std.specs.List.{prefix_len}
use Rattle.sql_tokens.specs.declared.bytes.Class.TheVariants as class
use Rattle.sql_tokens.specs.declared.kinds.TokenKind.TheVariants.{Number}
use Rattle.sql_tokens.specs.declared.kinds.FaultKind.TheVariants as fault
use Rattle.sql_tokens.specs.declared.kinds.Piece.{Piece}
use Rattle.sql_tokens.specs.declared.kinds.Piece.TheVariants.{Whole, Faulty}
use Rattle.sql_tokens.specs.Bytes.{is_in_class}

-- more digits read after a number
unfoldable pub number_from : ℕ → List ℕ → ℕ
number_from n [] = n
number_from n (d ∷ digits) = number_from (10 * n + (d - 48)) digits

abbrev pub number_of : List ℕ → ℕ
number_of digits = number_from 0 digits

-- a number of `n` digits, depending on the byte after it
abbrev pub number_piece : ℕ → ℕ → ℕ → Piece
number_piece n value next =
    if is_in_class class.Letter next then Faulty fault.BadToken
    else (if next == 46 then Faulty fault.Number
    else (if nat_lt value (2 ^ 63) then Whole (Number value) n else Faulty fault.NumberTooLarge))

unfoldable pub front_number : List ℕ → Piece
front_number bytes =
    let n = prefix_len (is_in_class class.Digit) bytes in
    number_piece n (number_of (take n bytes)) (slice_index bytes n)
