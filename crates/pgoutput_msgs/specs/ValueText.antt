-- The text of a row's value in a message, and the value of a type that a text is: integers in decimal, booleans as `t`
-- and `f`, and null, which has none: PostgreSQL 15, 55.9. Logical Replication Message Formats, and Chapter 8. Data
-- Types.
use Rattle.std.specs.Prelude.{ℕ, ℤ, int_le, true, false, ◌&&◌, ◌==◌, nat_le, if◌then◌else◌, List, [], ◌∷◌, length, map, codes, Option, Some, None, option_map}
use Rattle.std.specs.Fmt.{signed_decimal}
use Rattle.std.specs.List.{list_any}
use Rattle.std.specs.Str.{bytes_eq}
use Rattle.std.specs.Str.Parse.{signed_digits_value}
use Rattle.filter_tree.specs.Datum.{Constant, Number, Truth, Bytes, Datum, Missing, Known}
use Rattle.filter_tree.specs.Values.{datum_view}
use Rattle.filter_tree.specs.declared.value.Value.{Value}
use Rattle.pgoutput_msgs.specs.Spelling.{cell_spelling}
use Rattle.filter_tree.specs.Range.{least_of, greatest_of}
use Rattle.filter_tree.specs.declared.table.ColType.{ColType}
use Rattle.filter_tree.specs.declared.table.ColType.TheVariants as k
use Rattle.pgoutput_msgs.specs.declared.tuple.Cell.{Cell}
use Rattle.pgoutput_msgs.specs.declared.tuple.Cell.TheVariants.{Null, Text}

-- ---- the text of a value

abbrev pub cell_of : Datum → Cell
cell_of Missing = Null
cell_of (Known (Number number)) = Text (signed_decimal number)
cell_of (Known (Truth true)) = Text (codes "t")
cell_of (Known (Truth false)) = Text (codes "f")
cell_of (Known (Bytes text)) = Text text

abbrev pub cells_of : List Datum → List Cell
cells_of row = map cell_of row

-- the bytes of a value in a message
abbrev pub value_spelling : {A : _} → Value A → List ℕ
value_spelling value = cell_spelling (cell_of (datum_view value))

-- ---- the value of a text

-- the number, if this is its own text and it is in the range of the type
abbrev pub number_if : ColType → List ℕ → ℤ → Option ℤ
number_if kind text number =
    if bytes_eq text (signed_decimal number) && (int_le (least_of kind) number && int_le number (greatest_of kind))
    then Some number else None

unfoldable pub number_in : ColType → List ℕ → Option ℤ
number_in kind text = number_if kind text (signed_digits_value 10 text)

unfoldable pub truth_in : List ℕ → Option Constant
truth_in text =
    if bytes_eq text (codes "t") then
    Some (Truth true) else (if bytes_eq text (codes "f") then Some (Truth false) else None)

-- a text has no zero byte, and at most 65,535 bytes
unfoldable pub text_in : List ℕ → Option Constant
text_in text =
    if list_any (λ byte. byte == 0) text then None else (if nat_le (length text) 65535 then Some (Bytes text) else None)

-- the value of the type whose text this is, if there is one
abbrev pub constant_in : ColType → List ℕ → Option Constant
constant_in k.SmallInt text = option_map Number (number_in k.SmallInt text)
constant_in k.Integer text = option_map Number (number_in k.Integer text)
constant_in k.BigInt text = option_map Number (number_in k.BigInt text)
constant_in k.Boolean text = truth_in text
constant_in k.Text text = text_in text

abbrev pub datum_in : ColType → Cell → Option Datum
datum_in kind Null = Some Missing
datum_in kind (Text text) = option_map Known (constant_in kind text)

-- a value, and those of the other columns
abbrev pub row_with : Option Datum → Option (List Datum) → Option (List Datum)
row_with None others = None
row_with (Some datum) None = None
row_with (Some datum) (Some others) = Some (datum ∷ others)

-- the row of a tuple whose columns have these types: none if it has another width, or a text that is not of its type
unfoldable pub row_in : List ColType → List Cell → Option (List Datum)
row_in [] [] = Some []
row_in (kind ∷ kinds) (cell ∷ cells) = row_with (datum_in kind cell) (row_in kinds cells)
row_in [] (cell ∷ cells) = None
row_in (kind ∷ kinds) [] = None
