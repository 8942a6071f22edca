-- Which rows fit a table, and the first fault of one that does not: the columns' types and NOT NULL of "CREATE TABLE",
-- the ranges of "8.1 Numeric Types", texts in UTF-8 of "24.3. Character Set Support", and the longest text that is
-- accepted.
use Rattle.std.specs.Prelude.{◌≡◌, ℕ, ◌+◌, ◌≤◌, ℤ, ◌≤ℤ◌, int_le, false, ◌&&◌, List, [], ◌∷◌, length, Contains, if◌then◌else◌, ◌==◌, nat_le, Option, Some, None, Result, Ok, Err, IfSome, slice_get}
use Rattle.std.specs.List.{list_any}
use Rattle.std.specs.Str.{IsUtf8, is_utf8}
use Rattle.filter_tree.specs.Datum.{Constant, Number, Truth, Bytes, Datum, Missing, Known, value_at}
use Rattle.filter_tree.specs.Range.{least_of, greatest_of}
use Rattle.filter_tree.specs.declared.table.ColType.{ColType}
use Rattle.filter_tree.specs.declared.table.ColType.TheVariants.{SmallInt, Integer, BigInt, Boolean, Text}
use Rattle.filter_tree.specs.declared.table.Column.{Column}
use Rattle.filter_tree.specs.declared.validity.RowFault.{RowFault}
use Rattle.filter_tree.specs.declared.validity.RowFault.TheVariants.{Width, NullInNotNull, WrongType, OutOfRange, NulInText, TextTooLong}

-- the number is in the range of an integer type
pub record IsWithin (kind : ColType) (number : ℤ) : Type 0 where
  pub above_least : least_of kind ≤ℤ number
  pub below_greatest : number ≤ℤ greatest_of kind

-- the text has no zero byte, and is not too long
pub record IsText (bytes : List ℕ) : Type 0 where
  pub no_zero : ¬ Contains bytes 0
  pub short : length bytes ≤ 65535

-- the constant is a value of the type; bytes that are not UTF-8 are not a text
abbrev pub IsOf : ColType → Constant → Type 0
IsOf SmallInt (Number number) = IsWithin SmallInt number
IsOf Integer (Number number) = IsWithin Integer number
IsOf BigInt (Number number) = IsWithin BigInt number
IsOf Boolean (Truth truth) = Unit {0}
IsOf Text (Bytes bytes) = IsUtf8 bytes × IsText bytes
IsOf _ _ = ⊥

-- the column accepts the value: null unless the column is NOT NULL, or a value of its type
abbrev pub Fits : Column → Datum → Type 0
Fits column Missing = column.not_null ≡ false
Fits column (Known constant) = IsOf column.kind constant

-- the row is as wide as the table, and each column accepts its value
pub record IsValid (columns : List Column) (row : List Datum) : Type 0 where
  pub wide : length row ≡ length columns
  pub fits : (k : ℕ) → IfSome (slice_get columns k) (λ column. Fits column (value_at row k))

-- ---- the first fault

abbrev pub number_fault : ℕ → ColType → ℤ → Option RowFault
number_fault column kind number =
    if int_le (least_of kind) number && int_le number (greatest_of kind) then None else Some (OutOfRange column)

abbrev pub string_fault : ℕ → List ℕ → Option RowFault
string_fault column bytes =
    if list_any (λ byte. byte == 0) bytes then Some (NulInText column)
    else (if nat_le (length bytes) 65535 then None else Some (TextTooLong column))

-- bytes that are not UTF-8 have no column's type
abbrev pub bytes_fault : ℕ → List ℕ → Option RowFault
bytes_fault column bytes = if is_utf8 bytes then string_fault column bytes else Some (WrongType column)

abbrev pub constant_fault : ℕ → ColType → Constant → Option RowFault
constant_fault column SmallInt (Number number) = number_fault column SmallInt number
constant_fault column Integer (Number number) = number_fault column Integer number
constant_fault column BigInt (Number number) = number_fault column BigInt number
constant_fault column Boolean (Truth truth) = None
constant_fault column Text (Bytes bytes) = bytes_fault column bytes
constant_fault column _ _ = Some (WrongType column)

-- the fault of the value of the column with this number
abbrev pub value_fault : ℕ → Column → Datum → Option RowFault
value_fault number column Missing = if column.not_null then Some (NullInNotNull number) else None
value_fault number column (Known constant) = constant_fault number column.kind constant

-- the first of two faults
abbrev pub first_row_fault : Option RowFault → Option RowFault → Option RowFault
first_row_fault None later = later
first_row_fault (Some fault) later = Some fault

-- the first fault in these columns, the first of which has this number
abbrev pub columns_fault : ℕ → List Column → List Datum → Option RowFault
columns_fault number [] row = None
columns_fault number (column ∷ columns) row =
    first_row_fault (value_fault number column (value_at row number)) (columns_fault (number + 1) columns row)

-- the first fault of a row: its width, or else the first in the order of the columns
abbrev pub row_fault : List Column → List Datum → Option RowFault
row_fault columns row = if length row == length columns then columns_fault 0 columns row else Some Width

-- what `valid` returns
abbrev pub verdict_of : Option RowFault → Result (Unit {0}) RowFault
verdict_of None = Ok tt
verdict_of (Some fault) = Err fault
