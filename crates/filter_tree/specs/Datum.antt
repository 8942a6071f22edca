-- The values of rows and the constants of filters as plain data: a number, a truth value or a text's bytes ("Chapter
-- 8. Data Types"), and in a row also null.
use Rattle.std.specs.Prelude.{ℕ, ℤ, Bool, List, slice_get, unwrap_or}

-- a value that is not null
pub data Constant : Type 0 where
  Number : ℤ → Constant
  Truth : Bool → Constant
  Bytes : List ℕ → Constant

-- a column's value in a row: null, or a constant
pub data Datum : Type 0 where
  Missing : Datum
  Known : Constant → Datum

-- the value of a column, which is null past the row's end
abbrev pub value_at : List Datum → ℕ → Datum
value_at row column = unwrap_or (slice_get row column) Missing
