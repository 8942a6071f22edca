-- Which rows may be in a table: as wide as it, with a null only if the column accepts null and otherwise a value of the
-- column's type. A text may be of any length, even longer than texts that are read. "8.1 Numeric Types" and "5.4
-- Constraints".
use Rattle.std.specs.Prelude.{◌≡◌, ℕ, false, List, length, IfSome, slice_get}
use Rattle.filter_tree.specs.Datum.{Constant, Number, Truth, Bytes, Datum, Missing, Known, value_at}
use Rattle.filter_tree.specs.Valid.{IsWithin}
use Rattle.filter_tree.specs.declared.table.ColType.{ColType}
use Rattle.filter_tree.specs.declared.table.ColType.TheVariants.{SmallInt, Integer, BigInt, Boolean, Text}
use Rattle.filter_tree.specs.declared.table.Column.{Column}

-- the constant is a value of the type
abbrev pub IsOfType : ColType → Constant → Type 0
IsOfType SmallInt (Number number) = IsWithin SmallInt number
IsOfType Integer (Number number) = IsWithin Integer number
IsOfType BigInt (Number number) = IsWithin BigInt number
IsOfType Boolean (Truth truth) = Unit {0}
IsOfType Text (Bytes bytes) = Unit {0}
IsOfType _ _ = ⊥

-- the value may be in the column
abbrev pub MayHold : Column → Datum → Type 0
MayHold column Missing = column.not_null ≡ false
MayHold column (Known constant) = IsOfType column.kind constant

pub record IsTyped (columns : List Column) (row : List Datum) : Type 0 where
  pub wide : length row ≡ length columns
  pub fits : (k : ℕ) → IfSome (slice_get columns k) (λ column. MayHold column (value_at row k))
