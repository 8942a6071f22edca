-- A row that fits a table may be in it.
use Rattle.std.specs.Prelude.{Option, Some, None, IfSome, List, slice_get}
use Rattle.filter_tree.specs.Datum.{Constant, Number, Truth, Bytes, Datum, Missing, Known, value_at}
use Rattle.filter_tree.specs.Valid.{IsOf, Fits, IsValid}
use Rattle.filter_tree.specs.declared.table.ColType.{ColType}
use Rattle.filter_tree.specs.declared.table.ColType.TheVariants.{SmallInt, Integer, BigInt, Boolean, Text}
use Rattle.filter_tree.specs.declared.table.Column.{Column}
use Rattle.shard_checker.specs.Rows.{IsOfType, MayHold, IsTyped}

of_type : (kind : ColType) (constant : Constant) → IsOf kind constant → IsOfType kind constant
of_type SmallInt (Number number) is = is
of_type Integer (Number number) is = is
of_type BigInt (Number number) is = is
of_type Boolean (Truth truth) is = tt
of_type Text (Bytes bytes) is = tt
of_type SmallInt (Truth truth) is = absurd is
of_type SmallInt (Bytes bytes) is = absurd is
of_type Integer (Truth truth) is = absurd is
of_type Integer (Bytes bytes) is = absurd is
of_type BigInt (Truth truth) is = absurd is
of_type BigInt (Bytes bytes) is = absurd is
of_type Boolean (Number number) is = absurd is
of_type Boolean (Bytes bytes) is = absurd is
of_type Text (Number number) is = absurd is
of_type Text (Truth truth) is = absurd is

may_hold : (column : Column) (value : Datum) → Fits column value → MayHold column value
may_hold column Missing fits = fits
may_hold column (Known constant) fits = of_type column.kind constant fits

in_place : (found : Option Column) (value : Datum) → IfSome found (λ column. Fits column value)
    → IfSome found (λ column. MayHold column value)
in_place None value fits = tt
in_place (Some column) value fits = may_hold column value fits

pub typed_of_valid : (columns : List Column) (row : List Datum) → IsValid columns row → IsTyped columns row
typed_of_valid columns row valid =
    record { wide = valid.wide; fits = λ k. in_place (slice_get columns k) (value_at row k) (valid.fits k) }
