-- The tuple of a row that fits a table has only short texts.
use Rattle.std.proofs.Common.{◌≡◌, ℕ, zero, suc, ◌<◌, ◌≤◌, ◌^◌, ◌+◌, ℤ, pos, negsuc, ◌≤ℤ◌, List, [], ◌∷◌, true, false, length, All, IfSome, slice_get, arith, lit≤, lit<}
use Rattle.std.proofs.lemmas.List.{length-map}
use Rattle.std.specs.Fmt.{signed_decimal}
use Rattle.std.proofs.lemmas.Fmt.{length_signed_le}
use Rattle.filter_tree.specs.Datum.{Constant, Number, Truth, Bytes, Datum, Missing, Known, value_at}
use Rattle.filter_tree.specs.Valid.{IsOf, Fits, IsValid}
use Rattle.filter_tree.specs.declared.table.Column.{Column}
use Rattle.filter_tree.specs.declared.table.ColType.{ColType}
use Rattle.filter_tree.specs.declared.table.ColType.TheVariants.{SmallInt, Integer, BigInt, Boolean, Text}
use Rattle.pgoutput_msgs.specs.Ranges.{IsCellWithinRange, IsTupleWithinRange}
use Rattle.pgoutput_msgs.specs.ValueText.{cell_of, cells_of}

pub few_digits : (number : ℤ) (least greatest : ℕ) → least < 2 ^ 63 → greatest < 2 ^ 63 → negsuc least ≤ℤ number
    → number ≤ℤ pos greatest → length (signed_decimal number) ≤ 21
few_digits (pos n) least greatest p q low high =
    let n_le : n ≤ greatest = lit≤ high.le in
    let wide : n + 1 < 10 ^ 20 = omega (arith, n_le, q) in
    let small : n < 2 ^ 63 = omega (arith, n_le, q) in
    length_signed_le 20 (pos n) wide small
few_digits (negsuc n) least greatest p q low high =
    let n_le : n ≤ least = lit≤ low.le in
    let wide : n + 1 < 10 ^ 20 = omega (arith, n_le, p) in
    let small : n < 2 ^ 63 = omega (arith, n_le, p) in
    length_signed_le 20 (negsuc n) wide small

pub short_number : (number : ℤ) (least greatest : ℕ) → least < 2 ^ 63 → greatest < 2 ^ 63 → negsuc least ≤ℤ number
    → number ≤ℤ pos greatest → length (signed_decimal number) < 2 ^ 31
short_number number least greatest p q low high = omega (arith, few_digits number least greatest p q low high)

short_constant : (kind : ColType) (constant : Constant) → IsOf kind constant
    → IsCellWithinRange (cell_of (Known constant))
short_constant SmallInt (Number z) h = short_number z 32767 32767 (lit< tt) (lit< tt) h.above_least h.below_greatest
short_constant Integer (Number z) h =
    short_number z 2147483647 2147483647 (lit< tt) (lit< tt) h.above_least h.below_greatest
short_constant BigInt (Number z) h =
    short_number z 9223372036854775807 9223372036854775807 (lit< tt) (lit< tt) h.above_least h.below_greatest
short_constant Boolean (Truth true) h = omega arith
short_constant Boolean (Truth false) h = omega arith
short_constant Text (Bytes bytes) h = omega (arith, h.1.short)
short_constant Text (Number _) h = absurd h
short_constant Text (Truth _) h = absurd h
short_constant Boolean (Number _) h = absurd h
short_constant Boolean (Bytes _) h = absurd h
short_constant SmallInt (Truth _) h = absurd h
short_constant SmallInt (Bytes _) h = absurd h
short_constant Integer (Truth _) h = absurd h
short_constant Integer (Bytes _) h = absurd h
short_constant BigInt (Truth _) h = absurd h
short_constant BigInt (Bytes _) h = absurd h

short_datum : (column : Column) (datum : Datum) → Fits column datum → IsCellWithinRange (cell_of datum)
short_datum column Missing h = tt
short_datum column (Known constant) h = short_constant column.kind constant h

short_row : (columns : List Column) (row : List Datum) → length row ≡ length columns
    → ((k : ℕ) → IfSome (slice_get columns k) (λ column. Fits column (value_at row k)))
    → All IsCellWithinRange (cells_of row)
short_row columns [] l fits k d h = absurd (omega (arith, h))
short_row [] (datum ∷ row) l fits k d h = absurd (omega (arith, l))
short_row (column ∷ columns) (datum ∷ row) l fits zero d h = short_datum column datum (fits 0)
short_row (column ∷ columns) (datum ∷ row) l fits (suc k) d h =
    short_row columns row (omega (arith, l)) (λ j. fits (suc j)) k d (omega (arith, h))

pub valid_row_fits : (columns : List Column) (row : List Datum) → IsValid columns row → length columns < 2 ^ 15
    → IsTupleWithinRange (cells_of row)
valid_row_fits columns row valid few = record {
  few = omega (arith, length-map row cell_of, valid.wide);
  short = short_row columns row valid.wide valid.fits;
}
