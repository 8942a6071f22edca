-- Rows that fit are texts, and so are the messages that report them.
use Rattle.std.proofs.Common.{◌≡◌, ℕ, suc, ◌+◌, ◌<◌, ◌≤◌, ◌^◌, Bool, true, false, List, [], ◌∷◌, length, arith, rules, lit≤, lit<}
use Rattle.std.specs.Prelude.{ℤ, pos, negsuc, ◌≤ℤ◌, Option, Some, None, All, IfSome, ◌==◌, codes, slice_get, if◌then◌else◌}
use Rattle.std.specs.Int.Signed.{mag}
use Rattle.std.specs.List.{list_any}
use Rattle.std.specs.Str.{IsUtf8}
use Rattle.std.proofs.lemmas.Fmt.{IsAscii-signed}
use Rattle.std.proofs.lemmas.Str.{IsUtf8-from_ascii}
use Rattle.std.proofs.lemmas.List.Elements.{All-nil, All-cons, All-head, All-tail}
use Rattle.filter_tree.specs.Datum.{Datum, Missing, Known, Number, Truth, Bytes, value_at}
use Rattle.filter_tree.specs.Valid.{IsWithin, IsOf, Fits}
use Rattle.filter_tree.specs.declared.table.ColType.{ColType}
use Rattle.filter_tree.specs.declared.table.ColType.TheVariants.{SmallInt, Integer, BigInt, Boolean, Text}
use Rattle.filter_tree.specs.declared.table.Column.{Column}
use Rattle.filter_tree.specs.declared.table.Table.{Table}
use Rattle.table_changes.specs.Columns.{blanked_from}
use Rattle.table_changes.specs.Records.{PartOf, Key, Full, part_by, part_of}
use Rattle.table_changes.specs.Setting.{Recorded, Columns, Whole, Nowhere, fits}
use Rattle.replica_identity.specs.Setting.{blanked_by, blanked_in}
use Rattle.shard_checker.specs.CheckedView.{CheckedOf, setting_in}
use Rattle.tables_log.specs.Sendable.{IsSendableValue, IsSendableRow}
use Rattle.pgoutput_msgs.specs.Ranges.{IsCellText, AreTexts}
use Rattle.pgoutput_msgs.specs.ValueText.{cell_of, cells_of}
use Rattle.stream_laws.proofs.KeyLemmas.{row_of}

-- ---- rows that fit are texts

abbrev pub IsTextValue : Datum → Type 0
IsTextValue Missing = Unit {0}
IsTextValue (Known (Number number)) = Unit {0}
IsTextValue (Known (Truth truth)) = Unit {0}
IsTextValue (Known (Bytes bytes)) = IsUtf8 bytes

abbrev pub IsTextRow : List Datum → Type 0
IsTextRow row = All IsTextValue row

bytes_text : (kind : ColType) (bytes : List ℕ) → IsOf kind (Bytes bytes) → IsUtf8 bytes
bytes_text SmallInt bytes h = absurd h
bytes_text Integer bytes h = absurd h
bytes_text BigInt bytes h = absurd h
bytes_text Boolean bytes h = absurd h
bytes_text Text bytes h = h.0

value_text : (column : Column) (value : Datum) → Fits column value → IsTextValue value
value_text column Missing h = tt
value_text column (Known (Number number)) h = tt
value_text column (Known (Truth truth)) h = tt
value_text column (Known (Bytes bytes)) h = bytes_text column.kind bytes h

values_text : (columns : List Column) (row : List Datum) → length row ≡ length columns
    → ((k : ℕ) → IfSome (slice_get columns k) (λ column. Fits column (value_at row k))) → IsTextRow row
values_text columns [] wide fits = All-nil IsTextValue
values_text [] (value ∷ row) wide fits = absurd (omega (arith, wide))
values_text (column ∷ columns) (value ∷ row) wide fits =
    All-cons IsTextValue value row (value_text column value (fits 0))
    (values_text columns row (omega (arith, wide)) (λ k. fits (suc k)))

pub fits_text : (checked : CheckedOf) (number : ℕ) (row : List Datum) → fits (setting_in checked) number row ≡ true
    → IsTextRow row
fits_text checked number row fit =
    let its = row_of checked number row fit in
    values_text its.table.columns row its.valid.wide its.valid.fits

-- ---- parts of old rows

abbrev pub IsTextPart : Option PartOf → Type 0
IsTextPart None = Unit {0}
IsTextPart (Some (Key row)) = IsTextRow row
IsTextPart (Some (Full row)) = IsTextRow row

if_text : (b : Bool) (value : Datum) → IsTextValue value → IsTextValue (if b then value else Missing)
if_text true value h = h
if_text false value h = tt

blanked_text : (columns : List ℕ) (number : ℕ) (row : List Datum) → IsTextRow row
    → IsTextRow (blanked_from columns number row)
blanked_text columns number [] h = All-nil IsTextValue
blanked_text columns number (value ∷ row) h =
    All-cons IsTextValue (if list_any (λ column. column == number) columns then value else Missing)
    (blanked_from columns (number + 1) row)
    (if_text (list_any (λ column. column == number) columns) value (All-head IsTextValue value row h))
    (blanked_text columns (number + 1) row (All-tail IsTextValue value row h))

blanked_by_text : (as_it : Recorded) (table : Table) (row : List Datum) → IsTextRow row
    → IsTextRow (blanked_by as_it table row)
blanked_by_text Columns table row h = blanked_text _ 0 row h
blanked_by_text Whole table row h = h
blanked_by_text Nowhere table row h = blanked_text _ 0 row h

blanked_in_text : (found : Option Table) (row : List Datum) → IsTextRow row → IsTextRow (blanked_in found row)
blanked_in_text None row h = h
blanked_in_text (Some table) row h = blanked_by_text _ table row h

unless_kept : (kept : Bool) (row : List Datum) → IsTextRow row → IsTextPart (if kept then None else Some (Key row))
unless_kept true row h = tt
unless_kept false row h = h

part_by_text : (as_it : Recorded) (identity blanked : List Datum → List Datum) (old : List Datum)
    (new : Option (List Datum)) → IsTextRow old → IsTextRow (blanked old)
    → IsTextPart (part_by as_it identity blanked old new)
part_by_text Columns identity blanked old new h k = unless_kept _ (blanked old) k
part_by_text Whole identity blanked old new h k = h
part_by_text Nowhere identity blanked old new h k = tt

pub part_text : (checked : CheckedOf) (number : ℕ) (old : List Datum) (new : Option (List Datum)) → IsTextRow old
    → IsTextPart (part_of (setting_in checked) number old new)
part_text checked number old new h =
    part_by_text ((setting_in checked).recorded number) ((setting_in checked).identity number)
    ((setting_in checked).blanked number) old new h
    (blanked_in_text (slice_get checked.catalog.tables number) old h)

-- ---- cells

small_mag : (number : ℤ) (least greatest : ℕ) → least < 2 ^ 63 → greatest < 2 ^ 63 → negsuc least ≤ℤ number
    → number ≤ℤ pos greatest → mag number < 2 ^ 63
small_mag (pos n) least greatest p q low high = let most : n ≤ greatest = lit≤ high.le in omega (arith, most, q)
small_mag (negsuc n) least greatest p q low high = let most : n ≤ least = lit≤ low.le in omega (arith, most, p)

within_small : (number : ℤ) → IsWithin BigInt number → mag number < 2 ^ 63
within_small number h =
    small_mag number 9223372036854775807 9223372036854775807 (lit< tt) (lit< tt) h.above_least h.below_greatest

ascii_t : IsUtf8 (codes "t")
ascii_t = IsUtf8-from_ascii (codes "t") (search rules)

ascii_f : IsUtf8 (codes "f")
ascii_f = IsUtf8-from_ascii (codes "f") (search rules)

cell_text : (value : Datum) → IsSendableValue value → IsTextValue value → IsCellText (cell_of value)
cell_text Missing h text = tt
cell_text (Known (Number number)) h text = IsUtf8-from_ascii _ (IsAscii-signed number (within_small number h))
cell_text (Known (Truth true)) h text = ascii_t
cell_text (Known (Truth false)) h text = ascii_f
cell_text (Known (Bytes bytes)) h text = text

cells_text : (row : List Datum) → All IsSendableValue row → IsTextRow row → AreTexts (cells_of row)
cells_text [] h text = All-nil IsCellText
cells_text (value ∷ row) h text =
    All-cons IsCellText (cell_of value) (cells_of row)
    (cell_text value (All-head IsSendableValue value row h) (All-head IsTextValue value row text))
    (cells_text row (All-tail IsSendableValue value row h) (All-tail IsTextValue value row text))

pub row_text : (row : List Datum) → IsSendableRow row → IsTextRow row → AreTexts (cells_of row)
row_text row h text = cells_text row h.values text
