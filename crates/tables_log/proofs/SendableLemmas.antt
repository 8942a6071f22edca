-- Rows that fit their tables can be sent, and what is recorded of them too.
use Rattle.std.proofs.Common.{◌≡◌, ℕ, suc, ◌+◌, ◌≤◌, ℤ, Bool, true, false, List, [], ◌∷◌, length, refl, ap, arith}
use Rattle.std.proofs.lemmas.Int.{ints}
use Rattle.std.specs.Prelude.{Option, Some, None, Ok, All, IfSome, ◌==◌, slice_get, if◌then◌else◌}
use Rattle.std.specs.List.{list_any}
use Rattle.std.proofs.lemmas.List.Elements.{All-nil, All-cons, All-head, All-tail}
use Rattle.filter_tree.specs.Datum.{Number, Truth, Bytes, Datum, Missing, Known, value_at}
use Rattle.filter_tree.specs.Valid.{IsWithin, IsOf, Fits, IsValid, row_fault, verdict_of}
use Rattle.filter_tree.specs.declared.table.ColType.{ColType}
use Rattle.filter_tree.specs.declared.table.ColType.TheVariants.{SmallInt, Integer, BigInt, Boolean, Text}
use Rattle.filter_tree.specs.declared.table.Column.{Column}
use Rattle.filter_tree.specs.declared.table.Table.{Table}
use Rattle.filter_tree.specs.declared.validity.RowFault.{RowFault}
use Rattle.filter_tree.proofs.ValidLemmas.{valid_from_no_fault}
use Rattle.replica_identity.specs.Identities.{identity_columns}
use Rattle.replica_identity.specs.Parts.{part_in}
use Rattle.replica_identity.specs.Setting.{recorded_as, identity_in, blanked_by, blanked_in}
use Rattle.table_changes.specs.Columns.{blanked_from}
use Rattle.table_changes.specs.Records.{Key, is_kept, part_by}
use Rattle.table_changes.specs.Setting.{Recorded, Columns, Whole, Nowhere}
use Rattle.tables_log.specs.Sendable.{IsSendableValue, IsSendableRow, IsSendablePart}

-- ---- values

wide_integer : (kind : ColType) (number : ℤ) → IsWithin kind number → IsWithin BigInt number
wide_integer SmallInt number h =
    record {
      above_least = omega (arith, ints, h.above_least);
      below_greatest =
          omega (arith, ints, h.below_greatest);
    }
wide_integer Integer number h =
    record {
      above_least = omega (arith, ints, h.above_least);
      below_greatest =
          omega (arith, ints, h.below_greatest);
    }
wide_integer BigInt number h = h
wide_integer Boolean number h = record { above_least = h.above_least; below_greatest = h.below_greatest }
wide_integer Text number h = record { above_least = h.above_least; below_greatest = h.below_greatest }

number_sendable : (kind : ColType) (number : ℤ) → IsOf kind (Number number) → IsSendableValue (Known (Number number))
number_sendable SmallInt number h = wide_integer SmallInt number h
number_sendable Integer number h = wide_integer Integer number h
number_sendable BigInt number h = h
number_sendable Boolean number h = absurd h
number_sendable Text number h = absurd h

text_sendable : (kind : ColType) (bytes : List ℕ) → IsOf kind (Bytes bytes) → IsSendableValue (Known (Bytes bytes))
text_sendable SmallInt bytes h = absurd h
text_sendable Integer bytes h = absurd h
text_sendable BigInt bytes h = absurd h
text_sendable Boolean bytes h = absurd h
text_sendable Text bytes h = h.1.short

value_sendable : (column : Column) (value : Datum) → Fits column value → IsSendableValue value
value_sendable column Missing h = tt
value_sendable column (Known (Number number)) h = number_sendable column.kind number h
value_sendable column (Known (Truth truth)) h = tt
value_sendable column (Known (Bytes bytes)) h = text_sendable column.kind bytes h

-- ---- rows

-- the first columns fit, so all values can be sent
values_sendable : (columns : List Column) (cells : List Datum) → length cells ≡ length columns
    → ((k : ℕ) → IfSome (slice_get columns k) (λ column. Fits column (value_at cells k))) → All IsSendableValue cells
values_sendable columns [] wide fits = All-nil IsSendableValue
values_sendable [] (cell ∷ cells) wide fits = absurd (omega (arith, wide))
values_sendable (column ∷ columns) (cell ∷ cells) wide fits =
    All-cons IsSendableValue cell cells (value_sendable column cell (fits 0))
    (values_sendable columns cells (omega (arith, wide)) (λ k. fits (suc k)))

pub valid_sendable : (columns : List Column) (cells : List Datum) → row_fault columns cells ≡ None
    → length columns ≤ 100 → IsSendableRow cells
valid_sendable columns cells h narrow =
    let valid : IsValid columns cells = valid_from_no_fault columns cells h in
    let wide : length cells ≡ length columns = valid.wide in
    record { few = omega (arith, wide); values = values_sendable columns cells wide valid.fits }

pub no_fault_of_ok : (fault : Option RowFault) (done : Unit {0}) → Ok done ≡ verdict_of fault → fault ≡ None
no_fault_of_ok None done h = refl
no_fault_of_ok (Some fault) done h = absurd cc

-- ---- parts of old rows

cell_sendable : (b : Bool) (cell : Datum) → IsSendableValue cell → IsSendableValue (if b then cell else Missing)
cell_sendable true cell h = h
cell_sendable false cell h = tt

blanked_values : (columns : List ℕ) (number : ℕ) (cells : List Datum) → All IsSendableValue cells
    → All IsSendableValue (blanked_from columns number cells)
blanked_values columns number [] h = All-nil IsSendableValue
blanked_values columns number (cell ∷ cells) h =
    All-cons IsSendableValue (if list_any (λ column. column == number) columns then cell else Missing)
    (blanked_from columns (number + 1) cells)
    (cell_sendable (list_any (λ column. column == number) columns) cell (All-head IsSendableValue cell cells h))
    (blanked_values columns (number + 1) cells (All-tail IsSendableValue cell cells h))

blanked_length : (columns : List ℕ) (number : ℕ) (cells : List Datum)
    → length (blanked_from columns number cells) ≡ length cells
blanked_length columns number [] = refl
blanked_length columns number (cell ∷ cells) = ap suc (blanked_length columns (number + 1) cells)

blanked_sendable : (recorded : Recorded) (table : Table) (row : List Datum) → IsSendableRow row
    → IsSendableRow (blanked_by recorded table row)
blanked_sendable Columns table row h = record {
  few = let same = blanked_length (identity_columns table) 0 row in omega (arith, same, h.few);
  values = blanked_values (identity_columns table) 0 row h.values;
}
blanked_sendable Whole table row h = h
blanked_sendable Nowhere table row h = record {
  few = let same = blanked_length (identity_columns table) 0 row in omega (arith, same, h.few);
  values = blanked_values (identity_columns table) 0 row h.values;
}

key_sendable : (b : Bool) (part : List Datum) → IsSendableRow part
    → IsSendablePart (if b then None else Some (Key part))
key_sendable true part h = tt
key_sendable false part h = h

by_sendable : (recorded : Recorded) (identity blanked : List Datum → List Datum) (old : List Datum)
    (new : Option (List Datum)) → IsSendableRow old → IsSendableRow (blanked old)
    → IsSendablePart (part_by recorded identity blanked old new)
by_sendable Columns identity blanked old new whole part = key_sendable (is_kept identity old new) (blanked old) part
by_sendable Whole identity blanked old new whole part = whole
by_sendable Nowhere identity blanked old new whole part = tt

pub part_sendable : (table : Table) (old : List Datum) (new : Option (List Datum)) → IsSendableRow old
    → IsSendablePart (part_in table old new)
part_sendable table old new h =
    by_sendable (recorded_as table.identity) (identity_in (Some table)) (blanked_in (Some table)) old new h
    (blanked_sendable (recorded_as table.identity) table old h)
