-- What is recorded of an old row is read back.
use Rattle.std.proofs.Common.{◌≡◌, ℕ, ◌+◌, Bool, true, false, List, [], ◌∷◌, Option, Some, None, subst}
use Rattle.std.specs.Prelude.{◌==◌, if◌then◌else◌}
use Rattle.std.specs.List.{list_any}
use Rattle.filter_tree.specs.Datum.{Datum, Missing}
use Rattle.filter_tree.specs.declared.table.ColType.{ColType}
use Rattle.filter_tree.specs.declared.table.Table.{Table}
use Rattle.replica_identity.specs.Identities.{identity_columns}
use Rattle.replica_identity.specs.Setting.{recorded_as, identity_in, blanked_by}
use Rattle.table_changes.specs.Columns.{blanked_from}
use Rattle.table_changes.specs.Records as r
use Rattle.table_changes.specs.Records.{is_kept, part_by}
use Rattle.table_changes.specs.Setting.{Recorded, Columns, Whole, Nowhere}
use Rattle.pgoutput_msgs.specs.ReadBack.{IsNullOrOf, AreOf, kinds_of, old_cells, RecordedRowsReadBack}
use Rattle.pgoutput_msgs.specs.Telling.{old_of}
use Rattle.pgoutput_msgs.specs.ValueText.{row_in}
use Rattle.pgoutput_msgs.proofs.ReadBackLemmas.{rows_back, are_of}

cell_of_either : (kind : ColType) (covered : Bool) (cell : Datum) → IsNullOrOf kind cell
    → IsNullOrOf kind (if covered then cell else Missing)
cell_of_either kind true cell h = h
cell_of_either kind false cell h = tt

-- a row with nulls in some columns has values of the same types
blanked_of : (kinds : List ColType) (columns : List ℕ) (number : ℕ) (row : List Datum) → AreOf kinds row
    → AreOf kinds (blanked_from columns number row)
blanked_of [] columns number [] h = tt
blanked_of [] columns number (cell ∷ row) h = absurd h
blanked_of (kind ∷ kinds) columns number [] h = absurd h
blanked_of (kind ∷ kinds) columns number (cell ∷ row) h = (
  cell_of_either kind (list_any (λ column. column == number) columns) cell h.0,
  blanked_of kinds columns (number + 1) row h.1,
)

key_back : (kinds : List ColType) (blanked : List Datum) → AreOf kinds blanked → (kept : Bool) (part : r.PartOf)
    → (if kept then None else Some (r.Key blanked)) ≡ Some part
    → row_in kinds (old_cells (old_of part)) ≡ Some blanked
key_back kinds blanked h true part is = absurd cc
key_back kinds blanked h false part is =
    let same : r.Key blanked ≡ part = cc in
    subst (λ one. row_in kinds (old_cells (old_of one)) ≡ Some blanked) same (rows_back kinds blanked h)

full_back : (kinds : List ColType) (old : List Datum) → AreOf kinds old → (part : r.PartOf)
    → Some (r.Full old) ≡ Some part → row_in kinds (old_cells (old_of part)) ≡ Some old
full_back kinds old h part is =
    let same : r.Full old ≡ part = cc in
    subst (λ one. row_in kinds (old_cells (old_of one)) ≡ Some old) same (rows_back kinds old h)

by_recorded : (as_it : Recorded) (identity : List Datum → List Datum) (table : Table) (kinds : List ColType)
    (old : List Datum) → AreOf kinds old
    → (new : Option (List Datum)) (part : r.PartOf)
    → part_by as_it identity (blanked_by as_it table) old new ≡ Some part
    → row_in kinds (old_cells (old_of part)) ≡ Some (blanked_by as_it table old)
by_recorded Columns identity table kinds old h new part is =
    let columns = identity_columns table in
    key_back kinds (blanked_from columns 0 old) (blanked_of kinds columns 0 old h) (is_kept identity old new) part is
by_recorded Whole identity table kinds old h new part is = full_back kinds old h part is
by_recorded Nowhere identity table kinds old h new part is = absurd cc

pub recorded_back : RecordedRowsReadBack
recorded_back table old valid new part is =
    by_recorded (recorded_as table.identity) (identity_in (Some table)) table (kinds_of table.columns) old
    (are_of table.columns old valid.wide valid.fits) new part is
