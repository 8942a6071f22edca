-- That the tuple of a row is read back as that row, also where only a part of the row was recorded: PostgreSQL 15,
-- 55.9. Logical Replication Message Formats.
use Rattle.std.specs.Prelude.{◌≡◌, List, [], ◌∷◌, map, Option, Some}
use Rattle.filter_tree.specs.Datum.{Datum, Missing, Known}
use Rattle.filter_tree.specs.Valid.{IsOf, IsValid}
use Rattle.filter_tree.specs.declared.table.ColType.{ColType}
use Rattle.filter_tree.specs.declared.table.Column.{Column}
use Rattle.filter_tree.specs.declared.table.Table.{Table}
use Rattle.replica_identity.specs.Parts.{part_in}
use Rattle.replica_identity.specs.Setting.{blanked_in}
use Rattle.table_changes.specs.Records.{PartOf}
use Rattle.pgoutput_msgs.specs.Telling.{old_of}
use Rattle.pgoutput_msgs.specs.ValueText.{cells_of, row_in}
use Rattle.pgoutput_msgs.specs.declared.tuple.Cell.{Cell}
use Rattle.pgoutput_msgs.specs.declared.tuple.OldTuple.{OldTuple}
use Rattle.pgoutput_msgs.specs.declared.tuple.OldTuple.TheVariants as o

-- null, or a value of the type
abbrev pub IsNullOrOf : ColType → Datum → Type 0
IsNullOrOf kind Missing = Unit {0}
IsNullOrOf kind (Known constant) = IsOf kind constant

-- a row with a value or null for each of these types
abbrev pub AreOf : List ColType → List Datum → Type 0
AreOf [] [] = Unit {0}
AreOf (kind ∷ kinds) (datum ∷ row) = IsNullOrOf kind datum × AreOf kinds row
AreOf _ _ = ⊥

abbrev pub kinds_of : List Column → List ColType
kinds_of columns = map (λ column. column.kind) columns

-- such a row is read back from its tuple
abbrev pub RowsReadBack : Type 0
RowsReadBack = (kinds : List ColType) (row : List Datum) → AreOf kinds row → row_in kinds (cells_of row) ≡ Some row

-- and a row that fits its table is such a row, whichever of its values are null
abbrev pub ValidRowsReadBack : Type 0
ValidRowsReadBack = (columns : List Column) (row : List Datum) → IsValid columns row
    → row_in (kinds_of columns) (cells_of row) ≡ Some row

-- ---- what is recorded of old rows

-- the cells of what is sent of an old row
abbrev pub old_cells : OldTuple → List Cell
old_cells (o.Key tuple) = tuple
old_cells (o.Full tuple) = tuple

-- If anything is recorded of an old row that fits its table, its tuple is read back as the row with nulls outside the
-- columns of the replica identity; under FULL that is the row.
abbrev pub RecordedRowsReadBack : Type 0
RecordedRowsReadBack = (table : Table) (old : List Datum) → IsValid table.columns old
    → (new : Option (List Datum)) (part : PartOf) → part_in table old new ≡ Some part
    → row_in (kinds_of table.columns) (old_cells (old_of part)) ≡ Some (blanked_in (Some table) old)
