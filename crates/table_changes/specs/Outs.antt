-- What a subscriber gets of a recorded change, when only the recorded part of the old row is known: PostgreSQL 15,
-- "Logical Replication", 31.3.1 Row Filter Rules and 31.3.3 UPDATE Transformations.
use Rattle.std.specs.Prelude.{ℕ, Bool, true, false, List, filter, Option, Some, None, option_map, if◌then◌else◌}
use Rattle.std.specs.List.{list_any}
use Rattle.filter_tree.specs.Datum.{Datum}
use Rattle.table_changes.specs.Records as r
use Rattle.table_changes.specs.Seen as s
use Rattle.table_changes.specs.Setting.{Setting}

-- The table is that of the change; TRUNCATE names all tables of the change.
pub data OutOf : Type 0 where
  Insert : List Datum → OutOf
  Update : Option r.PartOf → List Datum → OutOf
  Delete : Option r.PartOf → OutOf
  Truncate : List ℕ → OutOf

-- The old row counts as passing if this row passes: the recorded part, or the new row if nothing is recorded.
abbrev pub asked : Option r.PartOf → List Datum → List Datum
asked None new = new
asked (Some (r.Key part)) new = part
asked (Some (r.Full old)) new = old

-- depending on whether the old row and the new row pass
abbrev pub out_by : Bool → Bool → Option r.PartOf → List Datum → Option OutOf
out_by false false part new = None
out_by false true part new = Some (Insert new)
out_by true false part new = Some (Delete part)
out_by true true part new = Some (Update part new)

-- for an old row that goes; if nothing is recorded of it, nothing is sent
abbrev pub out_gone : (List Datum → Bool) → Option r.PartOf → Option OutOf
out_gone passes None = None
out_gone passes (Some (r.Key part)) = if passes part then Some (Delete (Some (r.Key part))) else None
out_gone passes (Some (r.Full old)) = if passes old then Some (Delete (Some (r.Full old))) else None

-- What a subscriber gets of a change, if anything. `passes` says which rows of a table pass to it, and `carries` from
-- which tables it gets anything.
abbrev pub transform_of : (ℕ → List Datum → Bool) → (ℕ → Bool) → r.ChangeOf → Option OutOf
transform_of passes carries (r.Insert table new) = if passes table new then Some (Insert new) else None
transform_of passes carries (r.Update table part new) =
    out_by (passes table (asked part new)) (passes table new) part new
transform_of passes carries (r.Delete table part) = out_gone (passes table) part
transform_of passes carries (r.Truncate numbers) = if list_any carries numbers then Some (Truncate numbers) else None

-- ---- it as a change, and as what is seen

-- the table of a change of rows
abbrev pub changed_table : r.ChangeOf → ℕ
changed_table (r.Insert table new) = table
changed_table (r.Update table part new) = table
changed_table (r.Delete table part) = table
changed_table (r.Truncate numbers) = 0

-- as a change of this table, or of those tables from which the subscriber gets anything
abbrev pub stands_for : ℕ → (ℕ → Bool) → OutOf → r.ChangeOf
stands_for table carries (Insert new) = r.Insert table new
stands_for table carries (Update part new) = r.Update table part new
stands_for table carries (Delete part) = r.Delete table part
stands_for table carries (Truncate numbers) = r.Truncate (filter carries numbers)

-- what the subscriber with this number gets of a change, as a change
abbrev pub got : Setting → ℕ → r.ChangeOf → Option r.ChangeOf
got setting subscriber change =
    option_map (stands_for (changed_table change) (setting.carries subscriber))
    (transform_of (setting.passes subscriber) (setting.carries subscriber) change)

-- what is seen, as it is recorded
abbrev pub as_recorded : Setting → s.Seen → r.ChangeOf
as_recorded setting (s.Insert table new) = r.Insert table new
as_recorded setting (s.Update table old new) = r.Update table (r.part_of setting table old (Some new)) new
as_recorded setting (s.Delete table old) = r.Delete table (r.part_of setting table old None)
as_recorded setting (s.Truncate numbers) = r.Truncate numbers
