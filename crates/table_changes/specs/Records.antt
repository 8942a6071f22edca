-- What is recorded of commands for those who follow the tables: the parts of old rows that the replica identity
-- gives, the new rows, and the tables that are emptied: PostgreSQL 15, "Logical Replication", 31.1 Publication, and
-- SQL Commands, ALTER TABLE (REPLICA IDENTITY) and TRUNCATE.
use Rattle.std.specs.Prelude.{ℕ, nat_eq, Bool, false, List, [], ◌∷◌, Option, Some, None, if◌then◌else◌}
use Rattle.filter_tree.specs.Datum.{Datum}
use Rattle.filter_tree.specs.Lists.{distinct}
use Rattle.filter_tree.specs.Same.{same_row}
use Rattle.table_changes.specs.Commands as c
use Rattle.table_changes.specs.Setting.{Setting, Recorded, Columns, Whole, Nowhere}
use Rattle.table_changes.specs.Tables.{Tables}

-- ---- parts of old rows

-- what is recorded of an old row, if anything is: the row with nulls outside the columns of the identity, or the whole
-- row
pub data PartOf : Type 0 where
  Key : List Datum → PartOf
  Full : List Datum → PartOf

-- there is a new row, and it has the old one's identity
abbrev pub is_kept : (List Datum → List Datum) → List Datum → Option (List Datum) → Bool
is_kept identity old None = false
is_kept identity old (Some new) = same_row (identity old) (identity new)

-- What is recorded of an old row that goes, or that a new one replaces. If columns identify rows it is recorded only if
-- one of them changes; a whole row is always recorded. `identity` gives the values that identify a row, and `blanked`
-- the row with nulls outside them.
abbrev pub part_by : Recorded → (List Datum → List Datum) → (List Datum → List Datum) → List Datum
    → Option (List Datum) → Option PartOf
part_by Columns identity blanked old new = if is_kept identity old new then None else Some (Key (blanked old))
part_by Whole identity blanked old new = Some (Full old)
part_by Nowhere identity blanked old new = None

-- the part of an old row of the table
abbrev pub part_of : Setting → ℕ → List Datum → Option (List Datum) → Option PartOf
part_of setting table old new =
    part_by (setting.recorded table) (setting.identity table) (setting.blanked table) old new

-- and of an old row that was found
abbrev pub part_found : Setting → ℕ → Option (List Datum) → Option (List Datum) → Option PartOf
part_found setting table None new = None
part_found setting table (Some old) new = part_of setting table old new

-- ---- changes

-- Tables are named first, then what is recorded of the old row, then the new row.
pub data ChangeOf : Type 0 where
  Insert : ℕ → List Datum → ChangeOf
  Update : ℕ → Option PartOf → List Datum → ChangeOf
  Delete : ℕ → Option PartOf → ChangeOf
  Truncate : List ℕ → ChangeOf

-- the change that a command makes on tables; TRUNCATE empties each table that it names, and only once
abbrev pub change_of : Setting → Tables → c.Command → ChangeOf
change_of setting tables (c.Insert table row) = Insert table row
change_of setting tables (c.Update table key row) =
    Update table (part_found setting table (c.named tables table key) (Some row)) row
change_of setting tables (c.Delete table key) = Delete table (part_found setting table (c.named tables table key) None)
change_of setting tables (c.Truncate numbers) = Truncate (distinct nat_eq numbers)

-- the changes that commands make, each acting on what the earlier ones leave
abbrev pub record_of : Setting → Tables → List c.Command → List ChangeOf
record_of setting tables [] = []
record_of setting tables (command ∷ commands) =
    change_of setting tables command ∷ record_of setting (c.applied setting tables command) commands
