-- What a subscriber sees of commands: an UPDATE of which only the old row passes takes the row away, and one of which
-- only the new row passes brings it; row filters have no effect on TRUNCATE: PostgreSQL 15, "Logical Replication",
-- 31.3.1 Row Filter Rules and 31.3.3 UPDATE Transformations, and SQL Commands, TRUNCATE.
use Rattle.std.specs.Prelude.{ℕ, nat_eq, Bool, List, [], ◌∷◌, filter, filter_map, Option, Some, None, if◌then◌else◌}
use Rattle.filter_tree.specs.Datum.{Datum}
use Rattle.filter_tree.specs.Lists.{distinct}
use Rattle.table_changes.specs.Commands as c
use Rattle.table_changes.specs.Setting.{Setting}
use Rattle.table_changes.specs.Tables.{Tables}

-- Tables are named first; then come whole rows, the old one before the new one.
pub data Seen : Type 0 where
  Insert : ℕ → List Datum → Seen
  Update : ℕ → List Datum → List Datum → Seen
  Delete : ℕ → List Datum → Seen
  Truncate : List ℕ → Seen

-- the row, if there is one and it passes
abbrev pub passing : (List Datum → Bool) → Option (List Datum) → Option (List Datum)
passing passes None = None
passing passes (Some row) = if passes row then Some row else None

-- what is seen of the old row and the new row, if they pass
abbrev pub seen_rows : ℕ → Option (List Datum) → Option (List Datum) → Option Seen
seen_rows table None None = None
seen_rows table None (Some new) = Some (Insert table new)
seen_rows table (Some old) None = Some (Delete table old)
seen_rows table (Some old) (Some new) = Some (Update table old new)

-- what is seen of the tables that are emptied, if the subscriber gets anything from them
abbrev pub seen_tables : List ℕ → Option Seen
seen_tables [] = None
seen_tables (table ∷ numbers) = Some (Truncate (table ∷ numbers))

-- what the subscriber with this number sees of a command on tables, if anything
abbrev pub seen_of : Setting → ℕ → Tables → c.Command → Option Seen
seen_of setting subscriber tables (c.Insert table row) =
    seen_rows table None (passing (setting.passes subscriber table) (Some row))
seen_of setting subscriber tables (c.Update table key row) =
    seen_rows table (passing (setting.passes subscriber table) (c.named tables table key))
    (passing (setting.passes subscriber table) (Some row))
seen_of setting subscriber tables (c.Delete table key) =
    seen_rows table (passing (setting.passes subscriber table) (c.named tables table key)) None
seen_of setting subscriber tables (c.Truncate numbers) =
    seen_tables (filter (setting.carries subscriber) (distinct nat_eq numbers))

-- what is seen of each command, acting on what the earlier ones leave
abbrev pub seen_each : Setting → ℕ → Tables → List c.Command → List (Option Seen)
seen_each setting subscriber tables [] = []
seen_each setting subscriber tables (command ∷ commands) =
    seen_of setting subscriber tables command ∷ seen_each setting subscriber (c.applied setting tables command) commands

-- what is seen of commands in their order
abbrev pub seen : Setting → ℕ → Tables → List c.Command → List Seen
seen setting subscriber tables commands = filter_map (λ one. one) (seen_each setting subscriber tables commands)
