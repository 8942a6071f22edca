-- What commands do to tables: which fault a command has, and what one without a fault leaves: PostgreSQL 15, Chapter
-- 6 Data Manipulation, 5.4.3 Unique Constraints, 5.4.4 Primary Keys, 11.6 Unique Indexes, and SQL Commands, TRUNCATE.
use Rattle.std.specs.Prelude.{ℕ, ◌+◌, Bool, true, false, List, [], ◌∷◌, fold, is_some, Option, Some, None}
use Rattle.std.specs.List.{list_all}
use Rattle.filter_tree.specs.Datum.{Datum}
use Rattle.filter_tree.specs.declared.validity.RowFault.{RowFault}
use Rattle.table_changes.specs.Setting.{Setting}
use Rattle.table_changes.specs.Tables.{Tables, put_in, without, emptied, is_free}
use Rattle.table_changes.specs.declared.command.Command as d
use Rattle.table_changes.specs.declared.command.Command.TheVariants as v

-- Tables and keys are named first; a key has its values in the order of the primary key's columns. TRUNCATE names the
-- tables that it empties.
pub data Command : Type 0 where
  Insert : ℕ → List Datum → Command
  Update : ℕ → List Datum → List Datum → Command
  Delete : ℕ → List Datum → Command
  Truncate : List ℕ → Command

-- a command of the program
abbrev pub command_view : d.Command → Command
command_view (v.Insert table row) = Insert table row
command_view (v.Update table key row) = Update table key row
command_view (v.Delete table key) = Delete table key
command_view (v.Truncate tables) = Truncate tables.items

-- ---- faults

pub data CommandFault : Type 0 where
  NoTable : CommandFault
  Unfit : RowFault → CommandFault
  NoSuchRow : CommandFault
  DuplicateKey : CommandFault

-- the fault unless the test holds, otherwise the next one
abbrev pub unless : Bool → CommandFault → Option CommandFault → Option CommandFault
unless true fault next = next
unless false fault next = Some fault

-- the row's own fault, otherwise the next one
abbrev pub unless_unfit : Option RowFault → Option CommandFault → Option CommandFault
unless_unfit None next = next
unless_unfit (Some fault) next = Some (Unfit fault)

-- the row that a key of this shape names: it is found by the primary key
abbrev pub named : Tables → ℕ → List Datum → Option (List Datum)
named tables table key = tables table 0 key

-- there is at least one table, and each is known
abbrev pub all_known : Setting → List ℕ → Bool
all_known setting [] = false
all_known setting (table ∷ numbers) = list_all setting.known (table ∷ numbers)

-- The first fault of a command: no such table, also for TRUNCATE without any table; a row that does not fit; no row
-- with the key, also for each key that does not have the primary key's shape; and a value in a unique key that another
-- row has, which for UPDATE is not the row that is replaced.
abbrev pub fault_of : Setting → Tables → Command → Option CommandFault
fault_of setting tables (Insert table row) =
    unless (setting.known table) NoTable (unless_unfit (setting.fault table row)
    (unless (is_free setting.keys tables table row) DuplicateKey None))
fault_of setting tables (Update table key row) =
    unless (setting.known table) NoTable (unless_unfit (setting.fault table row)
    (unless (is_some (named tables table key)) NoSuchRow
    (unless (is_free setting.keys (without setting.keys tables table (named tables table key)) table row) DuplicateKey
    None)))
fault_of setting tables (Delete table key) =
    unless (setting.known table) NoTable (unless (is_some (named tables table key)) NoSuchRow None)
fault_of setting tables (Truncate numbers) = unless (all_known setting numbers) NoTable None

-- ---- what is left

-- the tables after a command that has no fault on them
abbrev pub applied : Setting → Tables → Command → Tables
applied setting tables (Insert table row) = put_in setting.keys tables table row
applied setting tables (Update table key row) =
    put_in setting.keys (without setting.keys tables table (named tables table key)) table row
applied setting tables (Delete table key) = without setting.keys tables table (named tables table key)
applied setting tables (Truncate numbers) = emptied tables numbers

-- and after commands, each acting on what the earlier ones leave
abbrev pub all_applied : Setting → Tables → List Command → Tables
all_applied setting tables commands = fold (applied setting) tables commands

-- the fault, with the command's number
abbrev pub numbered : ℕ → Option CommandFault → Option (ℕ × CommandFault) → Option (ℕ × CommandFault)
numbered number None next = next
numbered number (Some fault) next = Some (number, fault)

-- the first fault of commands, each acting on what the earlier ones leave; the first command has this number
abbrev pub first_fault : Setting → Tables → ℕ → List Command → Option (ℕ × CommandFault)
first_fault setting tables number [] = None
first_fault setting tables number (command ∷ commands) =
    numbered number (fault_of setting tables command)
    (first_fault setting (applied setting tables command) (number + 1) commands)
