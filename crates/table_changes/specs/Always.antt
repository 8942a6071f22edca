-- Faults that a command has, whatever rows there are: no such table, and a row that does not fit its table: PostgreSQL
-- 15, Chapter 6 Data Manipulation, and SQL Commands, TRUNCATE.
use Rattle.std.specs.Prelude.{◌≡◌, ℕ, ◌+◌, Bool, true, false, List, Some, slice_get}
use Rattle.table_changes.specs.Commands.{Command, CommandFault, NoTable, Unfit, NoSuchRow, DuplicateKey, fault_of, first_fault}
use Rattle.table_changes.specs.Setting.{Setting}
use Rattle.table_changes.specs.Tables.{Tables}

-- the fault depends on the command alone, and not on the rows
abbrev pub is_of_command : CommandFault → Bool
is_of_command NoTable = true
is_of_command (Unfit fault) = true
is_of_command NoSuchRow = false
is_of_command DuplicateKey = false

-- The command with this number, from 1, has the fault, whatever rows there are.
pub record HasAlways (setting : Setting) (commands : List Command) (number : ℕ) (fault : CommandFault) : Type 0 where
  pub place : ℕ
  pub command : Command
  pub number_is : number ≡ place + 1
  pub at : slice_get commands place ≡ Some command
  pub always : (tables : Tables) → fault_of setting tables command ≡ Some fault

-- A list that is refused on any tables for such a fault has it always.
abbrev pub FaultsOfCommandsStay : Type 0
FaultsOfCommandsStay =
    (setting : Setting) (tables : Tables) (commands : List Command) (number : ℕ) (fault : CommandFault)
    → is_of_command fault ≡ true
    → first_fault setting tables 1 commands ≡ Some (number, fault) → HasAlways setting commands number fault
