-- What refusals say of what was passed in, whatever rows there are: PostgreSQL 15, 3.4. Transactions, and Chapter 6
-- Data Manipulation.
use Rattle.std.specs.Prelude.{◌≡◌, ℕ, ◌<◌, ◌≤◌, List, [], length}
use Rattle.shard_checker.specs.CheckedView.{CheckedOf}
use Rattle.table_changes.specs.Always.{HasAlways}
use Rattle.table_changes.specs.Commands.{Command}
use Rattle.table_changes.specs.Commands as c
use Rattle.table_changes.specs.Setting.{Setting}
use Rattle.tables_log.specs.declared.error.CommandFault.TheVariants as f
use Rattle.tables_log.specs.declared.error.CommitError.{CommitError}
use Rattle.tables_log.specs.declared.error.CommitError.TheVariants as e
use Rattle.publisher_desk.specs.declared.read_fault.ReadFault.{ReadFault}
use Rattle.publisher_desk.specs.declared.read_fault.ReadFault.TheVariants as r

-- The list has the fault that the error tells. A full log, a row that is not there and a key that another row has are
-- not faults of the list alone, and memory may be refused for any.
abbrev pub HasFault : Setting → List Command → CommitError → Type 0
HasFault setting commands e.EmptyTransaction = commands ≡ []
HasFault setting commands e.TooManyCommands = 1000 < length commands
HasFault setting commands (e.At number f.NoTable) = HasAlways setting commands number c.NoTable
HasFault setting commands (e.At number (f.Row fault)) = HasAlways setting commands number (c.Unfit fault)
HasFault setting commands (e.At number f.NoSuchRow) = Unit {0}
HasFault setting commands (e.At number f.DuplicateKey) = Unit {0}
HasFault setting commands e.LogFull = Unit {0}
HasFault setting commands e.OutOfMemory = Unit {0}

-- why a row is not read: there is no such table
abbrev pub HasReadFault : CheckedOf → ℕ → ReadFault → Type 0
HasReadFault checked table r.NoTable = length checked.catalog.tables ≤ table
HasReadFault checked table r.OutOfMemory = table < length checked.catalog.tables
