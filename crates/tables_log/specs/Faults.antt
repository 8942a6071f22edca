-- What the faults of commands are the view of, and what a call returns that may be refused for one: PostgreSQL 15,
-- 5.4.3 Unique Constraints, 5.4.4 Primary Keys and 11.6 Unique Indexes.
use Rattle.std.specs.Prelude.{◌≡◌, Option, Some, None, Result, Ok, Err}
use Rattle.table_changes.specs.Commands as c
use Rattle.tables_log.specs.declared.error.CommandFault.{CommandFault}
use Rattle.tables_log.specs.declared.error.CommandFault.TheVariants as f
use Rattle.tables_log.specs.declared.error.Refused.{Refused}
use Rattle.tables_log.specs.declared.error.Refused.TheVariants.{Fault, OutOfMemory}

abbrev pub fault_view : CommandFault → c.CommandFault
fault_view f.NoTable = c.NoTable
fault_view (f.Row fault) = c.Unfit fault
fault_view f.NoSuchRow = c.NoSuchRow
fault_view f.DuplicateKey = c.DuplicateKey

-- out of memory may come instead of any fault
abbrev pub Tells : Refused → Option c.CommandFault → Type 0
Tells (Fault found) fault = fault ≡ Some (fault_view found)
Tells OutOfMemory fault = Unit {0}

-- the result is the fault, if there is one, or out of memory
abbrev pub Finds : {V : Type 0} → Option c.CommandFault → Result V Refused → Type 0
Finds fault (Ok value) = fault ≡ None
Finds fault (Err refused) = Tells refused fault
