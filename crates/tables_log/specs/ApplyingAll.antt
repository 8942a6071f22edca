-- What lists of commands do to the rows of tables, and how they are refused: PostgreSQL 15, Chapter 6 Data
-- Manipulation, and 3.4. Transactions.
use Rattle.std.specs.Prelude.{◌≡◌, ℕ, ◌<◌, List, All, Some, None, Result, IfOk, IfErr}
use Rattle.table_changes.specs.Commands.{Command, first_fault, all_applied}
use Rattle.table_changes.specs.Records.{ChangeOf, record_of}
use Rattle.table_changes.specs.Setting.{Setting}
use Rattle.table_changes.specs.Tables.{Tables, SameTables}
use Rattle.tables_log.specs.Commits.{CommitOf, commit_of}
use Rattle.tables_log.specs.Faults.{fault_view}
use Rattle.tables_log.specs.Places.{kept_in, seen_in, widths, KeepsTables}
use Rattle.tables_log.specs.Sendable.{IsSendableChange}
use Rattle.tables_log.specs.declared.error.CommitError.{CommitError}
use Rattle.tables_log.specs.declared.error.CommitError.TheVariants as e
use Rattle.tables_log.specs.declared.error.Refused.{Refused}
use Rattle.tables_log.specs.declared.error.Refused.TheVariants as r
use Rattle.tables_log.specs.declared.table_rows.TableRows.{TableRows}

-- The commands have no fault, and leave these rows and these changes, which can be sent.
pub record AppliesAll (setting : Setting) (old new : List TableRows) (commands : List Command)
    (changes : List ChangeOf) : Type 0 where
  pub no_fault : first_fault setting (seen_in old) 1 commands ≡ None
  pub leaves : SameTables (seen_in new) (all_applied setting (seen_in old) commands)
  pub records : changes ≡ record_of setting (seen_in old) commands
  pub sendable : All IsSendableChange changes

-- The commands have no fault, and leave these rows and this entry.
pub record StagesCommit (setting : Setting) (old new : List TableRows) (commands : List Command) (time number : ℕ)
    (entry : CommitOf) : Type 0 where
  pub no_fault : first_fault setting (seen_in old) 1 commands ≡ None
  pub leaves : SameTables (seen_in new) (all_applied setting (seen_in old) commands)
  pub records : entry ≡ commit_of number time (record_of setting (seen_in old) commands)

-- The commands have no fault on what was kept, and these rows and this entry are kept of them.
pub record CommitsTables (setting : Setting) (old new : List TableRows) (commands : List Command) (time number : ℕ)
    (entry : CommitOf) : Type 0 where
  pub no_fault : first_fault setting (kept_in old) 1 commands ≡ None
  pub leaves : SameTables (kept_in new) (all_applied setting (kept_in old) commands)
  pub records : entry ≡ commit_of number time (record_of setting (kept_in old) commands)
  pub width : widths new ≡ widths old

-- why a list is refused for its command of this number
abbrev pub error_at : ℕ → Refused → CommitError
error_at number (r.Fault fault) = e.At number fault
error_at number r.OutOfMemory = e.OutOfMemory

-- a list of this number of commands is refused
abbrev pub RefusesCount : ℕ → CommitError → Type 0
RefusesCount commands e.EmptyTransaction = commands ≡ 0
RefusesCount commands e.TooManyCommands = 1000 < commands
RefusesCount commands _ = ⊥

-- the error is the first fault of the commands, or out of memory
abbrev pub StopsAt : Setting → Tables → List Command → CommitError → Type 0
StopsAt setting tables commands (e.At number fault) =
    first_fault setting tables 1 commands ≡ Some (number, fault_view fault)
StopsAt setting tables commands e.OutOfMemory = Unit {0}
StopsAt setting tables commands _ = ⊥

-- A value is returned only if it is such a one, and an error is the first fault of the commands or out of memory. What
-- was kept stays.
pub record TriesAll {V : Type 0} (setting : Setting) (commands : List Command) (IsGood : V → Type 0)
    (old : List TableRows) (result : Result V CommitError) (new : List TableRows) : Type 0 where
  pub keeps : KeepsTables old new
  pub ok : IfOk result IsGood
  pub err : IfErr result (StopsAt setting (seen_in old) commands)
