-- What answers say of the transactions that were accepted before: PostgreSQL 15, 3.4. Transactions, and Chapter 6
-- Data Manipulation.
use Rattle.std.specs.Prelude.{◌≡◌, ℕ, ◌+◌, ◌<◌, ◌≤◌, List, [], ◌∷◌, ◌++◌, length, Some}
use Rattle.shard_checker.specs.CheckedView.{CheckedOf, setting_in}
use Rattle.table_changes.specs.Commands.{Command, CommandFault, first_fault}
use Rattle.table_changes.specs.Tables.{no_rows}
use Rattle.tables_log.specs.Committing.{IsTransaction}
use Rattle.tables_log.specs.Faults.{fault_view}
use Rattle.tables_log.specs.StandsFor.{Transaction, AreAccepted, after}
use Rattle.tables_log.specs.declared.error.CommitError.{CommitError}
use Rattle.tables_log.specs.declared.error.CommitError.TheVariants as e
use Rattle.publisher_desk.specs.Receipts.{ReceiptOf, receipt_of, transactions_of}
use Rattle.publisher_desk.specs.Sights.{StartsWith}
use Rattle.publisher_desk.specs.declared.note.Reading.{Reading}

-- What had been seen before is a beginning of the receipts before the last that is now seen, which is of these commands
-- and of this number. Each transaction was accepted after those before it.
pub record IsMade (checked : CheckedOf) (limit : ℕ) (before seen : List ReceiptOf) (commands : List Command)
    (time number : ℕ) : Type 0 where
  pub earlier : List ReceiptOf
  pub begins : StartsWith earlier before
  pub seen_is : seen ≡ earlier ++ receipt_of number commands time ∷ []
  pub number_is : number ≡ length earlier + 1
  pub within : number ≤ limit
  pub accepted : AreAccepted (setting_in checked) no_rows (transactions_of seen)

-- The answer is the row of the key after all transactions that were seen, and there are as many as the reading says.
-- Each was accepted after those before it.
pub record IsRead (checked : CheckedOf) (seen : List ReceiptOf) (reading : Reading) : Type 0 where
  pub number_is : reading.number ≡ length seen
  pub accepted : AreAccepted (setting_in checked) no_rows (transactions_of seen)
  pub answer_is : reading.answer ≡ after (setting_in checked) (transactions_of seen) reading.table 0 reading.key

-- ---- refusals

-- the log takes no more than these transactions
pub record IsFullAfter (limit : ℕ) (transactions : List Transaction) (commands : List Command) : Type 0 where
  pub sized : IsTransaction commands
  pub full : length transactions ≡ limit

-- after these transactions the command of this number, from 1, is the first that is refused, for this fault
pub record IsFaultyAfter (checked : CheckedOf) (limit : ℕ) (transactions : List Transaction) (commands : List Command)
    (number : ℕ) (fault : CommandFault) : Type 0 where
  pub sized : IsTransaction commands
  pub room : length transactions < limit
  pub first : first_fault (setting_in checked) (after (setting_in checked) transactions) 1 commands
      ≡ Some (number, fault)

abbrev pub IsRefusedAfter : CheckedOf → ℕ → List Transaction → List Command → CommitError → Type 0
IsRefusedAfter checked limit transactions commands e.EmptyTransaction = commands ≡ []
IsRefusedAfter checked limit transactions commands e.TooManyCommands = 1000 < length commands
IsRefusedAfter checked limit transactions commands e.LogFull = IsFullAfter limit transactions commands
IsRefusedAfter checked limit transactions commands (e.At number fault) =
    IsFaultyAfter checked limit transactions commands number (fault_view fault)
IsRefusedAfter checked limit transactions commands e.OutOfMemory = Unit {0}
