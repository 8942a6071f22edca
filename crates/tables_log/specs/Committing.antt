-- What calls do to a book, and when a list of commands is refused: PostgreSQL 15, 3.4. Transactions, and Chapter 6
-- Data Manipulation.
use Rattle.std.specs.Prelude.{◌≡◌, ℕ, ◌+◌, ◌≤◌, ◌<◌, List, [], ◌∷◌, ◌++◌, length, replicate, Some, None, false}
use Rattle.shard_checker.specs.CheckedView.{CheckedOf}
use Rattle.table_changes.specs.Commands.{Command, CommandFault, first_fault, all_applied}
use Rattle.table_changes.specs.Records.{record_of}
use Rattle.table_changes.specs.Tables.{SameTables, no_rows}
use Rattle.tables_log.specs.BookView.{book_checked, book_setting, book_limit, book_rows, book_log, book_slots}
use Rattle.tables_log.specs.Commits.{commit_of}
use Rattle.tables_log.specs.Faults.{fault_view}
use Rattle.tables_log.specs.declared.book.Book.{Book}
use Rattle.tables_log.specs.declared.error.CommitError.{CommitError}
use Rattle.tables_log.specs.declared.error.CommitError.TheVariants as e
use Rattle.tables_log.specs.declared.slots.Slot.{Slot}

-- It has no rows, no entries, and a slot for each subscription, which is not in use and for which nothing is confirmed.
pub record IsNew (book : Book) (checked : CheckedOf) (limit : ℕ) : Type 0 where
  pub checked_is : book_checked book ≡ checked
  pub limit_is : book_limit book ≡ limit
  pub rows : SameTables (book_rows book) no_rows
  pub log : book_log book ≡ []
  pub slots : book_slots book
      ≡ replicate (length checked.catalog.subscriptions) (record { confirmed = 0; taken = false })

-- The slots are these, and all else stays.
pub record ChangesSlots (old new : Book) (slots : List Slot) : Type 0 where
  pub checked : book_checked new ≡ book_checked old
  pub limit : book_limit new ≡ book_limit old
  pub rows : SameTables (book_rows new) (book_rows old)
  pub log : book_log new ≡ book_log old
  pub slots_are : book_slots new ≡ slots

-- All stays.
abbrev pub IsKept : Book → Book → Type 0
IsKept old new = ChangesSlots old new (book_slots old)

-- ---- commits

-- a transaction has 1 to 1,000 commands
pub record IsTransaction (commands : List Command) : Type 0 where
  pub some : 1 ≤ length commands
  pub few : length commands ≤ 1000

-- The log has room for the commands, which are a transaction: whether they are accepted depends on the tables.
pub record HasRoomFor (book : Book) (commands : List Command) : Type 0 where
  pub transaction : IsTransaction commands
  pub room : length (book_log book) < book_limit book

-- The commands are accepted, each on what the earlier ones leave: the tables are what they leave, and the log has
-- what is recorded of them as its last entry.
pub record Commits (old new : Book) (commands : List Command) (time number : ℕ) : Type 0 where
  pub transaction : IsTransaction commands
  pub room : length (book_log old) < book_limit old
  pub no_fault : first_fault (book_setting old) (book_rows old) 1 commands ≡ None
  pub checked : book_checked new ≡ book_checked old
  pub limit : book_limit new ≡ book_limit old
  pub number_is : number ≡ length (book_log old) + 1
  pub rows : SameTables (book_rows new) (all_applied (book_setting old) (book_rows old) commands)
  pub log : book_log new ≡ book_log old
      ++ commit_of number time (record_of (book_setting old) (book_rows old) commands) ∷ []
  pub slots : book_slots new ≡ book_slots old

-- ---- refusals, each of which passes the tests before it

pub record IsFull (book : Book) (commands : List Command) : Type 0 where
  pub transaction : IsTransaction commands
  pub full : length (book_log book) ≡ book_limit book

-- the command of this number, from 1, is the first that is refused, for this fault
pub record IsFaulty (book : Book) (commands : List Command) (number : ℕ) (fault : CommandFault) : Type 0 where
  pub transaction : IsTransaction commands
  pub room : length (book_log book) < book_limit book
  pub first : first_fault (book_setting book) (book_rows book) 1 commands ≡ Some (number, fault)

abbrev pub RefusedBy : Book → List Command → CommitError → Type 0
RefusedBy book commands e.EmptyTransaction = commands ≡ []
RefusedBy book commands e.TooManyCommands = 1000 < length commands
RefusedBy book commands e.LogFull = IsFull book commands
RefusedBy book commands (e.At number fault) = IsFaulty book commands number (fault_view fault)
RefusedBy book commands e.OutOfMemory = Unit {0}
