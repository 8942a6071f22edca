-- The transactions of a book: a list of transactions, each of which is accepted on what the earlier ones leave,
-- beginning with tables without rows: PostgreSQL 15, 3.4. Transactions, and "Logical Replication", 31.1 Publication.
use Rattle.std.specs.Prelude.{◌≡◌, ℕ, ◌+◌, ◌++◌, List, [], ◌∷◌, fold, length, None}
use Rattle.filter_tree.specs.Datum.{Datum}
use Rattle.table_changes.specs.Commands.{Command, first_fault, all_applied}
use Rattle.table_changes.specs.Records.{record_of}
use Rattle.table_changes.specs.Setting.{Setting}
use Rattle.table_changes.specs.Standing.{Apart, AllFit, KeepsApart}
use Rattle.table_changes.specs.Tables.{Tables, SameTables, no_rows, Stands}
use Rattle.shard_checker.specs.CheckedView.{CheckedOf}
use Rattle.tables_log.specs.BookView.{book_setting, book_rows, book_listed, book_log}
use Rattle.tables_log.specs.Commits.{CommitOf, commit_of}
use Rattle.tables_log.specs.Committing.{IsNew, ChangesSlots, Commits, IsTransaction}
use Rattle.tables_log.specs.Listing.{ListsFound, AreRowsOf}
use Rattle.tables_log.specs.Places.{IsInOrder}
use Rattle.tables_log.specs.declared.book.Book.{Book}
use Rattle.tables_log.specs.declared.slots.Slot.{Slot}

-- commands that are handed over at once, and their time
pub record Transaction : Type 0 where
  pub commands : List Command
  pub time : ℕ

-- the tables after a transaction, and after several
abbrev pub left_by : Setting → Tables → Transaction → Tables
left_by setting tables transaction = all_applied setting tables transaction.commands

abbrev pub after : Setting → List Transaction → Tables
after setting transactions = fold (left_by setting) no_rows transactions

pub record IsAccepted (setting : Setting) (tables : Tables) (transaction : Transaction) : Type 0 where
  pub sized : IsTransaction transaction.commands
  pub no_fault : first_fault setting tables 1 transaction.commands ≡ None

-- each is accepted on what the earlier ones leave
abbrev pub AreAccepted : Setting → Tables → List Transaction → Type 0
AreAccepted setting tables [] = Unit {0}
AreAccepted setting tables (transaction ∷ transactions) = IsAccepted setting tables transaction
    × AreAccepted setting (left_by setting tables transaction) transactions

-- what is recorded of them, each on what the earlier ones leave, with their numbers from this one on
abbrev pub entries_from : Setting → Tables → ℕ → List Transaction → List CommitOf
entries_from setting tables number [] = []
entries_from setting tables number (transaction ∷ transactions) =
    commit_of number transaction.time (record_of setting tables transaction.commands)
    ∷ entries_from setting (left_by setting tables transaction) (number + 1) transactions

pub record StandsFor (book : Book) (transactions : List Transaction) : Type 0 where
  pub accepted : AreAccepted (book_setting book) no_rows transactions
  pub rows : SameTables (book_rows book) (after (book_setting book) transactions)
  pub log : book_log book ≡ entries_from (book_setting book) no_rows 1 transactions

-- ---- laws

-- A new book has no transaction.
abbrev pub NewStands : Type 0
NewStands = (book : Book) (checked : CheckedOf) (limit : ℕ) → IsNew book checked limit → StandsFor book []

-- A commit adds one.
abbrev pub CommitsAddOne : Type 0
CommitsAddOne = (old new : Book) (commands : List Command) (time number : ℕ) → Commits old new commands time number
    → (transactions : List Transaction) → StandsFor old transactions
    → StandsFor new (transactions ++ record { commands = commands; time = time } ∷ [])

-- A refusal, and whatever happens to its slots, leaves the list as it is.
abbrev pub SlotsKeepIt : Type 0
SlotsKeepIt = (old new : Book) (slots : List Slot) → ChangesSlots old new slots → (transactions : List Transaction)
    → StandsFor old transactions → StandsFor new transactions

-- The log has an entry for each transaction.
abbrev pub EachIsLogged : Type 0
EachIsLogged = (book : Book) (transactions : List Transaction) → StandsFor book transactions
    → length (book_log book) ≡ length transactions

-- Rows are found by each of their unique keys, and fit their tables.
pub record RowsAreRight (book : Book) : Type 0 where
  pub keyed : Stands (book_setting book).keys (book_rows book)
  pub fit : AllFit (book_setting book) (book_rows book)
  pub apart : KeepsApart (book_setting book) → Apart (book_setting book) (book_rows book)

abbrev pub BooksAreRight : Type 0
BooksAreRight = (book : Book) (transactions : List Transaction) → StandsFor book transactions → RowsAreRight book

-- What `Book::rows` returns are the rows of the table.
abbrev pub ListedAreRows : Type 0
ListedAreRows = (book : Book) (transactions : List Transaction) (table : ℕ) (rows : List (List Datum))
    → StandsFor book transactions
    → ListsFound (book_rows book table 0) (book_listed book table) → IsInOrder (book_listed book table) rows
    → AreRowsOf (book_rows book table 0) rows
