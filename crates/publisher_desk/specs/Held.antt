-- What holds of a publisher's book each time that its lock is acquired: PostgreSQL 15, 3.4. Transactions, and "Logical
-- Replication", 31.1 Publication.
use Rattle.std.specs.Prelude.{◌≡◌, ℕ, ◌+◌, List, [], ◌∷◌, ◌++◌, length, true}
use Rattle.shard_checker.specs.CheckedView.{CheckedOf, setting_in}
use Rattle.table_changes.specs.Commands.{Command}
use Rattle.table_changes.specs.Tables.{no_rows}
use Rattle.tables_log.specs.BookView.{book_checked, book_limit, book_log, book_slots}
use Rattle.tables_log.specs.Commits.{CommitOf}
use Rattle.tables_log.specs.Slots.{AreInUse}
use Rattle.tables_log.specs.StandsFor.{Transaction, AreAccepted, StandsFor, entries_from}
use Rattle.tables_log.specs.declared.book.Book.{Book}
use Rattle.publisher_desk.specs.Logged.{IsHistoryOf}
use Rattle.publisher_desk.specs.SlotEvents.{AreConfirmed, AreDated, AreInTurn, AreSent, AreWithinReach, HaveEnded, advanced_after, confirmed_after, no_position, no_use, over_after, use_after}
use Rattle.publisher_desk.specs.SlotSights.{slot_view}
use Rattle.publisher_desk.specs.declared.sight.HistoryView.{HistoryView}
use Rattle.publisher_desk.specs.declared.slot_sight.SlotView.{SlotView}
use Rattle.publisher_desk.specs.declared.connection_state.ConnectionState.{ConnectionState}

-- The log is that of these transactions, each of which was accepted after those before it.
pub record IsLogOf (checked : CheckedOf) (transactions : List Transaction) (log : List CommitOf) : Type 0 where
  pub accepted : AreAccepted (setting_in checked) no_rows transactions
  pub entries : log ≡ entries_from (setting_in checked) no_rows 1 transactions

-- The log was that of some transactions, and is that of these and of the one that was passed in, whose number is that
-- of all.
pub record AddsEntry (checked : CheckedOf) (old new : List CommitOf) (commands : List Command) (time number : ℕ) :
    Type 0 where
  pub number_is : number ≡ length old + 1
  pub transactions : List Transaction
  pub before : IsLogOf checked transactions old
  pub now : IsLogOf checked (transactions ++ record { commands = commands; time = time } ∷ []) new

-- The book is of the checked catalog, takes so many commits, and is of some list of transactions.
pub record IsBookOf (checked : CheckedOf) (limit : ℕ) (book : Book) : Type 0 where
  pub named : book_checked book ≡ checked
  pub limited : book_limit book ≡ limit
  pub transactions : List Transaction
  pub stands : StandsFor book transactions

-- The slots in use are those that streams have acquired and not released, and each is confirmed up to the position of its
-- last confirmation. Each event came in turn, no release is dated after the log's end, and no client was sent the log
-- past it. No client confirmed more than it may.
pub record AreEventsOf (book : Book) (events : SlotView) : Type 0 where
  pub used : AreInUse (use_after events.all) (book_slots book)
  pub confirmed : AreConfirmed (confirmed_after events.all) (book_slots book)
  pub turns : AreInTurn no_use no_position events.all
  pub within : AreWithinReach [] events.all
  pub dated : AreDated (length (book_log book)) events.all
  pub idle : events ≡ slot_view true events.all []

-- So is the book; the total is the number of its commits, each slot's client was sent the log as the events say, the
-- connection of each slot whose stream is over has ended, the history has the book's transactions, and the events are
-- those of its slots.
pub record IsHeldFor (checked : CheckedOf) (limit : ℕ) (book : Book) (total : ℕ) (connections : List ConnectionState)
    (history : HistoryView) (events : SlotView) : Type 0 where
  pub is : IsBookOf checked limit book
  pub counted : length (book_log book) ≡ total
  pub slots : length connections ≡ length checked.catalog.subscriptions
  pub sent : AreSent (advanced_after events.all) connections
  pub ended : HaveEnded (over_after events.all) connections
  pub history_is : IsHistoryOf book history
  pub events_are : AreEventsOf book events

-- And so it is when it is being closed.
pub record IsClosingFor (checked : CheckedOf) (limit : ℕ) (book : Book) (total : ℕ) (history : HistoryView)
    (events : SlotView) : Type 0 where
  pub is : IsBookOf checked limit book
  pub counted : length (book_log book) ≡ total
  pub history_is : IsHistoryOf book history
  pub events_are : AreEventsOf book events
