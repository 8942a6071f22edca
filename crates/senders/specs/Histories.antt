-- The one list of transactions that the receipts of all seats report, what was read of it, and what connections have
-- seen of it: PostgreSQL 15, 3.4. Transactions, and Chapter 7 Queries.
use Rattle.std.specs.Prelude.{◌≡◌, ◌≤◌, ℕ, List, All, length, take}
use Rattle.std.specs.List.{range_with_len}
use Rattle.std.specs.List.Sorted.{IsPermutation}
use Rattle.shard_checker.specs.CheckedView.{CheckedOf, setting_in}
use Rattle.table_changes.specs.Setting.{Setting}
use Rattle.tables_log.specs.StandsFor.{StandsFor, Transaction, after}
use Rattle.tables_log.specs.declared.book.Book.{Book}
use Rattle.publisher_desk.specs.Logged.{IsSeatIn, drawn_by}
use Rattle.publisher_desk.specs.Receipts.{ReceiptOf, transactions_of}
use Rattle.publisher_desk.specs.Seats.{SeatOf}
use Rattle.publisher_desk.specs.SlotEvents.{AreConfirmed, AreInTurn, acquisitions, confirmed_after, no_position, no_use}
use Rattle.publisher_desk.specs.SlotSights.{BeginsWith}
use Rattle.publisher_desk.specs.Viewers.{ClosingOf, IsSeenIn}
use Rattle.publisher_desk.specs.declared.note.Reading.{Reading}
use Rattle.senders.specs.Gathering.{all_receipts, numbers_of, IsRisingSeat}
use Rattle.senders.specs.Results.{IsWitnessed, ServedOf}

-- These are the receipts of all seats in the order of their numbers, which are 1 to the number of receipts, each
-- once. In each seat's order they increase.
pub record AreInOrder (seats : List SeatOf) (order : List ReceiptOf) : Type 0 where
  pub all : IsPermutation (all_receipts seats) order
  pub numbered : numbers_of order ≡ range_with_len 1 (length order)
  pub rising : All (IsRisingSeat (length order)) seats

-- The answer is the row of the key after this number of the transactions, of which there are at least as many.
pub record IsRight (setting : Setting) (transactions : List Transaction) (reading : Reading) : Type 0 where
  pub within : reading.number ≤ length transactions
  pub answer_is : reading.answer ≡ after setting (take reading.number transactions) reading.table 0 reading.key

-- The book is of the transactions of this log, of which each of these seats has seen a beginning, and in which all of
-- their receipts are at their numbers, which rise in each seat and of which no two are equal. Each reading is right by
-- the log's beginning.
pub record IsLogOfSeats (checked : CheckedOf) (log : List ReceiptOf) (seats : List SeatOf) (book : Book) : Type 0 where
  pub stands : StandsFor book (transactions_of log)
  pub each : All (IsSeatIn (setting_in checked) log) seats
  pub once : (n : ℕ) → drawn_by n seats ≤ 1

-- The book is of the log of a publisher that is being closed, in which the receipts of the seats are, and of which each
-- connection has seen a beginning. So many streams acquired slots in its events, of which each seat and each connection
-- has seen the first. These came in turn, and each slot is confirmed up to the position of its last confirmation.
pub record AreWitnessed (checked : CheckedOf) (closing : ClosingOf) (acquired : ℕ) (seats : List SeatOf)
    (served : List ServedOf) (book : Book) : Type 0 where
  pub logged : IsLogOfSeats checked closing.log seats book
  pub shown : All (λ (seat : SeatOf). BeginsWith closing.events seat.events) seats
  pub witnessed : All (IsWitnessed checked) served
  pub seen : All (λ (one : ServedOf). IsSeenIn closing one.viewer) served
  pub count : acquired ≡ acquisitions closing.events
  pub turns : AreInTurn no_use no_position closing.events
  pub known : AreConfirmed (confirmed_after closing.events) closing.slots
