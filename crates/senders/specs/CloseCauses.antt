-- Which comparison found a reason why a publisher cannot be closed: PostgreSQL 15, 3.4. Transactions, and 55.4.
-- Streaming Replication Protocol.
use Rattle.std.specs.Prelude.{◌≡◌, ◌≢◌, ℕ, ◌+◌, List, All, length, slice_get, take, Some}
use Rattle.std.specs.List.Sorted.{IsPermutation, IsNonDecreasingBy}
use Rattle.table_changes.specs.Records.{record_of}
use Rattle.table_changes.specs.Setting.{Setting}
use Rattle.table_changes.specs.Tables.{no_rows}
use Rattle.tables_log.specs.BookView.{book_checked, book_setting, book_log, book_slots}
use Rattle.tables_log.specs.Commits.{CommitOf, commit_of}
use Rattle.tables_log.specs.StandsFor.{IsAccepted, AreAccepted, entries_from, after}
use Rattle.tables_log.specs.declared.book.Book.{Book}
use Rattle.publisher_desk.specs.Receipts.{ReceiptOf, transaction_of, transactions_of}
use Rattle.publisher_desk.specs.Seats.{SeatOf}
use Rattle.publisher_desk.specs.Logged.{RiseTo}
use Rattle.senders.specs.Gathering.{all_receipts, all_readings, numbers_of, IsRisingSeat}
use Rattle.senders.specs.Histories.{AreInOrder, IsRight}
use Rattle.senders.specs.Reached.{AllEndReached, AreReached, IsOrder, LacksConnection}
use Rattle.senders.specs.Results.{ServedOf}
use Rattle.senders.specs.TakenCommits.{IsTaken}
use Rattle.senders.specs.declared.close_error.CloseError.{CloseError}
use Rattle.senders.specs.declared.close_error.CloseError.TheVariants.{CountDiffers, ReceiptMissing, ReadingWrong, TakenDiffers, ConnectionMissing, StartLate, SlotDiffers, OutOfMemory}

-- ---- a receipt that the log does not have

-- the commands of the receipts before this place are accepted one after another, and those of the receipt there are
-- not accepted after them
pub record HasRefused (setting : Setting) (order : List ReceiptOf) : Type 0 where
  pub place : ℕ
  pub receipt : ReceiptOf
  pub at : slice_get order place ≡ Some receipt
  pub accepted : AreAccepted setting no_rows (transactions_of (take place order))
  pub refused : ¬ IsAccepted setting (after setting (transactions_of (take place order))) (transaction_of receipt)

-- they are, and what is recorded of them there, with the receipt's time, is not the log's entry
pub record HasOtherEntry (setting : Setting) (log : List CommitOf) (order : List ReceiptOf) : Type 0 where
  pub place : ℕ
  pub receipt : ReceiptOf
  pub at : slice_get order place ≡ Some receipt
  pub accepted : AreAccepted setting no_rows (transactions_of (take place order))
  pub taken : IsAccepted setting (after setting (transactions_of (take place order))) (transaction_of receipt)
  pub other : slice_get log place ≢ Some
      (commit_of (place + 1) receipt.time
      (record_of setting (after setting (transactions_of (take place order))) receipt.commands))

-- one of these is so
pub data IsUnlike (setting : Setting) (log : List CommitOf) (order : List ReceiptOf) : Type 0 where
  IsRefusedThere : HasRefused setting order → IsUnlike setting log order
  IsOtherThere : HasOtherEntry setting log order → IsUnlike setting log order

-- A receipt is missing.
pub data IsMissing (setting : Setting) (log : List CommitOf) (seats : List SeatOf) : Type 0 where
  -- the numbers of a seat's receipts do not rise in its order, from 1 at least to the log's length at most
  IsFalling : ¬ All (IsRisingSeat (length log)) seats → IsMissing setting log seats
  -- of the receipts of all seats, sorted by their numbers, one has the number 0, that of the one before it, or one
  -- above the log's length
  IsRepeated : (sorted : List ReceiptOf) → IsPermutation (all_receipts seats) sorted
      → IsNonDecreasingBy (λ (receipt : ReceiptOf). receipt.number) sorted
      → ¬ RiseTo (length log) 0 (numbers_of sorted) → IsMissing setting log seats
  -- one is refused, or is not what the log has
  IsNotLogged : (order : List ReceiptOf) → AreInOrder seats order → IsUnlike setting log order
      → IsMissing setting log seats

-- ---- what holds where the receipts are those of the log

-- The log of the book is that of the receipts.
pub record IsExplainedBy (book : Book) (seats : List SeatOf) (order : List ReceiptOf) : Type 0 where
  pub ordered : AreInOrder seats order
  pub accepted : AreAccepted (book_setting book) no_rows (transactions_of order)
  pub logged : book_log book ≡ entries_from (book_setting book) no_rows 1 (transactions_of order)

-- A reading is wrong.
pub record HasWrongReading (book : Book) (seats : List SeatOf) : Type 0 where
  pub order : List ReceiptOf
  pub explained : IsExplainedBy book seats order
  pub wrong : ¬ All (IsRight (book_setting book) (transactions_of order)) (all_readings seats)

-- What a connection took is not what the log has from its start on, or stops too early.
pub record HasOtherTaken (book : Book) (seats : List SeatOf) (served : List ServedOf) : Type 0 where
  pub order : List ReceiptOf
  pub explained : IsExplainedBy book seats order
  pub right : All (IsRight (book_setting book) (transactions_of order)) (all_readings seats)
  pub other : ¬ All (IsTaken (book_log book)) served

-- So many streams acquired slots, and the connection of one of them is missing.
pub record HasMissingConnection (book : Book) (acquired : ℕ) (seats : List SeatOf) (served : List ServedOf) : Type 0
  where
    pub order : List ReceiptOf
    pub explained : IsExplainedBy book seats order
    pub right : All (IsRight (book_setting book) (transactions_of order)) (all_readings seats)
    pub taken : All (IsTaken (book_log book)) served
    pub missing : LacksConnection acquired served

-- None is missing, and `so` holds of them in their order.
pub record HasStarts (book : Book) (acquired : ℕ) (seats : List SeatOf) (served : List ServedOf)
    (so : ℕ → List ServedOf → Type 0) : Type 0 where
  pub order : List ReceiptOf
  pub explained : IsExplainedBy book seats order
  pub right : All (IsRight (book_setting book) (transactions_of order)) (all_readings seats)
  pub taken : All (IsTaken (book_log book)) served
  pub starts : List ServedOf
  pub ordered : IsOrder acquired served starts
  pub are : so (length (book_checked book).catalog.subscriptions) starts

-- ---- refusals, each of which passes what comes before it

-- `acquired` is how many streams acquired slots
abbrev pub IsCloseCause : Book → ℕ → List SeatOf → List ServedOf → CloseError → Type 0
IsCloseCause book acquired seats served CountDiffers = length (book_log book) ≢ length (all_receipts seats)
IsCloseCause book acquired seats served ReceiptMissing = (length (book_log book) ≡ length (all_receipts seats))
    × IsMissing (book_setting book) (book_log book) seats
IsCloseCause book acquired seats served ReadingWrong = HasWrongReading book seats
IsCloseCause book acquired seats served TakenDiffers = HasOtherTaken book seats served
IsCloseCause book acquired seats served ConnectionMissing = HasMissingConnection book acquired seats served
IsCloseCause book acquired seats served StartLate =
    HasStarts book acquired seats served (λ slots starts. ¬ AreReached slots starts)
IsCloseCause book acquired seats served SlotDiffers =
    HasStarts book acquired seats served (λ slots starts. AreReached slots starts
    × ¬ AllEndReached slots (book_slots book) starts)
IsCloseCause book acquired seats served OutOfMemory = Unit {0}

-- A receipt is never missing, and no reading is wrong: the publisher's history ties them to its log, and a seat of
-- another publisher cannot be passed in.
abbrev pub CanCome : CloseError → Type 0
CanCome CountDiffers = Unit {0}
CanCome ReceiptMissing = ⊥
CanCome ReadingWrong = ⊥
CanCome TakenDiffers = Unit {0}
CanCome ConnectionMissing = Unit {0}
CanCome StartLate = Unit {0}
CanCome SlotDiffers = Unit {0}
CanCome OutOfMemory = Unit {0}
