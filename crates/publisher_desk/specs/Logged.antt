-- How a seat's receipts and readings agree with the log: PostgreSQL 15, 3.4. Transactions, and Chapter 7 Queries.
use Rattle.std.specs.Prelude.{◌≡◌, ◌≢◌, ℕ, ◌+◌, ◌<◌, ◌≤◌, All, List, [], ◌∷◌, ◌++◌, length, true, Option}
use Rattle.filter_tree.specs.Datum.{Datum}
use Rattle.shard_checker.specs.CheckedView.{CheckedOf, setting_in}
use Rattle.table_changes.specs.Commands.{Command}
use Rattle.table_changes.specs.Setting.{Setting}
use Rattle.table_changes.specs.Tables.{no_rows}
use Rattle.tables_log.specs.StandsFor.{AreAccepted, StandsFor, after}
use Rattle.tables_log.specs.declared.book.Book.{Book}
use Rattle.tables_log.specs.declared.error.CommitError.{CommitError}
use Rattle.tables_log.specs.declared.error.CommitError.TheVariants.{OutOfMemory}
use Rattle.publisher_desk.specs.Answers.{IsRefusedAfter}
use Rattle.publisher_desk.specs.Receipts.{ReceiptOf, transactions_of}
use Rattle.publisher_desk.specs.Seats.{SeatOf}
use Rattle.publisher_desk.specs.Sights.{AddsTo, AreSeen, Sees, StartsWith, drawn_in, times, view_of}
use Rattle.publisher_desk.specs.declared.note.Note.{Note}
use Rattle.publisher_desk.specs.declared.note.Note.TheVariants.{Committed, Looked}
use Rattle.publisher_desk.specs.declared.note.Reading.{Reading}
use Rattle.publisher_desk.specs.declared.sight.Sight.{Sight}
use Rattle.publisher_desk.specs.declared.sight.HistoryView.{HistoryView}

-- ---- notes

-- The receipt is in the log, at its number.
pub record StandsIn (log : List ReceiptOf) (receipt : ReceiptOf) : Type 0 where
  pub earlier : List ReceiptOf
  pub later : List ReceiptOf
  pub log_is : log ≡ earlier ++ receipt ∷ later
  pub number_is : receipt.number ≡ length earlier + 1

-- The answer is the row of the key after the log's first transactions, as many as the reading tells.
pub record IsReadIn (setting : Setting) (log : List ReceiptOf) (reading : Reading) : Type 0 where
  pub earlier : List ReceiptOf
  pub later : List ReceiptOf
  pub log_is : log ≡ earlier ++ later
  pub number_is : reading.number ≡ length earlier
  pub answer_is : reading.answer ≡ after setting (transactions_of earlier) reading.table 0 reading.key

abbrev pub IsNoted : Setting → List ReceiptOf → Note → Type 0
IsNoted setting log (Committed receipt) = StandsIn log receipt
IsNoted setting log (Looked reading) = IsReadIn setting log reading

abbrev pub AreNoted : Setting → List ReceiptOf → List Note → Type 0
AreNoted setting log notes = All (IsNoted setting log) notes

-- ---- numbers

-- the numbers of a seat's receipts, in its order
abbrev pub own_numbers : List Note → List ℕ
own_numbers [] = []
own_numbers (Committed receipt ∷ notes) = receipt.number ∷ own_numbers notes
own_numbers (Looked reading ∷ notes) = own_numbers notes

-- Each number is greater than the one before, and the first than `low`. None is above `high`.
abbrev pub RiseTo : ℕ → ℕ → List ℕ → Type 0
RiseTo high low [] = Unit {0}
RiseTo high low (number ∷ numbers) = (low < number) × (number ≤ high) × RiseTo high number numbers

-- how many receipts of these seats have this number
abbrev pub drawn_by : ℕ → List SeatOf → ℕ
drawn_by n [] = 0
drawn_by n (seat ∷ seats) = times n (own_numbers seat.notes) + drawn_by n seats

-- ---- seats

-- The seat's notes are what the beginning of the log says that it has seen, and the receipts are its own.
pub record IsSighted (setting : Setting) (notes : List Note) (sight : Sight) : Type 0 where
  pub noted : AreNoted setting sight.seen notes
  pub own : sight.own ≡ own_numbers notes
  pub rising : RiseTo (length sight.seen) 0 sight.own

-- The seat has seen a beginning of the log. Its notes are what the log says, and the numbers of its receipts rise.
pub record IsSeatIn (setting : Setting) (log : List ReceiptOf) (seat : SeatOf) : Type 0 where
  pub begins : StartsWith log seat.seen
  pub noted : AreNoted setting log seat.notes
  pub rising : RiseTo (length log) 0 (own_numbers seat.notes)

-- So it is with each of these seats. No two of their receipts have one number, nor has one a number of the sights
-- beside them.
pub record AreLogged (setting : Setting) (log : HistoryView) (seats : List SeatOf) : Type 0 where
  pub seen : AreSeen log.all log.sights
  pub each : All (IsSeatIn setting log.all) seats
  pub once : (n : ℕ) → drawn_in n log.sights + drawn_by n seats ≤ 1

-- The history tells the book's transactions, and no sight is taken in.
pub record IsHistoryOf (book : Book) (history : HistoryView) : Type 0 where
  pub stands : StandsFor book (transactions_of history.all)
  pub idle : history ≡ view_of true history.all []

-- Each of these seats has seen a beginning of this log, in which all of their receipts are at their numbers, which rise
-- in each seat and of which no two are equal. Each reading is right by the log's beginning.
pub record AreSeatsIn (setting : Setting) (log : List ReceiptOf) (seats : List SeatOf) : Type 0 where
  pub each : All (IsSeatIn setting log) seats
  pub once : (n : ℕ) → drawn_by n seats ≤ 1

-- ---- calls

-- The seat has seen the whole log, and the receipt that comes next.
pub record Records (receipt : ReceiptOf) (old new : Sight) : Type 0 where
  pub log : List ReceiptOf
  pub adds : AddsTo log receipt old new

-- The seat has seen the whole log, of so many commits, each of which was accepted after those before it. The answer is
-- the row of the key after them.
pub record Looks (setting : Setting) (table : ℕ) (key : List Datum) (number : ℕ) (answer : Option (List Datum))
    (old new : Sight) : Type 0 where
  pub log : List ReceiptOf
  pub sees : Sees log old new
  pub number_is : number ≡ length log
  pub accepted : AreAccepted setting no_rows (transactions_of log)
  pub answer_is : answer ≡ after setting (transactions_of log) table 0 key

-- The seat has seen the whole log, after which the commands are refused.
pub record Refuses (checked : CheckedOf) (limit : ℕ) (commands : List Command) (old new : Sight) (error : CommitError) :
    Type 0 where
  pub log : List ReceiptOf
  pub sees : Sees log old new
  pub accepted : AreAccepted (setting_in checked) no_rows (transactions_of log)
  pub refused : IsRefusedAfter checked limit (transactions_of log) commands error

-- ---- refusals

-- The commands are refused after the transactions that the seat has seen, each of which was accepted after those before
-- it, and of which its notes are.
pub record IsRefusedIn (checked : CheckedOf) (limit : ℕ) (seat : SeatOf) (commands : List Command)
    (error : CommitError) : Type 0 where
  pub accepted : AreAccepted (setting_in checked) no_rows (transactions_of seat.seen)
  pub noted : AreNoted (setting_in checked) seat.seen seat.notes
  pub refused : IsRefusedAfter checked limit (transactions_of seat.seen) commands error

-- unless memory is refused, which any commands may meet
abbrev pub IsRefused : CheckedOf → ℕ → SeatOf → List Command → CommitError → Type 0
IsRefused checked limit seat commands error = error ≢ OutOfMemory → IsRefusedIn checked limit seat commands error
