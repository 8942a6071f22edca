-- How receipts are made again on a book without commits, and how far that has come: PostgreSQL 15, 3.4. Transactions.
use Rattle.std.specs.Prelude.{◌≡◌, ◌≢◌, ℕ, ◌≤◌, List, false, length, replicate, take}
use Rattle.tables_log.specs.BookView.{book_checked, book_limit, book_log, book_setting, book_slots}
use Rattle.tables_log.specs.Committing.{ChangesSlots, Commits, RefusedBy}
use Rattle.tables_log.specs.Logs.{entry_at}
use Rattle.tables_log.specs.Slots.{KeepsUse, confirmed_at}
use Rattle.tables_log.specs.StandsFor.{StandsFor}
use Rattle.tables_log.specs.declared.book.Book.{Book}
use Rattle.tables_log.specs.declared.slots.Slot.{Slot}
use Rattle.tables_log.specs.declared.error.CommitError.{CommitError}
use Rattle.tables_log.specs.declared.error.CommitError.TheVariants as e
use Rattle.publisher_desk.specs.Receipts.{ReceiptOf, transactions_of}
use Rattle.senders.specs.CloseCauses.{IsUnlike}
use Rattle.senders.specs.declared.close_error.CloseError.{CloseError}
use Rattle.senders.specs.declared.close_error.CloseError.TheVariants.{CountDiffers, ReceiptMissing, ReadingWrong, TakenDiffers, ConnectionMissing, StartLate, SlotDiffers, OutOfMemory}

-- ---- one receipt

-- its commands are committed, and the entry is that of the first book
pub record IsAgain (book old new : Book) (receipt : ReceiptOf) : Type 0 where
  pub number : ℕ
  pub commits : Commits old new receipt.commands receipt.time number
  pub same : entry_at (book_log book) number ≡ entry_at (book_log new) number

-- or they are refused, or it is another one
pub data IsNotAgain (book old : Book) (receipt : ReceiptOf) : Type 0 where
  IsRefusedNow : (error : CommitError) → error ≢ e.OutOfMemory → RefusedBy old receipt.commands error
      → IsNotAgain book old receipt
  IsOtherNow : (new : Book) (number : ℕ) → Commits old new receipt.commands receipt.time number
      → entry_at (book_log book) number ≢ entry_at (book_log new) number → IsNotAgain book old receipt

-- the fault of a receipt is `ReceiptMissing`, for a reason, or out of memory
abbrev pub IsMissingFor : Type 0 → CloseError → Type 0
IsMissingFor reason CountDiffers = ⊥
IsMissingFor reason ReceiptMissing = reason
IsMissingFor reason ReadingWrong = ⊥
IsMissingFor reason TakenDiffers = ⊥
IsMissingFor reason ConnectionMissing = ⊥
IsMissingFor reason StartLate = ⊥
IsMissingFor reason SlotDiffers = ⊥
IsMissingFor reason OutOfMemory = Unit {0}

-- ---- several

-- The fresh book has made the first of the receipts again, as many as its log has entries, and its log is the
-- beginning of the first book's. Its slots are free, and nothing is confirmed for them.
pub record Replays (book fresh : Book) (order : List ReceiptOf) : Type 0 where
  pub named : book_checked fresh ≡ book_checked book
  pub limited : book_limit fresh ≡ book_limit book
  pub stands : StandsFor fresh (transactions_of (take (length (book_log fresh)) order))
  pub log : book_log fresh ≡ take (length (book_log fresh)) (book_log book)
  pub unused : book_slots fresh
      ≡ replicate (length (book_checked book).catalog.subscriptions) (record { confirmed = 0; taken = false })

-- Only the slots of the fresh book change: those that are free stay free, and each is confirmed as these are.
pub record IsConfirmedAs (slots : List Slot) (fresh last : Book) : Type 0 where
  pub changes : ChangesSlots fresh last (book_slots last)
  pub uses : KeepsUse (book_slots fresh) (book_slots last)
  pub confirmed : (slot : ℕ) → confirmed_at (book_slots last) slot ≡ confirmed_at slots slot

-- The first book's log has an entry for each receipt, and is within its limit.
pub record IsAsLong (book : Book) (order : List ReceiptOf) : Type 0 where
  pub count : length order ≡ length (book_log book)
  pub room : length (book_log book) ≤ book_limit book

-- one of the receipts is refused, or is not what the first book's log has
abbrev pub IsUnlikeIn : Book → List ReceiptOf → CloseError → Type 0
IsUnlikeIn book order = IsMissingFor (IsUnlike (book_setting book) (book_log book) order)
