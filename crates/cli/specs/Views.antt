-- What VIEW shows of a publisher: its rows after some transactions, and how far each subscriber is. PostgreSQL 15,
-- 3.4. Transactions, 7.5. Sorting Rows, and 27.2.6 Replication Slots. The lines are this program's own format.
use Rattle.std.specs.Prelude.{◌≡◌, ℕ, ◌+◌, Bool, true, false, List, [], ◌∷◌, ◌++◌, length, map, Option, Some, None, slice_get, codes}
use Rattle.filter_tree.specs.Datum.{Datum}
use Rattle.filter_tree.specs.Expr.{Expr}
use Rattle.pub_catalog.specs.Catalogs.{CatalogOf}
use Rattle.shard_checker.specs.CheckedView.{CheckedOf, setting_in}
use Rattle.shard_world.specs.ViewContents.{AllAt, FoundIn}
use Rattle.shard_world.specs.ViewMeaning.{AreRows}
use Rattle.table_changes.specs.Tables.{holds, no_rows}
use Rattle.tables_log.specs.BookView.{book_log, book_slots}
use Rattle.tables_log.specs.Slots.{confirmed_at}
use Rattle.tables_log.specs.StandsFor.{Transaction, AreAccepted, after}
use Rattle.tables_log.specs.declared.book.Book.{Book}
use Rattle.tables_log.specs.declared.error.StartError.{StartError}
use Rattle.tables_log.specs.declared.error.StartError.TheVariants.{Ahead, InUse, NoSlot}
use Rattle.tables_log.specs.declared.slots.Slot.{Slot}
use Rattle.publisher_desk.specs.Logged.{AreNoted}
use Rattle.publisher_desk.specs.Receipts.{transactions_of}
use Rattle.publisher_desk.specs.Seats.{SeatOf}
use Rattle.publisher_desk.specs.SlotEvents.{advanced_after, confirmed_after, sent_at, use_after}
use Rattle.publisher_desk.specs.declared.connection_state.ConnectionState.{ConnectionState}
use Rattle.publisher_desk.specs.declared.slot_event.SlotEvent.{SlotEvent}
use Rattle.commands.specs.Names.{counted, subscriber_name}
use Rattle.commands.specs.Output.{text_of}
use Rattle.commands.specs.Simulate.Answers.{position_text}
use Rattle.commands.specs.Simulate.Views.{rows_lines}
use Rattle.cli.specs.declared.publish.view.Progress.{Progress}
use Rattle.cli.specs.declared.publish.view.View.{View}

-- ---- how far a subscriber is

abbrev pub progress_of : ℕ → ℕ → Bool → Progress
progress_of confirmed sent is_connected = record { confirmed = confirmed; sent = sent; is_connected = is_connected }

-- by these events of slots: up to where it has confirmed the log, up to where its client was sent it since a stream
-- last acquired the slot, and whether a stream has the slot
abbrev pub progress_at : List SlotEvent → ℕ → Progress
progress_at events number =
    progress_of (confirmed_after events number) (advanced_after events number) (use_after events number)

-- whether a stream has the slot; if there is none, no
abbrev pub taken_of : Option Slot → Bool
taken_of None = false
taken_of (Some slot) = slot.taken

abbrev pub taken_at : List Slot → ℕ → Bool
taken_at slots number = taken_of (slice_get slots number)

-- by a book's slots and the state of their connections
abbrev pub progress_seen : List Slot → List ConnectionState → ℕ → Progress
progress_seen slots connections number =
    progress_of (confirmed_at slots number) (sent_at connections number) (taken_at slots number)

-- whether a start is refused because a stream has the slot
abbrev pub is_in_use : StartError → Bool
is_in_use NoSlot = false
is_in_use Ahead = false
is_in_use InUse = true

-- ---- the line of a subscriber

abbrev pub state : Bool → List ℕ
state true = codes " connected"
state false = codes " disconnected"

-- its name, the positions up to which it was sent and has confirmed the log, and whether it is connected
abbrev pub progress_line : List ℕ → Progress → List ℕ
progress_line name progress =
    name ++ codes " sent " ++ position_text progress.sent ++ codes " confirmed " ++ position_text progress.confirmed
    ++ state progress.is_connected

-- the lines of the subscribers, of which the first has this number
abbrev pub progress_lines : CatalogOf Expr → ℕ → List Progress → List (List ℕ)
progress_lines catalog number [] = []
progress_lines catalog number (progress ∷ later) =
    progress_line (subscriber_name catalog.subscriptions number) progress ∷ progress_lines catalog (number + 1) later

-- ---- all

-- the log's length, the rows of each table, and each subscriber
abbrev pub shown_lines : CatalogOf Expr → ℕ → List (List (List Datum)) → List Progress → List (List ℕ)
shown_lines catalog log rows progress =
    counted (codes "log") log ∷ (rows_lines [] catalog.tables 0 rows ++ progress_lines catalog 0 progress)

abbrev pub view_lines : CatalogOf Expr → View → List (List ℕ)
view_lines catalog view = shown_lines catalog view.log (map (λ rows. rows.items) view.rows.items) view.progress.items

-- what was seen of a book and its slots' connections, with these numbers of tables and subscriptions
pub record IsSeen (book : Book) (connections : List ConnectionState) (tables subscriptions : ℕ) (view : View) : Type 0
  where
    pub log_is : view.log ≡ length (book_log book)
    pub width : length view.rows.items ≡ tables
    pub rows : AllAt (λ table rows. FoundIn book table rows.items) view.rows.items
    pub count : length view.progress.items ≡ subscriptions
    pub each : AllAt (λ number one. one ≡ progress_seen (book_slots book) connections number) view.progress.items

-- The lines show how many transactions the log has that the session has seen, each of which was accepted after those
-- before it, the rows that they leave in each table, and how far each subscriber is, by the events that the session has
-- seen. The log has all notes of the session.
pub record IsView (checked : CheckedOf) (has : SeatOf) (lines : List (List ℕ)) : Type 0 where
  pub noted : AreNoted (setting_in checked) has.seen has.notes
  pub transactions : List Transaction
  pub transactions_are : transactions ≡ transactions_of has.seen
  pub rows : List (List (List Datum))
  pub progress : List Progress
  pub accepted : AreAccepted (setting_in checked) no_rows transactions
  pub width : length rows ≡ length checked.catalog.tables
  pub are_rows : AllAt (λ table rows. AreRows
      (holds (setting_in checked).keys (after (setting_in checked) transactions) table) rows) rows
  pub count : length progress ≡ length checked.catalog.subscriptions
  pub each : AllAt (λ number one. one ≡ progress_at has.events number) progress
  pub are : lines ≡ shown_lines checked.catalog (length transactions) rows progress

-- the text has such lines
pub record IsViewText (checked : CheckedOf) (has : SeatOf) (text : List ℕ) : Type 0 where
  pub lines : List (List ℕ)
  pub view : IsView checked has lines
  pub is : text ≡ text_of lines
