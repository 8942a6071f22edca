-- What is done with a book that is lent under a publisher's lock, and what senders are told to do next: PostgreSQL
-- 15, "Logical Replication", 31.2.1 Replication Slot Management, and 55.4. Streaming Replication Protocol.
use Rattle.std.specs.Prelude.{◌≡◌, ℕ, ◌+◌, ◌-◌, ◌<◌, ◌≤◌, List, length, map, true, Some, None}
use Rattle.std.specs.Arc.{arc_value}
use Rattle.replica_identity.specs.Plans.{PlanOf}
use Rattle.row_owners.specs.Owners.{concerns}
use Rattle.shard_checker.specs.CheckedView.{CheckedOf, setting_in}
use Rattle.tables_log.specs.BookView.{book_checked, book_log, book_slots}
use Rattle.tables_log.specs.Commits.{CommitOf}
use Rattle.tables_log.specs.Committing.{ChangesSlots}
use Rattle.tables_log.specs.Logs.{entry_at}
use Rattle.tables_log.specs.Routes.{ArePassed, IsRouted, commit_in, passed_over}
use Rattle.tables_log.specs.Lsn.{end_lsn_of}
use Rattle.tables_log.specs.Slots.{AreInUse}
use Rattle.tables_log.specs.StandsFor.{Transaction, StandsFor}
use Rattle.tables_log.specs.declared.book.Book.{Book}
use Rattle.publisher_desk.specs.Logged.{AreNoted}
use Rattle.publisher_desk.specs.Receipts.{ReceiptOf, transactions_of}
use Rattle.publisher_desk.specs.Seats.{SeatOf}
use Rattle.publisher_desk.specs.Sights.{Sees}
use Rattle.publisher_desk.specs.SlotEvents.{AreConfirmed, AreSent, IsSentWithin, advanced_after, confirmed_after, sent_at, use_after}
use Rattle.publisher_desk.specs.SlotSights.{SeesEvents}
use Rattle.publisher_desk.specs.declared.sight.Sight.{Sight}
use Rattle.publisher_desk.specs.declared.slot_event.SlotEvent.{SlotEvent}
use Rattle.publisher_desk.specs.declared.slot_sight.SlotSight.{SlotSight}
use Rattle.publisher_desk.specs.declared.step.SenderStep.{SenderStep}
use Rattle.publisher_desk.specs.declared.step.SenderStep.TheVariants.{Entry, Skip, Reply, Ended, Finished, OutOfMemory}
use Rattle.publisher_desk.specs.declared.connection_state.ConnectionState.{ConnectionState}

-- A user was lent a book of the checked catalog and of some list of transactions. No client was sent more than these
-- are. It changed the book's slots, and did what is said of it.
pub record IsLent {U A : Type 0} (did : U → U → Book → Book → List ConnectionState → List ConnectionState → A → Type 0)
    (checked : CheckedOf) (before after : U) (answer : A) : Type 0 where
  pub old : Book
  pub new : Book
  pub connections : List ConnectionState
  pub left : List ConnectionState
  pub named : book_checked old ≡ checked
  pub transactions : List Transaction
  pub stands : StandsFor old transactions
  pub sent : IsSentWithin (length (book_log old)) (sent_at connections)
  pub slots : ChangesSlots old new (book_slots new)
  pub does : did before after old new connections left answer

-- The book has a slot for each subscription, and there is the state of a connection for each. The slots in use are those
-- after these events, and each is confirmed, and its client was sent the log, as they say.
pub record HasSlotsOf (checked : CheckedOf) (book : Book) (connections : List ConnectionState) (events : List SlotEvent) :
    Type 0 where
  pub each : length (book_slots book) ≡ length checked.catalog.subscriptions
  pub connected : length connections ≡ length checked.catalog.subscriptions
  pub used : AreInUse (use_after events) (book_slots book)
  pub confirmed : AreConfirmed (confirmed_after events) (book_slots book)
  pub sent : AreSent (advanced_after events) connections

-- A user was lent a book of the log that the seat has seen, of which its notes are, and with slots as the events say
-- that it has seen.
pub record IsLentTo {U A : Type 0}
    (did : U → U → Book → Book → List ConnectionState → List ConnectionState → A → Type 0) (checked : CheckedOf)
    (seat : SeatOf) (before after : U) (answer : A) : Type 0 where
  pub lent : IsLent did checked before after answer
  pub log_is : transactions_of seat.seen ≡ lent.transactions
  pub noted : AreNoted (setting_in checked) seat.seen seat.notes
  pub slots : HasSlotsOf checked lent.old lent.connections seat.events

-- A user was lent a book of a log that the seat has then seen, with slots as the events say that it has then seen.
pub record LendsTo {U A : Type 0} (did : U → U → Book → Book → List ConnectionState → List ConnectionState → A → Type 0)
    (checked : CheckedOf) (before after : U) (answer : A) (old new : Sight) (was now : SlotSight) : Type 0 where
  pub lent : IsLent did checked before after answer
  pub log : List ReceiptOf
  pub log_is : transactions_of log ≡ lent.transactions
  pub sees : Sees log old new
  pub events : List SlotEvent
  pub slots : HasSlotsOf checked lent.old lent.connections events
  pub shows : SeesEvents events was now

-- how many commits a step tells of or passes over
abbrev pub commits_in : SenderStep → ℕ
commits_in (Entry entry) = 1
commits_in (Skip commits) = length commits.items
commits_in Reply = 0
commits_in Ended = 0
commits_in Finished = 0
commits_in OutOfMemory = 0

-- After these events the client of the slot has been sent the log at least up to the last commit of the step, whose first
-- one has this number.
abbrev pub IsGiven : ℕ → ℕ → List SlotEvent → SenderStep → Type 0
IsGiven slot number events step =
    0 < commits_in step → end_lsn_of (number + commits_in step - 1) ≤ advanced_after events slot

-- What a step says of the log, for the sender of this slot that has sent all commits before this number. It sends
-- the log's entry with this number only if the slot's subscriber gets something of it. Otherwise it passes over that
-- entry and those after it, up to the first of which the subscriber gets something, and at most 64.
abbrev pub IsStepOf : PlanOf → ℕ → List CommitOf → ℕ → SenderStep → Type 0
IsStepOf plan slot log number (Entry entry) =
    (entry_at log number ≡ Some (commit_in entry)) × (concerns plan (commit_in entry).changes slot ≡ true)
IsStepOf plan slot log number (Skip commits) =
    (map (λ commit. arc_value commit) commits.items ≡ passed_over plan slot log (number - 1))
    × (0 < length commits.items)
IsStepOf plan slot log number Reply = Unit {0}
IsStepOf plan slot log number Ended = Unit {0}
IsStepOf plan slot log number Finished = entry_at log number ≡ None
IsStepOf plan slot log number OutOfMemory = Unit {0}

-- And outside the lock: of an entry of this number, with exactly the subscribers that get something of it; or of
-- commits from this number on, of which the subscriber gets nothing.
abbrev pub IsNext : PlanOf → ℕ → ℕ → SenderStep → Type 0
IsNext plan slot number (Entry entry) =
    ((commit_in entry).number ≡ number) × (concerns plan (commit_in entry).changes slot ≡ true) × IsRouted plan entry
IsNext plan slot number (Skip commits) =
    ArePassed plan slot (number - 1) (map (λ commit. arc_value commit) commits.items)
IsNext plan slot number Reply = Unit {0}
IsNext plan slot number Ended = Unit {0}
IsNext plan slot number Finished = Unit {0}
IsNext plan slot number OutOfMemory = Unit {0}
