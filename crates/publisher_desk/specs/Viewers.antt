-- What a connection has seen of a publisher, and what it is answered under the lock: PostgreSQL 15, "Logical
-- Replication", 31.2.1 Replication Slot Management, and 55.4. Streaming Replication Protocol.
use Rattle.std.specs.Prelude.{◌≡◌, ℕ, ◌+◌, ◌≤◌, List, [], ◌∷◌, ◌++◌, length, false, Option, Some, None}
use Rattle.shard_checker.specs.CheckedView.{CheckedOf, setting_in}
use Rattle.table_changes.specs.Tables.{no_rows}
use Rattle.tables_log.specs.BookView.{book_log, book_slots}
use Rattle.tables_log.specs.Commits.{CommitOf}
use Rattle.tables_log.specs.Slots.{AreInUse}
use Rattle.tables_log.specs.StandsFor.{AreAccepted, entries_from}
use Rattle.tables_log.specs.declared.book.Book.{Book}
use Rattle.tables_log.specs.declared.slots.Slot.{Slot}
use Rattle.publisher_desk.specs.Lending.{IsLent}
use Rattle.publisher_desk.specs.Receipts.{ReceiptOf, transactions_of}
use Rattle.publisher_desk.specs.Sights.{Sees, StartsWith, times}
use Rattle.publisher_desk.specs.SlotEvents.{AreConfirmed, AreSent, IsSentWithin, KeepSlot, acquisitions, advanced_after, confirmed_after, events_then, events_with, use_after}
use Rattle.publisher_desk.specs.SlotSights.{AddsEvent, BeginsWith, MayHaveSlot, SeesEvents, hold}
use Rattle.publisher_desk.specs.declared.connection_state.ConnectionState.{ConnectionState}
use Rattle.publisher_desk.specs.declared.sight.Sight.{Sight}
use Rattle.publisher_desk.specs.declared.slot_event.Acquisition.{Acquisition}
use Rattle.publisher_desk.specs.declared.slot_event.Confirmation.{Confirmation}
use Rattle.publisher_desk.specs.declared.slot_event.Release.{Release}
use Rattle.publisher_desk.specs.declared.slot_event.SlotEvent.{SlotEvent}
use Rattle.publisher_desk.specs.declared.slot_event.SlotEvent.TheVariants.{Acquired, Confirmed, Released}
use Rattle.publisher_desk.specs.declared.slot_sight.Hold.{Hold}
use Rattle.publisher_desk.specs.declared.slot_sight.SlotSight.{SlotSight}

-- The beginning of the log that a connection has seen, as receipts; the first events of slots, which it has seen; the
-- slot that it has; and the numbers of its own acquisitions.
pub record ViewerOf : Type 0 where
  pub seen : List ReceiptOf
  pub events : List SlotEvent
  pub held : Option Hold
  pub own : List ℕ

-- a connection that has seen nothing
abbrev pub new_viewer : ViewerOf
new_viewer = record { seen = []; events = []; held = None; own = [] }

-- It has seen what it had seen, and perhaps more.
pub record SeesMore (old new : ViewerOf) : Type 0 where
  pub log : StartsWith new.seen old.seen
  pub slots : BeginsWith new.events old.events

-- the entries of the log that it has seen
abbrev pub log_seen : CheckedOf → List ReceiptOf → List CommitOf
log_seen checked seen = entries_from (setting_in checked) no_rows 1 (transactions_of seen)

-- each transaction of it was accepted after those before it
abbrev pub IsAcceptedLog : CheckedOf → List ReceiptOf → Type 0
IsAcceptedLog checked seen = AreAccepted (setting_in checked) no_rows (transactions_of seen)

-- ---- a use of the slots

-- the connection has this slot
pub record Holds (held : Option Hold) (slot : ℕ) : Type 0 where
  pub mine : Hold
  pub held_is : held ≡ Some mine
  pub slot_is : mine.acquisition.slot ≡ slot

-- it has the slot of this stream, which starts here
pub record HoldsFor (held : Option Hold) (stream : ℕ × ℕ) : Type 0 where
  pub mine : Hold
  pub held_is : held ≡ Some mine
  pub slot_is : mine.acquisition.slot ≡ stream.0
  pub start_is : mine.acquisition.start ≡ stream.1

-- so it is if a stream is named
abbrev pub HoldsIf : Option Hold → Option (ℕ × ℕ) → Type 0
HoldsIf held None = Unit {0}
HoldsIf held (Some stream) = HoldsFor held stream

-- the slot that it has, confirmed as slots are now
abbrev pub hold_at : (ℕ → ℕ) → Option Hold → Option Hold
hold_at known None = None
hold_at known (Some mine) = Some (hold mine.acquisition mine.number mine.found (known mine.acquisition.slot))

-- what it has after it acquired a slot or did not, where slots were confirmed up to these positions before
abbrev pub held_with : Option Acquisition → ℕ → (ℕ → ℕ) → (ℕ → ℕ) → Option Hold → Option Hold
held_with None number found known held = hold_at known held
held_with (Some one) number found known held = Some (hold one number (found one.slot) (known one.slot))

-- What is confirmed is for the slot that the connection then has.
abbrev pub MayNote : Option Acquisition → Option Confirmation → Option Hold → Type 0
MayNote acquired None held = Unit {0}
MayNote None (Some one) held = Holds held one.slot
MayNote (Some it) (Some one) held = it.slot ≡ one.slot

-- the permit that is given out: that of the slot, if one was acquired
abbrev pub permit_for : Option Acquisition → Option ℕ
permit_for None = None
permit_for (Some one) = Some one.slot

-- The connection was lent a book of the log that it has then seen, with a slot for each subscription. Before it used
-- the book, the slots in use were those after these events, each was confirmed, and its client was sent the log, as they
-- say, up to the log's end at most, and the connection had what it has. If it acquired a slot, this was the acquisition
-- of this number, and it has a permit. It confirmed at most the slot that it has.
pub record IsUsed {U A : Type 0}
    (did : U → U → Book → Book → List ConnectionState → List ConnectionState → ℕ → Option Acquisition
    → Option Confirmation → A → Type 0)
    (checked : CheckedOf) (old new : ViewerOf) (before after : U) (answer : A) (permit : Option ℕ) : Type 0 where
  pub number : ℕ
  pub acquired : Option Acquisition
  pub confirmed : Option Confirmation
  pub lent : IsLent (λ user left book changed connections others it.
      did user left book changed connections others number acquired confirmed it) checked before after answer
  pub log_is : transactions_of new.seen ≡ lent.transactions
  pub events : List SlotEvent
  pub used : AreInUse (use_after events) (book_slots lent.old)
  pub each : length (book_slots lent.old) ≡ length checked.catalog.subscriptions
  pub found : AreConfirmed (confirmed_after events) (book_slots lent.old)
  pub sent : AreSent (advanced_after events) lent.connections
  pub ends : IsSentWithin (length (book_log lent.old)) (advanced_after events)
  pub had : MayHaveSlot events old.held
  pub mine : MayNote acquired confirmed old.held
  pub number_is : number ≡ acquisitions events + 1
  pub events_are : new.events ≡ events_then confirmed (events_with acquired events)
  pub known : AreConfirmed (confirmed_after new.events) (book_slots lent.new)
  pub held_is : new.held ≡ held_with acquired number (confirmed_after events) (confirmed_after new.events) old.held
  pub permit_is : permit ≡ permit_for acquired

-- Nothing was done.
pub record IsUnused {U : Type 0} (old new : ViewerOf) (before after : U) : Type 0 where
  pub viewer : new ≡ old
  pub user : after ≡ before

abbrev pub IsUsedIf : {U A : Type 0}
    → (U → U → Book → Book → List ConnectionState → List ConnectionState → ℕ → Option Acquisition
    → Option Confirmation → A → Type 0)
    → CheckedOf → ViewerOf → ViewerOf → U → U → Option (A × Option ℕ) → Type 0
IsUsedIf did checked old new before after None = IsUnused old new before after
IsUsedIf did checked old new before after (Some answered) =
    IsUsed did checked old new before after answered.0 answered.1

-- ---- a release

abbrev pub release : ℕ → ℕ → Release
release slot commits = record { slot = slot; commits = commits }

-- The stream acquired its slot while it was free, and released it when the log had so many commits. Between these no
-- event acquires or releases the slot. Up to where it was confirmed before the acquisition, and before the release, is
-- known, and up to where its client was sent the log in between.
pub record HadSlot (events : List SlotEvent) (held : Hold) (sent commits : ℕ) : Type 0 where
  pub before : List SlotEvent
  pub between : List SlotEvent
  pub after : List SlotEvent
  pub events_are : events
      ≡ before ++ Acquired held.acquisition ∷ between ++ Released (release held.acquisition.slot commits) ∷ after
  pub number_is : held.number ≡ acquisitions before + 1
  pub was_free : use_after before held.acquisition.slot ≡ false
  pub keep : KeepSlot held.acquisition.slot between
  pub found_is : held.found ≡ confirmed_after before held.acquisition.slot
  pub confirmed_is : held.confirmed
      ≡ confirmed_after (before ++ Acquired held.acquisition ∷ between) held.acquisition.slot
  pub sent_is : sent ≡ advanced_after (before ++ Acquired held.acquisition ∷ between) held.acquisition.slot

-- It has released the slot that it had, which is then free, and whose client was sent the log up to here. The
-- acquisition is its own. It has seen the log as it was then.
pub record HasReleased (sent : ℕ) (old new : ViewerOf) : Type 0 where
  pub mine : Hold
  pub was : old.held ≡ Some mine
  pub had : HadSlot new.events mine sent (length new.seen)
  pub free : use_after new.events mine.acquisition.slot ≡ false
  pub none : new.held ≡ None
  pub own : 1 ≤ times mine.number new.own

-- ---- a publisher that is being closed

-- its log, as receipts, and its slots with their events
pub record ClosingOf : Type 0 where
  pub log : List ReceiptOf
  pub events : List SlotEvent
  pub slots : List Slot

-- What the connection has seen is a beginning of the log and of the events.
pub record IsSeenIn (closing : ClosingOf) (viewer : ViewerOf) : Type 0 where
  pub log : StartsWith closing.log viewer.seen
  pub slots : BeginsWith closing.events viewer.events

-- No acquisition belongs to both connections.
abbrev pub ShareNoAcquisition : ViewerOf → ViewerOf → Type 0
ShareNoAcquisition one other = (number : ℕ) → times number one.own + times number other.own ≤ 1

-- ---- under the lock

-- The connection has then seen the whole log, which has these entries, and all events.
pub record IsShown (checked : CheckedOf) (entries : List CommitOf) (old new : Sight) (was now : SlotSight) : Type 0
  where
    pub log : List ReceiptOf
    pub sees : Sees log old new
    pub entries_are : entries ≡ log_seen checked log
    pub accepted : IsAcceptedLog checked log
    pub events : List SlotEvent
    pub shows : SeesEvents events was now

-- The connection has then seen the whole log.
pub record SeesLog (checked : CheckedOf) (old new : Sight) : Type 0 where
  pub log : List ReceiptOf
  pub sees : Sees log old new
  pub accepted : IsAcceptedLog checked log

-- It has then seen all events of the slots.
pub record SeesSlots (was now : SlotSight) : Type 0 where
  pub events : List SlotEvent
  pub sees : SeesEvents events was now

-- It has then seen all events, the last of which is this release. By those before it, the client of the slot was sent
-- the log up to here.
pub record Releases (slot sent commits : ℕ) (was now : SlotSight) : Type 0 where
  pub events : List SlotEvent
  pub sent_is : sent ≡ advanced_after events slot
  pub adds : AddsEvent events (Released (release slot commits)) was now

-- It has seen all events, and then what it acquired.
abbrev pub AcquiresSight : Option Acquisition → List SlotEvent → SlotSight → SlotSight → Type 0
AcquiresSight None events was now = SeesEvents events was now
AcquiresSight (Some one) events was now = AddsEvent events (Acquired one) was now

-- And then what was confirmed.
abbrev pub ConfirmsSight : Option Confirmation → List SlotEvent → SlotSight → SlotSight → Type 0
ConfirmsSight None events was now = now ≡ was
ConfirmsSight (Some one) events was now = AddsEvent events (Confirmed one) was now

pub record ChangesSight (acquired : Option Acquisition) (confirmed : Option Confirmation) (events : List SlotEvent)
    (was now : SlotSight) : Type 0 where
  pub between : SlotSight
  pub acquires : AcquiresSight acquired events was between
  pub confirms : ConfirmsSight confirmed (events_with acquired events) between now

-- What was lent is of a log that the connection has then seen, with a slot for each subscription.
pub record IsStreamed {U A : Type 0}
    (did : U → U → Book → Book → List ConnectionState → List ConnectionState → ℕ → Option Acquisition
    → Option Confirmation → A → Type 0)
    (checked : CheckedOf) (before after : U) (old new : Sight) (was now : SlotSight) (answer : A) (permit : Option ℕ) :
    Type 0 where
  pub number : ℕ
  pub acquired : Option Acquisition
  pub confirmed : Option Confirmation
  pub lent : IsLent (λ user left book changed connections others it.
      did user left book changed connections others number acquired confirmed it) checked before after answer
  pub log : List ReceiptOf
  pub sees : Sees log old new
  pub log_is : transactions_of log ≡ lent.transactions
  pub events : List SlotEvent
  pub used : AreInUse (use_after events) (book_slots lent.old)
  pub each : length (book_slots lent.old) ≡ length checked.catalog.subscriptions
  pub found : AreConfirmed (confirmed_after events) (book_slots lent.old)
  pub sent : AreSent (advanced_after events) lent.connections
  pub ends : IsSentWithin (length (book_log lent.old)) (advanced_after events)
  pub mine : MayNote acquired confirmed was.held
  pub number_is : number ≡ acquisitions events + 1
  pub changes : ChangesSight acquired confirmed events was now
  pub known : AreConfirmed (confirmed_after (events_then confirmed (events_with acquired events))) (book_slots lent.new)
  pub permit_is : permit ≡ permit_for acquired

pub record IsNotStreamed {U : Type 0} (before after : U) (old new : Sight) (was now : SlotSight) : Type 0 where
  pub user : after ≡ before
  pub log : new ≡ old
  pub slots : now ≡ was

abbrev pub IsStreamedIf : {U A : Type 0}
    → (U → U → Book → Book → List ConnectionState → List ConnectionState → ℕ → Option Acquisition
    → Option Confirmation → A → Type 0)
    → CheckedOf → U → U → Sight → Sight → SlotSight → SlotSight → Option (A × Option ℕ) → Type 0
IsStreamedIf did checked before after old new was now None = IsNotStreamed before after old new was now
IsStreamedIf did checked before after old new was now (Some answered) =
    IsStreamed did checked before after old new was now answered.0 answered.1
