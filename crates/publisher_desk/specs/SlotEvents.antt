-- What happens to slots, one event after another: PostgreSQL 15, 27.2.6 Replication Slots, and "Logical Replication",
-- 31.2.1 Replication Slot Management.
use Rattle.std.specs.Prelude.{◌≡◌, ◌≢◌, ℕ, ◌+◌, ◌<◌, ◌≤◌, ◌==◌, if◌then◌else◌, max, Bool, true, false, List, [], ◌∷◌, ◌++◌, Option, Some, None, slice_get}
use Rattle.tables_log.specs.Lsn.{end_lsn_of}
use Rattle.tables_log.specs.Slots.{KeepsUse, TakesUse, confirmed_at, with_use}
use Rattle.tables_log.specs.declared.slots.Slot.{Slot}
use Rattle.publisher_desk.specs.declared.connection_state.ConnectionState.{ConnectionState}
use Rattle.publisher_desk.specs.declared.slot_event.Acquisition.{Acquisition}
use Rattle.publisher_desk.specs.declared.slot_event.Confirmation.{Confirmation}
use Rattle.publisher_desk.specs.declared.slot_event.SlotEvent.{SlotEvent}
use Rattle.publisher_desk.specs.declared.slot_event.SlotEvent.TheVariants.{Acquired, Advanced, Confirmed, Released}

-- ---- which slots are in use

abbrev pub use_by : SlotEvent → (ℕ → Bool) → (ℕ → Bool)
use_by (Acquired one) used = with_use one.slot true used
use_by (Advanced one) used = used
use_by (Confirmed one) used = used
use_by (Released one) used = with_use one.slot false used

-- the slots in use after these events, if these were in use before
abbrev pub use_from : (ℕ → Bool) → List SlotEvent → (ℕ → Bool)
use_from used [] = used
use_from used (event ∷ events) = use_from (use_by event used) events

abbrev pub no_use : ℕ → Bool
no_use number = false

-- after all events
abbrev pub use_after : List SlotEvent → (ℕ → Bool)
use_after events = use_from no_use events

-- after each beginning of the events
abbrev pub uses_from : (ℕ → Bool) → List SlotEvent → List (ℕ → Bool)
uses_from used [] = used ∷ []
uses_from used (event ∷ events) = used ∷ uses_from (use_by event used) events

abbrev pub uses_in : List SlotEvent → List (ℕ → Bool)
uses_in events = uses_from no_use events

-- ---- up to where slots are confirmed

-- the same positions, but for this slot
abbrev pub with_position : ℕ → ℕ → (ℕ → ℕ) → (ℕ → ℕ)
with_position slot position known = λ number. if number == slot then position else known number

abbrev pub position_by : SlotEvent → (ℕ → ℕ) → (ℕ → ℕ)
position_by (Acquired one) known = known
position_by (Advanced one) known = known
position_by (Confirmed one) known = with_position one.slot one.position known
position_by (Released one) known = known

-- the positions after these events, if they were these before
abbrev pub positions_from : (ℕ → ℕ) → List SlotEvent → (ℕ → ℕ)
positions_from known [] = known
positions_from known (event ∷ events) = positions_from (position_by event known) events

abbrev pub no_position : ℕ → ℕ
no_position number = 0

-- after all events
abbrev pub confirmed_after : List SlotEvent → (ℕ → ℕ)
confirmed_after events = positions_from no_position events

-- each slot is confirmed up to this position
abbrev pub AreConfirmed : (ℕ → ℕ) → List Slot → Type 0
AreConfirmed known slots = (number : ℕ) → confirmed_at slots number ≡ known number

-- ---- up to where clients were sent the log

-- A stream that has just acquired its slot has been sent nothing.
abbrev pub advanced_by : SlotEvent → (ℕ → ℕ) → (ℕ → ℕ)
advanced_by (Acquired one) known = with_position one.slot 0 known
advanced_by (Advanced one) known = with_position one.slot one.position known
advanced_by (Confirmed one) known = known
advanced_by (Released one) known = known

-- the positions after these events, if they were these before
abbrev pub advanced_from : (ℕ → ℕ) → List SlotEvent → (ℕ → ℕ)
advanced_from known [] = known
advanced_from known (event ∷ events) = advanced_from (advanced_by event known) events

-- after all events
abbrev pub advanced_after : List SlotEvent → (ℕ → ℕ)
advanced_after events = advanced_from no_position events

-- up to where the client of a slot was sent the log; 0 if there is no such slot
abbrev pub sent_of : Option ConnectionState → ℕ
sent_of None = 0
sent_of (Some connection) = connection.sent

abbrev pub sent_at : List ConnectionState → ℕ → ℕ
sent_at connections slot = sent_of (slice_get connections slot)

-- no client was sent more than so many commits
abbrev pub IsSentWithin : ℕ → (ℕ → ℕ) → Type 0
IsSentWithin commits sent = (slot : ℕ) → sent slot ≤ end_lsn_of commits

-- each client was sent the log up to this position
abbrev pub AreSent : (ℕ → ℕ) → List ConnectionState → Type 0
AreSent known connections = (slot : ℕ) → sent_at connections slot ≡ known slot

-- ---- up to where clients may confirm the log

-- A stream starts here, or at the beginning of the log.
abbrev pub begun_by : SlotEvent → (ℕ → ℕ) → (ℕ → ℕ)
begun_by (Acquired one) known = with_position one.slot (max (end_lsn_of 0) one.start) known
begun_by (Advanced one) known = known
begun_by (Confirmed one) known = known
begun_by (Released one) known = known

-- the positions after these events, if they were these before
abbrev pub begun_from : (ℕ → ℕ) → List SlotEvent → (ℕ → ℕ)
begun_from known [] = known
begun_from known (event ∷ events) = begun_from (begun_by event known) events

-- after all events
abbrev pub begun_after : List SlotEvent → (ℕ → ℕ)
begun_after events = begun_from no_position events

-- up to where the client of a slot may then confirm the log: to the start of its stream, or what it was sent
abbrev pub reach_after : List SlotEvent → ℕ → ℕ
reach_after events slot = max (begun_after events slot) (advanced_after events slot)

-- ---- whether the stream of a slot is over

-- The stream that has a slot is over once a status on it was refused, or it has released the slot.
abbrev pub over_by : SlotEvent → (ℕ → Bool) → (ℕ → Bool)
over_by (Acquired one) over = with_use one.slot false over
over_by (Advanced one) over = over
over_by (Confirmed one) over = if one.is_ahead then with_use one.slot true over else over
over_by (Released one) over = with_use one.slot true over

-- whether the last stream of a slot is over after these events, if these tests say so of events before
abbrev pub over_from : (ℕ → Bool) → List SlotEvent → (ℕ → Bool)
over_from over [] = over
over_from over (event ∷ events) = over_from (over_by event over) events

-- after all events
abbrev pub over_after : List SlotEvent → (ℕ → Bool)
over_after events = over_from no_use events

-- the test of a connection: whether it has ended; so has one that does not exist
abbrev pub ended_of : Option ConnectionState → Bool
ended_of None = true
ended_of (Some connection) = connection.has_ended

abbrev pub ended_at : List ConnectionState → ℕ → Bool
ended_at connections slot = ended_of (slice_get connections slot)

-- The connection of each slot that is tested so has ended.
abbrev pub HaveEnded : (ℕ → Bool) → List ConnectionState → Type 0
HaveEnded over connections = (slot : ℕ) → over slot ≡ true → ended_at connections slot ≡ true

-- ---- what comes within reach

-- If a client confirms more than before, it confirms no more than this, as the events before tell. What counts as sent
-- on a stream never goes back, and nothing more does after a status was refused on it, or it has released its slot.
abbrev pub IsWithinReach : List SlotEvent → SlotEvent → Type 0
IsWithinReach before (Acquired one) = Unit {0}
IsWithinReach before (Advanced one) =
    (over_after before one.slot ≡ false) × (advanced_after before one.slot ≤ one.position)
IsWithinReach before (Confirmed one) =
    confirmed_after before one.slot < one.position → one.position ≤ reach_after before one.slot
IsWithinReach before (Released one) = Unit {0}

-- so it is of each of the events that come after those before
abbrev pub AreWithinReach : List SlotEvent → List SlotEvent → Type 0
AreWithinReach before [] = Unit {0}
AreWithinReach before (event ∷ events) =
    IsWithinReach before event × AreWithinReach (before ++ event ∷ []) events

-- ---- the order of events

-- Where these slots are in use, and are confirmed up to these positions, a slot is acquired if it is free, and
-- confirmed and released if it is in use. A confirmed position never goes back. A sender may advance at any time.
abbrev pub IsInTurn : (ℕ → Bool) → (ℕ → ℕ) → SlotEvent → Type 0
IsInTurn used known (Acquired one) = used one.slot ≡ false
IsInTurn used known (Advanced one) = Unit {0}
IsInTurn used known (Confirmed one) = (used one.slot ≡ true) × (known one.slot ≤ one.position)
IsInTurn used known (Released one) = used one.slot ≡ true

-- so it is of each event
abbrev pub AreInTurn : (ℕ → Bool) → (ℕ → ℕ) → List SlotEvent → Type 0
AreInTurn used known [] = Unit {0}
AreInTurn used known (event ∷ events) =
    IsInTurn used known event × AreInTurn (use_by event used) (position_by event known) events

-- ---- the stream that has a slot

-- how many streams have acquired slots
abbrev pub acquisitions : List SlotEvent → ℕ
acquisitions [] = 0
acquisitions (Acquired one ∷ events) = 1 + acquisitions events
acquisitions (Advanced one ∷ events) = acquisitions events
acquisitions (Confirmed one ∷ events) = acquisitions events
acquisitions (Released one ∷ events) = acquisitions events

abbrev pub slot_in : SlotEvent → ℕ
slot_in (Acquired one) = one.slot
slot_in (Advanced one) = one.slot
slot_in (Confirmed one) = one.slot
slot_in (Released one) = one.slot

-- A release is dated after no more than so many commits, and no client was sent more of the log than these.
abbrev pub IsDated : ℕ → SlotEvent → Type 0
IsDated commits (Acquired one) = Unit {0}
IsDated commits (Advanced one) = one.position ≤ end_lsn_of commits
IsDated commits (Confirmed one) = Unit {0}
IsDated commits (Released one) = one.commits ≤ commits

-- each of these is
abbrev pub AreDated : ℕ → List SlotEvent → Type 0
AreDated commits [] = Unit {0}
AreDated commits (event ∷ events) = IsDated commits event × AreDated commits events

-- The event neither acquires nor releases the slot.
abbrev pub KeepsSlot : ℕ → SlotEvent → Type 0
KeepsSlot slot (Acquired one) = one.slot ≢ slot
KeepsSlot slot (Advanced one) = Unit {0}
KeepsSlot slot (Confirmed one) = Unit {0}
KeepsSlot slot (Released one) = one.slot ≢ slot

-- none of these events does
abbrev pub KeepSlot : ℕ → List SlotEvent → Type 0
KeepSlot slot [] = Unit {0}
KeepSlot slot (event ∷ events) = KeepsSlot slot event × KeepSlot slot events

-- ---- what a use of the slots does to them

-- A slot that was free is acquired. Its client requested the start only if that is after what was confirmed.
pub record Acquires (old new : List Slot) (one : Acquisition) : Type 0 where
  pub takes : TakesUse old new one.slot
  pub late : one.is_requested ≡ true → confirmed_at old one.slot < one.start

abbrev pub MayAcquire : List Slot → List Slot → Option Acquisition → Type 0
MayAcquire old new None = KeepsUse old new
MayAcquire old new (Some one) = Acquires old new one

-- Each slot stays confirmed as it was.
abbrev pub KeepsConfirmed : List Slot → List Slot → Type 0
KeepsConfirmed old new = (number : ℕ) → confirmed_at new number ≡ confirmed_at old number

-- up to where clients were sent the log after a use of the slots; the client of a slot that was acquired, not at all
abbrev pub sent_with : Option Acquisition → (ℕ → ℕ) → (ℕ → ℕ)
sent_with None known = known
sent_with (Some one) known = with_position one.slot 0 known

-- The use changes nothing else of this.
abbrev pub KeepsSent : Option Acquisition → List ConnectionState → List ConnectionState → Type 0
KeepsSent acquired old new = AreSent (sent_with acquired (sent_at old)) new

-- whose connections have to be ended after a use of the slots: those that were, but for a slot that was acquired, and
-- one whose client sent a status that was refused
abbrev pub ended_with : Option Acquisition → Option Confirmation → (ℕ → Bool) → (ℕ → Bool)
ended_with None None ended = ended
ended_with None (Some one) ended = over_by (Confirmed one) ended
ended_with (Some it) None ended = with_use it.slot false ended
ended_with (Some it) (Some one) ended = over_by (Confirmed one) (with_use it.slot false ended)

abbrev pub KeepsEnded : Option Acquisition → Option Confirmation → List ConnectionState → List ConnectionState → Type 0
KeepsEnded acquired confirmed old new = HaveEnded (ended_with acquired confirmed (ended_at old)) new

-- the stream of a connection after it acquired a slot or did not: its slot, and where it starts
abbrev pub stream_with : Option Acquisition → Option (ℕ × ℕ) → Option (ℕ × ℕ)
stream_with None stream = stream
stream_with (Some one) stream = Some (one.slot, one.start)

-- The slot of the connection's stream is confirmed up to here, which is no less than before, and the others as they
-- were. If it is more, the client was sent the log up to there, or it is not after the start or the log's beginning.
pub record Confirms (stream : Option (ℕ × ℕ)) (sent : ℕ → ℕ) (old new : List Slot) (one : Confirmation) : Type 0 where
  pub start : ℕ
  pub mine : stream ≡ Some (one.slot, start)
  pub rises : confirmed_at old one.slot ≤ one.position
  pub within : confirmed_at old one.slot < one.position
      → one.position ≤ max (max (end_lsn_of 0) start) (sent one.slot)
  pub positions : AreConfirmed (with_position one.slot one.position (confirmed_at old)) new

abbrev pub MayConfirm : Option (ℕ × ℕ) → Option Acquisition → Option Confirmation → List ConnectionState → List Slot
    → List Slot → Type 0
MayConfirm stream acquired None connections old new = KeepsConfirmed old new
MayConfirm stream acquired (Some one) connections old new =
    Confirms (stream_with acquired stream) (sent_with acquired (sent_at connections)) old new one

-- ---- what a use of the slots adds to the events

abbrev pub events_with : Option Acquisition → List SlotEvent → List SlotEvent
events_with None events = events
events_with (Some one) events = events ++ Acquired one ∷ []

-- and then what is confirmed
abbrev pub events_then : Option Confirmation → List SlotEvent → List SlotEvent
events_then None events = events
events_then (Some one) events = events ++ Confirmed one ∷ []
