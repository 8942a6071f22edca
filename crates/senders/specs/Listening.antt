-- What a listener does with what it reads: PostgreSQL 15, 55.4. Streaming Replication Protocol.
use Rattle.std.specs.Prelude.{◌≡◌, ℕ, ◌<◌, ◌≤◌, max, Bool, true, false, List, ◌++◌, length, slice_index, take, Option, Some, None, Result, Ok, Err, IfErr}
use Rattle.std.specs.Io.KnownBytes.{Consumes}
use Rattle.filter_tree.specs.Memory.{Answers}
use Rattle.shard_checker.specs.CheckedView.{CheckedOf}
use Rattle.tables_log.specs.BookView.{book_log, book_slots}
use Rattle.tables_log.specs.Lsn.{end_lsn_of}
use Rattle.tables_log.specs.Slots.{confirmed_at}
use Rattle.tables_log.specs.declared.book.Book.{Book}
use Rattle.tables_log.specs.declared.slots.Slot.{Slot}
use Rattle.copy_both.specs.ConfirmedFrames.{HasConfirmedAll}
use Rattle.copy_both.specs.Ears.{HearLeaves, ear_confirmed, ear_phase, ear_refusal, ear_started, hear_answer}
use Rattle.copy_both.specs.HeardFrames.{frames_in, AsksIfStarted, BooksOf, HasEnd, HasHeard, IsAnswered, IsTerminated, Requests, SentNone}
use Rattle.copy_both.specs.Voices.{reported_fault}
use Rattle.copy_both.specs.declared.heard.Heard.{Heard}
use Rattle.copy_both.specs.declared.link_fault.LinkFault.{LinkFault}
use Rattle.copy_both.specs.declared.link_fault.LinkFault.TheVariants.{StatusAhead}
use Rattle.publisher_desk.specs.SlotSights.{hold}
use Rattle.publisher_desk.specs.Viewers.{HoldsIf, SeesMore, ViewerOf}
use Rattle.publisher_desk.specs.declared.connection_state.ConnectionState.{ConnectionState}
use Rattle.publisher_desk.specs.declared.slot_event.Acquisition.{Acquisition}
use Rattle.publisher_desk.specs.declared.slot_event.Confirmation.{Confirmation}
use Rattle.publisher_desk.specs.declared.slot_sight.Hold.{Hold}
use Rattle.senders.specs.Confirming.{ConfirmsBy, ReportsIf}
use Rattle.senders.specs.Refusing.{fault_by}
use Rattle.senders.specs.Results.{StartsFrom, acquisition, book_seen, books_seen}
use Rattle.senders.specs.Hearing.{Faults, IsSentFrom, IsSilent, StaysStarted, sent_by}
use Rattle.senders.specs.declared.beginning.Beginning.{Beginning}
use Rattle.senders.specs.declared.beginning.Beginning.TheVariants as beginning
use Rattle.senders.specs.declared.listener_end.ListenerEnd.{ListenerEnd}
use Rattle.senders.specs.declared.listener_end.ListenerEnd.TheVariants as listener_end
use Rattle.senders.specs.declared.listener.Listened.{Listened}
use Rattle.senders.specs.declared.listener.Listener.{Listener}
use Rattle.senders.specs.declared.next.Next.{Next}
use Rattle.senders.specs.declared.next.Next.TheVariants as next

-- ---- the requested start

-- if it says that its client requested the position where the stream starts, the first frame does
abbrev pub SaysRequested : List ℕ → Listener → Type 0
SaysRequested bytes listener = (slot start : ℕ) → ear_started listener.ear ≡ Some (slot, start)
    → listener.is_requested ≡ true → Requests (frames_in bytes) slot start

-- The connection has the slot of its stream. It acquired it when it was confirmed up to `found`, and it is confirmed
-- now up to what its client confirmed, if that is greater.
pub record HoldsStreamOf (started : ℕ × ℕ) (is_requested : Bool) (number confirmed : ℕ) (held : Option Hold) : Type 0
  where
    pub found : ℕ
    pub held_is : held ≡ Some (hold (acquisition started.0 started.1 is_requested) number found (max found confirmed))
    pub from : StartsFrom found started.1 is_requested

-- so it is of the stream that its listener started; otherwise it has none
abbrev pub HoldsStream : Option (ℕ × ℕ) → Bool → ℕ → ℕ → Option Hold → Type 0
HoldsStream None is_requested number confirmed held = (held ≡ None) × (number ≡ 0) × (is_requested ≡ false)
HoldsStream (Some started) is_requested number confirmed held =
    HoldsStreamOf started is_requested number confirmed held

abbrev pub IsHolding : ViewerOf → Listener → Type 0
IsHolding viewer listener = HoldsStream (ear_started listener.ear) listener.is_requested listener.number
    (ear_confirmed listener.ear) viewer.held

-- The connection has the slot of the stream that its listener started, if it started one.
abbrev pub HasItsSlot : ViewerOf → Listener → Type 0
HasItsSlot viewer listener = HoldsIf viewer.held (ear_started listener.ear)

-- It has heard these bytes, and its connection has seen this.
pub record HasListened (checked : CheckedOf) (viewer : ViewerOf) (bytes : List ℕ) (listener : Listener) : Type 0 where
  pub heard : HasHeard checked (books_seen viewer) bytes listener.ear
  pub requested : SaysRequested bytes listener
  pub confirmed : HasConfirmedAll (ear_started listener.ear) (frames_in bytes) (ear_confirmed listener.ear)
  pub holding : IsHolding viewer listener

-- Of a stream that starts now it says that its start was requested if that is after what was confirmed for the slot,
-- and otherwise it starts there; of one that had started before it says what it said then.
pub record Compares (before after : Listener) (old : Book) : Type 0 where
  pub from : ear_started before.ear ≡ None → (slot start : ℕ) → ear_started after.ear ≡ Some (slot, start)
      → StartsFrom (confirmed_at (book_slots old) slot) start after.is_requested
  pub stays : (started : ℕ × ℕ) → ear_started before.ear ≡ Some started → after.is_requested ≡ before.is_requested

-- ---- the permit of the stream

-- Its stream was started.
pub record HasStarted (listener : Listener) : Type 0 where
  pub stream : ℕ × ℕ
  pub started_is : ear_started listener.ear ≡ Some stream

-- There is a permit exactly if a stream starts, and it is that of its slot. A stream that had started stays so.
abbrev pub PermitsStart : Option (ℕ × ℕ) → Option (ℕ × ℕ) → Option ℕ → Type 0
PermitsStart (Some stream) now permit = (now ≡ Some stream) × (permit ≡ None)
PermitsStart None (Some stream) permit = permit ≡ Some stream.0
PermitsStart None None permit = permit ≡ None

-- A stream that was started comes with the permit of its slot.
abbrev pub HasPermit : Beginning → Type 0
HasPermit (beginning.Started started permit) = permit ≡ started.0
HasPermit (beginning.Ended started why permit) = permit ≡ started.0
HasPermit (beginning.Refused why) = Unit {0}

-- ---- under the lock

-- the bytes that are to be heard
abbrev pub piece_of : Listener → List ℕ
piece_of listener = take listener.filled listener.piece.items

-- A slot was acquired for a stream that starts now, by this number; otherwise no stream starts, and the listener keeps
-- its number, and what it says of the start.
abbrev pub AcquiresFor : Listener → Listener → ℕ → Option Acquisition → Type 0
AcquiresFor before after number None = (ear_started before.ear ≡ None → ear_started after.ear ≡ None)
    × (after.number ≡ before.number) × (after.is_requested ≡ before.is_requested)
AcquiresFor before after number (Some one) = (ear_started before.ear ≡ None)
    × (ear_started after.ear ≡ Some (one.slot, one.start)) × (after.is_requested ≡ one.is_requested)
    × (after.number ≡ number)

-- Of a stream that has just started the listener notes the number of its acquisition, and that its client requested the
-- start if that is after what was confirmed.
pub record NotesStart (was_started : Bool) (confirmed : List ℕ) (number : ℕ) (before after : Listener)
    (one : Acquisition) : Type 0 where
  pub began : was_started ≡ false
  pub started_is : ear_started before.ear ≡ Some (one.slot, one.start)
  pub ear_is : after.ear ≡ before.ear
  pub room : length after.piece.items ≡ length before.piece.items
  pub requested_is : after.is_requested ≡ one.is_requested
  pub number_is : after.number ≡ number
  pub late : one.slot < length confirmed → one.is_requested ≡ true → slice_index confirmed one.slot < one.start
  pub early : one.slot < length confirmed → one.is_requested ≡ false → one.start ≤ slice_index confirmed one.slot

abbrev pub NotesStartIf : Bool → List ℕ → ℕ → Listener → Listener → Option Acquisition → Type 0
NotesStartIf was_started confirmed number before after None =
    (after ≡ before) × (was_started ≡ false → ear_started before.ear ≡ None)
NotesStartIf was_started confirmed number before after (Some one) =
    NotesStart was_started confirmed number before after one

-- What is confirmed for the slot of this stream is what was confirmed before, or it is noted. So is a status that was
-- ahead.
abbrev pub NotesConfirmed : Option (ℕ × ℕ) → List ℕ → List Slot → Option Confirmation → Type 0
NotesConfirmed started before slots None = (slot start : ℕ) → started ≡ Some (slot, start)
    → (slot < length before) × (confirmed_at slots slot ≡ slice_index before slot)
NotesConfirmed started before slots (Some one) =
    ((start : ℕ) × (started ≡ Some (one.slot, start))) × (one.position ≡ confirmed_at slots one.slot)

-- A status of a stream that was ahead is noted.
abbrev pub NotesAhead : Option (ℕ × ℕ) → Result Heard LinkFault → Option Confirmation → Type 0
NotesAhead started heard noted = heard ≡ Err StatusAhead → (stream : ℕ × ℕ) → started ≡ Some stream
    → (one : Confirmation) × (noted ≡ Some one) × (one.is_ahead ≡ true)

-- The ear heard the piece, with the sent position of the slot's connection. A status is ahead only of a log that has
-- the start of the stream.
pub record HeardPiece (before after : Listener) (old new : Book) (connections : List ConnectionState)
    (heard : Result Heard LinkFault) : Type 0 where
  pub answer : Answers (λ heard. heard) reported_fault
      (hear_answer before.ear old (piece_of before) (sent_by (ear_started before.ear) connections)) heard
  pub left : HearLeaves (ear_phase before.ear) before.ear after.ear old new (piece_of before)
      (sent_by (ear_started before.ear) connections) heard
  pub reaches : heard ≡ Err StatusAhead → IsSentFrom (ear_started after.ear) (end_lsn_of (length (book_log old)))
  pub room : length after.piece.items ≡ length before.piece.items
  pub compares : Compares before after old

-- ---- outside of it

-- If it started no stream, a start that it refuses is refused by the book that the publisher has, as its connection has
-- then seen, and has its response; and before another fault there was none, unless memory was refused.
abbrev pub RefusesNow : CheckedOf → ViewerOf → List ℕ → Listener → Result Heard LinkFault → Type 0
RefusesNow checked viewer bytes listener heard = ear_started listener.ear ≡ None
    → IfErr heard (λ fault. IsAnswered checked (book_seen viewer) (frames_in bytes) (ear_refusal listener.ear) fault
    × SentNone (frames_in bytes) fault)

-- What it says with the piece is so, and what its connection then has, whatever it had heard before.
pub record SaysOfPiece (checked : CheckedOf) (was now : ViewerOf) (piece : List ℕ) (old new : Listener)
    (heard : Result Heard LinkFault) : Type 0 where
  pub each : (bytes : List ℕ) → HasListened checked was bytes old → SaysRequested (bytes ++ piece) new
  pub confirms : (bytes : List ℕ) → HasListened checked was bytes old
      → ConfirmsBy (ear_started new.ear) new.number now.events (frames_in (bytes ++ piece)) heard (ear_confirmed new.ear)
  pub refuses : (bytes : List ℕ) → HasListened checked was bytes old → RefusesNow checked now (bytes ++ piece) new heard
  pub holding : (bytes : List ℕ) → HasListened checked was bytes old → IsHolding now new
  pub mine : HasItsSlot was old → HasItsSlot now new
  pub sees : SeesMore was now

-- A listener has heard these bytes, and hears on. What it had started stays so.
pub record HearsOn (checked : CheckedOf) (viewer : ViewerOf) (bytes : List ℕ) (old new : Listener) : Type 0 where
  pub has : HasListened checked viewer bytes new
  pub stays : StaysStarted old.ear new.ear

-- More bytes were read and heard, and the ear hears on.
pub record HearsMore (checked : CheckedOf) (was now : ViewerOf) (before after : Option (List ℕ))
    (old new : Listener) : Type 0 where
  pub more : List ℕ
  pub read : Consumes before after more
  pub sees : SeesMore was now
  pub mine : HasItsSlot was old → HasItsSlot now new
  pub heard : (bytes : List ℕ) → HasListened checked was bytes old → HearsOn checked now (bytes ++ more) old new
  pub started : HasStarted old → HasStarted new
  pub room : length new.piece.items ≡ length old.piece.items

-- Why it ended, by the bytes, by the response that it has to a refused start, and by what the source says of itself.
abbrev pub EndsFor : CheckedOf → BooksOf → List ℕ → Option (ℕ × ℕ) → List ℕ → Bool → Bool → ListenerEnd → Type 0
EndsFor checked known bytes started response failed ended listener_end.SourceFailed = failed ≡ true
EndsFor checked known bytes started response failed ended listener_end.SourceEnded = ended ≡ true
EndsFor checked known bytes started response failed ended (listener_end.Frame kind) = HasEnd (frames_in bytes) kind
EndsFor checked known bytes started response failed ended (listener_end.Fault fault) =
    Faults checked known bytes started response fault

-- what its client had sent if it started no stream: no whole frame, Terminate first, or a start that was refused
abbrev pub HasSentNone : List ℕ → ListenerEnd → Type 0
HasSentNone bytes listener_end.SourceFailed = IsSilent bytes
HasSentNone bytes listener_end.SourceEnded = IsSilent bytes
HasSentNone bytes (listener_end.Frame kind) = IsTerminated (frames_in bytes)
HasSentNone bytes (listener_end.Fault fault) = SentNone (frames_in bytes) fault

-- a start that was refused last
abbrev pub RefusesLast : CheckedOf → ViewerOf → List ℕ → Listener → ListenerEnd → Type 0
RefusesLast checked viewer bytes listener (listener_end.Fault fault) =
    RefusesNow checked viewer bytes listener (Err fault)
RefusesLast checked viewer bytes listener other = Unit {0}

pub record EndsOf (checked : CheckedOf) (viewer : ViewerOf) (bytes : List ℕ) (old new : Listener)
    (failed ended : Bool) (why : ListenerEnd) : Type 0 where
  pub asks : AsksIfStarted checked (books_seen viewer) (frames_in bytes) (ear_started new.ear)
  pub ends : EndsFor checked (books_seen viewer) bytes (ear_started new.ear) (ear_refusal new.ear) failed ended why
  pub stays : StaysStarted old.ear new.ear
  pub requested : SaysRequested bytes new
  pub reports : ReportsIf (ear_started new.ear) new.number viewer.events bytes (fault_by why) (ear_confirmed new.ear)
  pub none : ear_started new.ear ≡ None → HasSentNone bytes why
  pub refuses : RefusesLast checked viewer bytes new why
  pub holding : IsHolding viewer new

-- More bytes were read and heard, and the listener ended.
pub record HearsLast (checked : CheckedOf) (was now : ViewerOf) (before after : Option (List ℕ)) (failed ended : Bool)
    (old new : Listener) (why : ListenerEnd) : Type 0 where
  pub more : List ℕ
  pub read : Consumes before after more
  pub sees : SeesMore was now
  pub ends : (bytes : List ℕ) → HasListened checked was bytes old
      → EndsOf checked now (bytes ++ more) old new failed ended why

-- what comes of a piece
abbrev pub next_by_end : Bool → Option ℕ → Next
next_by_end was_over None = next.GoesOn was_over
next_by_end was_over (Some kind) = next.Ends (listener_end.Frame kind)

abbrev pub next_by : Bool → Result Heard LinkFault → Next
next_by was_over (Err fault) = next.Ends (listener_end.Fault fault)
next_by was_over (Ok heard) = next_by_end was_over heard.ended

abbrev pub next_after : Listened → Next
next_after listened = next_by listened.was_over listened.heard

-- One read: it goes on, where the connection had ended before or not, or ends.
abbrev pub HearsNext : CheckedOf → ViewerOf → ViewerOf → Option (List ℕ) → Option (List ℕ) → Bool → Bool → Listener
    → Listener → Next → Type 0
HearsNext checked was now before after failed ended old new (next.GoesOn was_over) =
    HearsMore checked was now before after old new
HearsNext checked was now before after failed ended old new (next.Ends why) =
    HearsLast checked was now before after failed ended old new why

-- All reads: it ends, or its sender had ended.
abbrev pub HearsAll : CheckedOf → ViewerOf → ViewerOf → Option (List ℕ) → Option (List ℕ) → Bool → Bool → Listener
    → Listener → Option ListenerEnd → Type 0
HearsAll checked was now before after failed ended old new None = HearsMore checked was now before after old new
HearsAll checked was now before after failed ended old new (Some why) =
    HearsLast checked was now before after failed ended old new why

-- Its listener ended for some reason.
abbrev pub HasEnded : Option ListenerEnd → Type 0
HasEnded why = (ending : ListenerEnd) × (why ≡ Some ending)

-- ---- until a stream starts

-- The stream started, and goes on.
pub record StartsOn (checked : CheckedOf) (was now : ViewerOf) (before after : Option (List ℕ)) (old new : Listener)
    (started : ℕ × ℕ) : Type 0 where
  pub hears : HearsMore checked was now before after old new
  pub started_is : ear_started new.ear ≡ Some started

-- The connection ended, with a stream or without.
pub record EndsAt (checked : CheckedOf) (was now : ViewerOf) (before after : Option (List ℕ)) (failed ended : Bool)
    (old new : Listener) (started : Option (ℕ × ℕ)) (why : ListenerEnd) : Type 0 where
  pub hears : HearsLast checked was now before after failed ended old new why
  pub started_is : ear_started new.ear ≡ started

abbrev pub BeginsAs : CheckedOf → ViewerOf → ViewerOf → Option (List ℕ) → Option (List ℕ) → Bool → Bool → Listener
    → Listener → Beginning → Type 0
BeginsAs checked was now before after failed ended old new (beginning.Started started permit) =
    StartsOn checked was now before after old new started
BeginsAs checked was now before after failed ended old new (beginning.Ended started why permit) =
    EndsAt checked was now before after failed ended old new (Some started) why
BeginsAs checked was now before after failed ended old new (beginning.Refused why) =
    EndsAt checked was now before after failed ended old new None why
