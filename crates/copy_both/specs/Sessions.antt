-- What the frames of a client do to what was agreed with it, and to a book ("55.4. Streaming Replication Protocol").
use Rattle.std.specs.Prelude.{◌≡◌, ℕ, ◌++◌, List, length, Option, Some, None, Result, Ok, Err}
use Rattle.std.specs.Arc.{arc_value}
use Rattle.shard_checker.specs.CheckedView.{CheckedOf, checked_view}
use Rattle.tables_log.specs.BookView.{book_log, book_slots}
use Rattle.tables_log.specs.Committing.{ChangesSlots}
use Rattle.tables_log.specs.Slots.{started}
use Rattle.tables_log.specs.declared.book.Book.{Book}
use Rattle.tables_log.specs.declared.error.StartError.{StartError}
use Rattle.tables_log.specs.declared.slots.Slot.{Slot}
use Rattle.copy_frames.specs.declared.frame.Frame.{Frame}
use Rattle.copy_both.specs.Hearing as h
use Rattle.copy_both.specs.Hearing.{ServedFrom, HeardOf, HearingOf, reported_heard, with_fault, BeginOf, begin_of, offer_in}
use Rattle.copy_both.specs.Refusals.{RefusalOf, state_of, error_response}
use Rattle.copy_both.specs.StartAnswers.{StartAnswerOf, asked_of}
use Rattle.copy_both.specs.StartOrder.{slot_name, book_refusal}
use Rattle.copy_both.specs.declared.heard.Heard.{Heard}
use Rattle.copy_both.specs.declared.hearing.Hearing.{Hearing}
use Rattle.copy_both.specs.declared.link_fault.LinkFault.{LinkFault}
use Rattle.copy_both.specs.declared.link_fault.LinkFault.TheVariants as fault
use Rattle.copy_both.specs.declared.session.Session.{Session}

abbrev pub session_checked : Session → CheckedOf
session_checked session = checked_view (arc_value session.checked)

abbrev pub served_by : Session → Book → ServedFrom
served_by session book = record { checked = session_checked session; commits = length (book_log book) }

abbrev pub heard_view : Hearing → HeardOf
heard_view hearing = record { started = hearing.started; replies = hearing.replies; ended = hearing.ended }

-- as it is reported to a caller
abbrev pub reported_hearing : Hearing → Heard
reported_hearing hearing = reported_heard (heard_view hearing)

abbrev pub reported_result : Result Hearing LinkFault → Result Heard LinkFault
reported_result (Ok hearing) = Ok (reported_hearing hearing)
reported_result (Err fault) = Err fault

abbrev pub hearing_view : Session → Hearing → Book → HearingOf
hearing_view session hearing book = record {
  started = session.started;
  heard = heard_view hearing;
  sent = hearing.sent;
  confirmed = session.confirmed;
  slots = book_slots book;
  response = session.response.items;
  fault = None;
}

-- ---- what stays

-- all but the slots
abbrev pub IsSameBook : Book → Book → Type 0
IsSameBook before after = ChangesSlots before after (book_slots after)

-- all but the response
pub record IsSameSession (old new : Session) : Type 0 where
  pub checked : session_checked new ≡ session_checked old
  pub started : new.started ≡ old.started
  pub confirmed : new.confirmed ≡ old.confirmed

pub record KeepsRest (old new : Session) (before after : Book) : Type 0 where
  pub checked : session_checked new ≡ session_checked old
  pub book : IsSameBook before after

-- ---- what a frame does

-- memory was refused, and nothing changed; or this fault is the expected result
abbrev pub FailsBy : LinkFault → HearingOf → HearingOf → HearingOf → Type 0
FailsBy fault.OutOfMemory expected old new = new ≡ old
FailsBy other expected old new = expected ≡ with_fault other new

abbrev pub Hears : HearingOf → HearingOf → HearingOf → Result (Unit {0}) LinkFault → Type 0
Hears expected old new (Ok done) = new ≡ expected
Hears expected old new (Err fault) = FailsBy fault expected old new

-- ---- the start of a stream

abbrev pub asked_in : Session → Book → Frame → StartAnswerOf
asked_in session book frame = asked_of (offer_in (served_by session book)) frame.kind frame.body

abbrev pub begin_in : Session → Book → Frame → BeginOf
begin_in session book frame = begin_of (served_by session book) (book_slots book) frame.kind frame.body

-- why the book does not start a stream from the slot
abbrev pub refused_by_book : Session → ℕ → StartError → RefusalOf
refused_by_book session slot error = book_refusal (slot_name (session_checked session).catalog.subscriptions slot) error

abbrev pub refusal_fault : BeginOf → Option LinkFault
refusal_fault (h.Begins slot start) = None
refusal_fault (h.Refuses refusal) = Some (fault.BadStart (state_of refusal))

abbrev pub response_after : List ℕ → BeginOf → List ℕ
response_after before (h.Begins slot start) = before
response_after before (h.Refuses refusal) = before ++ error_response refusal

-- the slot is acquired
pub record TakesSlot (expected : BeginOf) (before after : List Slot) (old new : List ℕ) (begun : ℕ × ℕ) : Type 0 where
  pub begins : expected ≡ h.Begins begun.0 begun.1
  pub slots : after ≡ started before begun.0
  pub response : new ≡ old

-- the start is refused with this fault, and its response is added
pub record IsRefused (expected : BeginOf) (before after : List Slot) (old new : List ℕ) (fault : LinkFault) : Type 0
  where
    pub fault_is : refusal_fault expected ≡ Some fault
    pub slots : after ≡ before
    pub response : new ≡ response_after old expected

pub record StaysSo (before after : List Slot) (old new : List ℕ) : Type 0 where
  pub slots : after ≡ before
  pub response : new ≡ old

abbrev pub FailsToBegin : LinkFault → BeginOf → List Slot → List Slot → List ℕ → List ℕ → Type 0
FailsToBegin fault.OutOfMemory expected before after old new = StaysSo before after old new
FailsToBegin other expected before after old new = IsRefused expected before after old new other

abbrev pub Begins : BeginOf → List Slot → List Slot → List ℕ → List ℕ → Result (ℕ × ℕ) LinkFault → Type 0
Begins expected before after old new (Ok begun) = TakesSlot expected before after old new begun
Begins expected before after old new (Err fault) = FailsToBegin fault expected before after old new
