-- What an ear has heard of all bytes since its first, in whatever pieces they came: which frame started the stream,
-- which has a fault, and which ended the connection ("55.4. Streaming Replication Protocol", "55.7. Message
-- Formats").
use Rattle.std.specs.Prelude.{◌≡◌, ◌<◌, ◌≤◌, ◌⊎◌, ℕ, ◌==◌, min, Bool, true, false, List, [], ◌∷◌, ◌++◌, Contains, length, slice_get, Option, Some, None, Result, Ok, Err, IfErr}
use Rattle.filter_tree.specs.Memory.{Answers}
use Rattle.shard_checker.specs.CheckedView.{CheckedOf}
use Rattle.tables_log.specs.BookView.{book_checked, book_log, book_slots}
use Rattle.tables_log.specs.Lsn.{end_lsn_of}
use Rattle.tables_log.specs.Slots.{AreInUse, confirmed_at}
use Rattle.tables_log.specs.StandsFor.{Transaction, StandsFor}
use Rattle.tables_log.specs.declared.book.Book.{Book}
use Rattle.tables_log.specs.declared.slots.Slot.{Slot}
use Rattle.copy_frames.specs.Contents.{status_in}
use Rattle.copy_frames.specs.Frames.{cut, frames_of, rest_of, fault_in}
use Rattle.copy_frames.specs.declared.fault.FrameFault.TheVariants as frame
use Rattle.copy_frames.specs.declared.frame.Frame.{Frame}
use Rattle.copy_frames.specs.declared.status.Status.{Status}
use Rattle.copy_both.specs.Ears.{ear_checked, ear_phase, ear_started, ear_held, ear_refusal, hear_answer, HearLeaves}
use Rattle.copy_both.specs.Events.{event_of, is_end}
use Rattle.copy_both.specs.Hearing.{BeginOf, Begins, Refuses, begin_of}
use Rattle.copy_both.specs.Refusals.{RefusalOf, state_of, error_response}
use Rattle.copy_both.specs.StartAnswers.{Stream, asked_of}
use Rattle.copy_both.specs.StartOrder.{OfferOf}
use Rattle.copy_both.specs.Streams.{first_sent}
use Rattle.copy_both.specs.Voices.{reported_fault}
use Rattle.copy_both.specs.declared.ear.Ear.{Ear}
use Rattle.copy_both.specs.declared.heard.Heard.{Heard}
use Rattle.copy_both.specs.declared.link_fault.LinkFault.{LinkFault}
use Rattle.copy_both.specs.declared.link_fault.LinkFault.TheVariants as fault
use Rattle.copy_both.specs.declared.phase.Phase.TheVariants as phase
use Rattle.copy_both.specs.declared.sql_state.SqlState.{SqlState}

-- the length of a frame towards the publisher is at most 65,536
abbrev pub frames_in : List ℕ → List Frame
frames_in bytes = frames_of (cut 65536 bytes)

pub record IsFirst (frame : Frame) (frames : List Frame) : Type 0 where
  pub others : List Frame
  pub frames_are : frames ≡ frame ∷ others

pub record IsAmong (frame : Frame) (frames : List Frame) : Type 0 where
  pub before : List Frame
  pub after : List Frame
  pub frames_are : frames ≡ before ++ frame ∷ after

-- it is not the first
pub record IsLater (frame : Frame) (frames : List Frame) : Type 0 where
  pub first : Frame
  pub others : List Frame
  pub frames_are : frames ≡ first ∷ others
  pub among : IsAmong frame others

-- ---- the start

-- which books a publisher has had: their transactions are a beginning of this log, no fewer than this, and the slots
-- that streams used are those by one of these tests of a slot's number
pub record BooksOf : Type 0 where
  pub log : List Transaction
  pub least : ℕ
  pub uses : List (ℕ → Bool)

-- the first transactions of the log
pub record IsBeginning (log transactions : List Transaction) : Type 0 where
  pub later : List Transaction
  pub log_is : log ≡ transactions ++ later

-- the book is of the checked catalog, with a slot for each subscription, and is one of those that the publisher has had
pub record IsBookFor (checked : CheckedOf) (known : BooksOf) (book : Book) : Type 0 where
  pub named : book_checked book ≡ checked
  pub each : length (book_slots book) ≡ length checked.catalog.subscriptions
  pub transactions : List Transaction
  pub stands : StandsFor book transactions
  pub begins : IsBeginning known.log transactions
  pub enough : known.least ≤ length transactions
  pub used : ℕ → Bool
  pub among : Contains known.uses used
  pub slots_are : AreInUse used (book_slots book)

-- whether the book starts the stream that the frame requests: at the requested position, or at the slot's confirmed one
-- if that is later
abbrev pub begin_with : CheckedOf → Book → Frame → BeginOf
begin_with checked book frame =
    begin_of (record { checked = checked; commits = length (book_log book) }) (book_slots book) frame.kind frame.body

-- the first frame is a Query by which the publisher's book, as it was then, starts the stream of this slot here
pub record AsksFor (checked : CheckedOf) (known : BooksOf) (frames : List Frame) (slot start : ℕ) : Type 0 where
  pub frame : Frame
  pub first : IsFirst frame frames
  pub query : frame.kind ≡ 81
  pub book : Book
  pub is : IsBookFor checked known book
  pub begins : begin_with checked book frame ≡ Begins slot start

-- the first frame requests the stream of this slot from this position on
pub record Requests (frames : List Frame) (slot position : ℕ) : Type 0 where
  pub frame : Frame
  pub first : IsFirst frame frames
  pub offer : OfferOf
  pub asks : asked_of offer frame.kind frame.body ≡ Stream slot position

abbrev pub AsksIfStarted : CheckedOf → BooksOf → List Frame → Option (ℕ × ℕ) → Type 0
AsksIfStarted checked known frames None = Unit {0}
AsksIfStarted checked known frames (Some started) = AsksFor checked known frames started.0 started.1

-- before the start there is no whole frame
abbrev pub IsStartedBy : CheckedOf → BooksOf → List Frame → Option (ℕ × ℕ) → Type 0
IsStartedBy checked known frames None = frames ≡ []
IsStartedBy checked known frames (Some started) = AsksFor checked known frames started.0 started.1

-- an ear that has heard these bytes, and still hears
pub record HasHeard (checked : CheckedOf) (known : BooksOf) (bytes : List ℕ) (ear : Ear) : Type 0 where
  pub checked_is : ear_checked ear ≡ checked
  pub phase_is : ear_phase ear ≡ phase.Open
  pub held : ear_held ear ≡ rest_of (cut 65536 bytes)
  pub good : fault_in 65536 bytes ≡ None
  pub started : IsStartedBy checked known (frames_in bytes) (ear_started ear)

-- ---- the end

-- Terminate, `X`, before the start; or CopyDone, CopyFail or Terminate after it
pub data HasEnd (frames : List Frame) (kind : ℕ) : Type 0 where
  Terminates : (frame : Frame) → IsFirst frame frames → frame.kind ≡ kind → kind ≡ 88 → HasEnd frames kind
  Ends : (frame : Frame) → IsLater frame frames → frame.kind ≡ kind → is_end kind ≡ true → HasEnd frames kind

-- the first frame is Terminate, `X`
pub record IsTerminated (frames : List Frame) : Type 0 where
  pub frame : Frame
  pub first : IsFirst frame frames
  pub kind_is : frame.kind ≡ 88

-- ---- faults

-- a frame after the first has this fault
pub record HasBadFrame (frames : List Frame) (f : LinkFault) : Type 0 where
  pub frame : Frame
  pub later : IsLater frame frames
  pub fails : event_of frame.kind frame.body ≡ Err f

-- the first frame is not Terminate, `X`, and its start is refused with this by the publisher's book, as it was then
pub record IsRefusedStart (checked : CheckedOf) (known : BooksOf) (frames : List Frame) (state : SqlState) : Type 0
  where
    pub frame : Frame
    pub first : IsFirst frame frames
    pub book : Book
    pub is : IsBookFor checked known book
    pub refusal : RefusalOf
    pub no_end : frame.kind == 88 ≡ false
    pub refuses : begin_with checked book frame ≡ Refuses refusal
    pub state_is : state_of refusal ≡ state

-- this is the ErrorResponse of its refusal
pub record IsAnsweredStart (checked : CheckedOf) (known : BooksOf) (frames : List Frame) (state : SqlState)
    (response : List ℕ) : Type 0 where
  pub refused : IsRefusedStart checked known frames state
  pub response_is : response ≡ error_response refused.refusal

-- a start that is refused has this response
abbrev pub IsAnswered : CheckedOf → BooksOf → List Frame → List ℕ → LinkFault → Type 0
IsAnswered checked known frames response (fault.BadStart state) = IsAnsweredStart checked known frames state response
IsAnswered checked known frames response other = Unit {0}

-- CopyData, `d`, with `r` and this status
pub record IsStatus (frame : Frame) (status : Status) : Type 0 where
  pub data_is : frame.kind ≡ 100
  pub head : slice_get frame.body 0 ≡ Some 114
  pub read : status_in frame.body ≡ Some status

-- the flushed position of a status is after this
pub record HasStatusAhead (frames : List Frame) (reach : ℕ) : Type 0 where
  pub frame : Frame
  pub later : IsLater frame frames
  pub status : Status
  pub is_status : IsStatus frame status
  pub ahead : reach < status.flushed

-- a status after the first frame confirms the log up to here
pub record HasStatus (frames : List Frame) (position : ℕ) : Type 0 where
  pub frame : Frame
  pub later : IsLater frame frames
  pub status : Status
  pub is_status : IsStatus frame status
  pub flushed_is : status.flushed ≡ position

-- what a fault says about the bytes, if statuses may confirm up to here
abbrev pub HasLinkFault : CheckedOf → BooksOf → List ℕ → ℕ → LinkFault → Type 0
HasLinkFault checked known bytes reach fault.FrameTooLong = fault_in 65536 bytes ≡ Some frame.FrameTooLong
HasLinkFault checked known bytes reach fault.BadLength =
    (fault_in 65536 bytes ≡ Some frame.BadLength) ⊎ HasBadFrame (frames_in bytes) fault.BadLength
HasLinkFault checked known bytes reach (fault.Unexpected byte) = HasBadFrame (frames_in bytes) (fault.Unexpected byte)
HasLinkFault checked known bytes reach (fault.BadStart state) = IsRefusedStart checked known (frames_in bytes) state
HasLinkFault checked known bytes reach fault.StatusAhead = HasStatusAhead (frames_in bytes) reach
HasLinkFault checked known bytes reach fault.Closed = ⊥
HasLinkFault checked known bytes reach fault.OutOfMemory = Unit {0}

-- the sent position that statuses are checked against, by what was started before and after a piece
abbrev pub sent_then : Option (ℕ × ℕ) → ℕ → Option (ℕ × ℕ) → ℕ
sent_then (Some started) sent now = sent
sent_then None sent None = sent
sent_then None sent (Some started) = first_sent started.1

abbrev pub reach_of : Ear → Ear → Book → ℕ → ℕ
reach_of old new book sent =
    min (sent_then (ear_started old) sent (ear_started new)) (end_lsn_of (length (book_log book)))

-- what was sent before any stream if this fault ended it: no whole frame, unless a start was refused, or memory was
abbrev pub SentNone : List Frame → LinkFault → Type 0
SentNone frames (fault.BadStart state) = Unit {0}
SentNone frames fault.OutOfMemory = Unit {0}
SentNone frames other = frames ≡ []

-- ---- a piece

-- an ear that hears on, or ended by a frame, which is a Terminate before any other if no stream was started
abbrev pub GoesOnOrEnds : CheckedOf → BooksOf → List ℕ → Ear → Option ℕ → Type 0
GoesOnOrEnds checked known bytes ear None = HasHeard checked known bytes ear
GoesOnOrEnds checked known bytes ear (Some kind) =
    HasEnd (frames_in bytes) kind × (ear_started ear ≡ None → IsTerminated (frames_in bytes))

abbrev pub Explains : CheckedOf → BooksOf → List ℕ → Ear → ℕ → Result Heard LinkFault → Type 0
Explains checked known bytes ear reach (Ok heard) = GoesOnOrEnds checked known bytes ear heard.ended
Explains checked known bytes ear reach (Err f) = HasLinkFault checked known bytes reach f

-- the start that is reported for a piece: that of the stream that it started
abbrev pub reported_start : Option (ℕ × ℕ) → Option (ℕ × ℕ) → Option ℕ
reported_start (Some started) now = None
reported_start None None = None
reported_start None (Some started) = Some started.1

abbrev pub TellsStart : Option (ℕ × ℕ) → Option (ℕ × ℕ) → Result Heard LinkFault → Type 0
TellsStart was now (Ok heard) = heard.started ≡ reported_start was now
TellsStart was now (Err f) = Unit {0}

-- with the piece the ear has heard these bytes: a stream that started stays so, one is started as its command requests
-- and reported, the answer is explained by the bytes, and a start that is refused has its response
pub record HasHeardOn (checked : CheckedOf) (known : BooksOf) (bytes : List ℕ) (old new : Ear) (before : Book)
    (sent : ℕ) (result : Result Heard LinkFault) : Type 0 where
  pub stays : (started : ℕ × ℕ) → ear_started old ≡ Some started → ear_started new ≡ Some started
  pub asks : AsksIfStarted checked known (frames_in bytes) (ear_started new)
  pub tells : TellsStart (ear_started old) (ear_started new) result
  pub explains : Explains checked known bytes new (reach_of old new before sent) result
  pub answered : IfErr result (IsAnswered checked known (frames_in bytes) (ear_refusal new))
  pub none : ear_started new ≡ None → IfErr result (SentNone (frames_in bytes))

-- ---- laws

abbrev pub NothingIsHeard : Type 0
NothingIsHeard = (known : BooksOf) (ear : Ear) → ear_phase ear ≡ phase.Open → ear_started ear ≡ None → ear_held ear ≡ []
    → HasHeard (ear_checked ear) known [] ear

abbrev pub PiecesAreHeard : Type 0
PiecesAreHeard = (checked : CheckedOf) (known : BooksOf) (bytes piece : List ℕ) (old new : Ear) (before after : Book)
    (sent : ℕ) (result : Result Heard LinkFault)
    → HasHeard checked known bytes old → IsBookFor checked known before
    → Answers (λ heard. heard) reported_fault (hear_answer old before piece sent) result
    → HearLeaves (ear_phase old) old new before after piece sent result
    → HasHeardOn checked known (bytes ++ piece) old new before sent result

-- with the piece a stream starts, after the position up to which its slot was confirmed: that is the requested one
abbrev pub LateStartsAreRequested : Type 0
LateStartsAreRequested = (checked : CheckedOf) (known : BooksOf) (bytes piece : List ℕ) (old new : Ear)
    (before after : Book) (sent : ℕ) (result : Result Heard LinkFault)
    → HasHeard checked known bytes old → IsBookFor checked known before
    → HearLeaves (ear_phase old) old new before after piece sent result
    → ear_started old ≡ None → (slot start : ℕ) → ear_started new ≡ Some (slot, start)
    → confirmed_at (book_slots before) slot < start → Requests (frames_in (bytes ++ piece)) slot start

-- a slot is confirmed as it was, or up to the position of a status on the connection of its stream
pub data ConfirmsAs (frames : List Frame) (started : Option (ℕ × ℕ)) (before after : List Slot) (slot : ℕ) : Type 0
  where
    Stays : confirmed_at after slot ≡ confirmed_at before slot → ConfirmsAs frames started before after slot
    Confirms : (start : ℕ) → started ≡ Some (slot, start) → HasStatus frames (confirmed_at after slot)
        → ConfirmsAs frames started before after slot

-- with the piece only the slot of the stream is confirmed, and only up to where a status says
abbrev pub StatusesConfirm : Type 0
StatusesConfirm = (checked : CheckedOf) (known : BooksOf) (bytes piece : List ℕ) (old new : Ear)
    (before after : Book) (sent : ℕ) (result : Result Heard LinkFault)
    → HasHeard checked known bytes old → HearLeaves (ear_phase old) old new before after piece sent result → (slot : ℕ)
    → ConfirmsAs (frames_in (bytes ++ piece)) (ear_started new) (book_slots before) (book_slots after) slot
