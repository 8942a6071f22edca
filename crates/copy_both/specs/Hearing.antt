-- What the frames that a client sends do, one after another: the first one starts a stream or ends the connection; then
-- statuses confirm the log, until another frame ends the stream ("55.4. Streaming Replication Protocol").
use Rattle.std.specs.Prelude.{ℕ, ◌+◌, ◌^◌, ◌-◌, ◌==◌, min, max, nat_lt, Bool, true, false, if◌then◌else◌, List, [], ◌∷◌, ◌++◌, map, Option, Some, None, Result, Ok, Err}
use Rattle.shard_checker.specs.CheckedView.{CheckedOf}
use Rattle.tables_log.specs.Slots as slots
use Rattle.tables_log.specs.Lsn.{end_lsn_of}
use Rattle.tables_log.specs.Slots.{confirmed_at, start_fault, confirmed_up_to}
use Rattle.tables_log.specs.declared.error.StartError.{StartError}
use Rattle.tables_log.specs.declared.slots.Slot.{Slot}
use Rattle.copy_frames.specs.declared.fault.FrameFault.{FrameFault}
use Rattle.copy_frames.specs.declared.fault.FrameFault.TheVariants as frame
use Rattle.copy_frames.specs.declared.frame.Frame.{Frame}
use Rattle.copy_frames.specs.declared.status.Status.{Status}
use Rattle.copy_frames.specs.Frames.{cut, frames_of, fault_in}
use Rattle.copy_both.specs.Events.{event_of}
use Rattle.copy_both.specs.Refusals.{RefusalOf, state_of, error_response}
use Rattle.copy_both.specs.StartAnswers.{StartAnswerOf, Stream, Refused, asked_of}
use Rattle.copy_both.specs.StartOrder.{OfferOf, slot_name, book_refusal}
pub use Rattle.copy_both.specs.Streams.{first_sent}
use Rattle.copy_both.specs.declared.event.Event.{Event}
use Rattle.copy_both.specs.declared.event.Event.TheVariants as event
use Rattle.copy_both.specs.declared.heard.Heard.{Heard}
use Rattle.copy_both.specs.declared.link_fault.LinkFault.{LinkFault}
use Rattle.copy_both.specs.declared.link_fault.LinkFault.TheVariants as fault

-- what frames are checked against: the catalog, and how many commits the log has
pub record ServedFrom : Type 0 where
  pub checked : CheckedOf
  pub commits : ℕ

-- what has to be answered: where the stream starts, if it does; how many statuses request a reply; and the kind of the
-- frame that ended the connection
pub record HeardOf : Type 0 where
  pub started : Option ℕ
  pub replies : ℕ
  pub ended : Option ℕ

-- the result of the frames so far: the slot that streams and where the stream starts, what has to be answered, the sent
-- position, the greatest position that was confirmed, the slots of the book, the response to a start that is refused,
-- and the fault
pub record HearingOf : Type 0 where
  pub started : Option (ℕ × ℕ)
  pub heard : HeardOf
  pub sent : ℕ
  pub confirmed : ℕ
  pub slots : List Slot
  pub response : List ℕ
  pub fault : Option LinkFault

abbrev pub with_fault : LinkFault → HearingOf → HearingOf
with_fault fault h = record h { fault = Some fault }

abbrev pub ended_by : ℕ → HearingOf → HearingOf
ended_by kind h = record h { heard = record h.heard { ended = Some kind } }

-- ---- the first frame

-- whether a slot is in use is checked in the book, last
abbrev pub offer_in : ServedFrom → OfferOf
offer_in served = record {
  publications = map (λ p. p.name) served.checked.catalog.publications;
  subscriptions = served.checked.catalog.subscriptions;
  log_end = end_lsn_of served.commits;
  in_use = [];
}

-- a stream of this slot starts here, or the start is refused
pub data BeginOf : Type 0 where
  Begins : ℕ → ℕ → BeginOf
  Refuses : RefusalOf → BeginOf

abbrev pub unless_fault : Option StartError → ℕ → ℕ → List ℕ → BeginOf
unless_fault None slot start name = Begins slot start
unless_fault (Some error) slot start name = Refuses (book_refusal name error)

abbrev pub begin_by : ServedFrom → List Slot → StartAnswerOf → BeginOf
begin_by served slots (Refused refusal) = Refuses refusal
begin_by served slots (Stream slot position) =
    unless_fault (start_fault slots (end_lsn_of served.commits) slot position) slot
    (max position (confirmed_at slots slot))
    (slot_name served.checked.catalog.subscriptions slot)

unfoldable pub begin_of : ServedFrom → List Slot → ℕ → List ℕ → BeginOf
begin_of served slots kind body = begin_by served slots (asked_of (offer_in served) kind body)

abbrev pub begun : BeginOf → HearingOf → HearingOf
begun (Begins slot start) h = record h {
  started = Some (slot, start);
  heard = record h.heard { started = Some start };
  sent = first_sent start;
  slots = slots.started h.slots slot;
}
begun (Refuses refusal) h =
    record h { response = h.response ++ error_response refusal; fault = Some (fault.BadStart (state_of refusal)) }

-- Terminate, `X`, ends the connection
abbrev pub first_heard : ServedFrom → Frame → HearingOf → HearingOf
first_heard served frame h = if frame.kind == 88 then
    ended_by 88 h else begun (begin_of served h.slots frame.kind frame.body) h

-- ---- the next ones

abbrev pub one_more : Bool → ℕ → ℕ
one_more true replies = replies + 1
one_more false replies = replies

-- the flushed position is confirmed, if that much was sent and the log reaches it
abbrev pub confirmed_by : Bool → ℕ → Status → HearingOf → HearingOf
confirmed_by true slot status h = with_fault fault.StatusAhead h
confirmed_by false slot status h = record h {
  heard = record h.heard { replies = one_more status.wants_reply h.heard.replies };
  confirmed = max h.confirmed status.flushed;
  slots = confirmed_up_to h.slots slot status.flushed;
}

abbrev pub status_heard : ServedFrom → ℕ → Status → HearingOf → HearingOf
status_heard served slot status h =
    confirmed_by (nat_lt (min h.sent (end_lsn_of served.commits)) status.flushed) slot status h

abbrev pub event_heard : ServedFrom → ℕ → Result Event LinkFault → HearingOf → HearingOf
event_heard served slot (Err fault) h = with_fault fault h
event_heard served slot (Ok (event.End kind)) h = ended_by kind h
event_heard served slot (Ok (event.Status status)) h = status_heard served slot status h

abbrev pub next_heard : ServedFrom → Frame → Option (ℕ × ℕ) → HearingOf → HearingOf
next_heard served frame None h = first_heard served frame h
next_heard served frame (Some started) h = event_heard served started.0 (event_of frame.kind frame.body) h

-- ---- all frames: what comes after a fault or an end is not read

abbrev pub is_over_by : Option LinkFault → Option ℕ → Bool
is_over_by (Some fault) kind = true
is_over_by None (Some kind) = true
is_over_by None None = false

abbrev pub is_over : HearingOf → Bool
is_over h = is_over_by h.fault h.heard.ended

abbrev pub unless_over : Bool → HearingOf → HearingOf → HearingOf
unless_over true h next = h
unless_over false h next = next

abbrev pub frame_heard : ServedFrom → HearingOf → Frame → HearingOf
frame_heard served h frame = unless_over (is_over h) h (next_heard served frame h.started h)

unfoldable pub frames_heard : ServedFrom → HearingOf → List Frame → HearingOf
frames_heard served h [] = h
frames_heard served h (frame ∷ frames) = frames_heard served (frame_heard served h frame) frames

abbrev pub link_fault : FrameFault → LinkFault
link_fault frame.BadLength = fault.BadLength
link_fault frame.FrameTooLong = fault.FrameTooLong
link_fault frame.OutOfMemory = fault.OutOfMemory

-- the fault of a length comes after the frames before it
abbrev pub then_fault : Option FrameFault → HearingOf → HearingOf
then_fault None h = h
then_fault (Some fault) h = unless_over (is_over h) h (with_fault (link_fault fault) h)

-- all available bytes
abbrev pub bytes_heard : ServedFrom → ℕ → List ℕ → HearingOf → HearingOf
bytes_heard served limit bytes h =
    then_fault (fault_in limit bytes) (frames_heard served h (frames_of (cut limit bytes)))

-- ---- what is answered

-- as it is reported to a caller: a count of 32 bits is at most 4,294,967,295
abbrev pub reported_heard : HeardOf → Heard
reported_heard heard = record { started = heard.started; replies = min heard.replies (2 ^ 32 - 1); ended = heard.ended }

abbrev pub answer_by : Option LinkFault → Heard → Result Heard LinkFault
answer_by None heard = Ok heard
answer_by (Some fault) heard = Err fault

abbrev pub answer_of : HearingOf → Result Heard LinkFault
answer_of h = answer_by h.fault (reported_heard h.heard)
