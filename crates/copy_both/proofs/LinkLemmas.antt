-- Both halves of a link are in the same state after what was heard is answered, and what was heard of all of a piece
-- was heard of the first few frames.
use Rattle.std.proofs.Common.{◌≡◌, ◌≢◌, ℕ, Bool, true, false, List, [], ◌∷◌, ◌++◌, length, refl, sym, ap, ◌∙◌, subst, inl, inr}
use Rattle.std.specs.Prelude.{◌⊎◌, Option, Some, None, Result, Ok, Err, OnOk, OnErr, IsErrAnd, min, nat_lt}
use Rattle.std.proofs.Math.Seq.{take-length}
use Rattle.shard_checker.specs.CheckedView.{CheckedOf}
use Rattle.tables_log.specs.Lsn.{end_lsn_of}
use Rattle.tables_log.specs.declared.book.Book.{Book}
use Rattle.copy_frames.specs.Frames.{cut, frames_of, fault_in}
use Rattle.copy_frames.specs.Inboxes.{Inbox}
use Rattle.copy_frames.specs.declared.fault.FrameFault.{FrameFault}
use Rattle.copy_frames.specs.declared.frame.Frame.{Frame}
use Rattle.copy_frames.specs.declared.status.Status.{Status}
use Rattle.copy_both.specs.Ears.{ear_phase, ear_started, ear_heard, answer_in, HearLeaves, EarCloses}
use Rattle.copy_both.specs.Events.{event_of}
use Rattle.copy_both.specs.ConnectionStates.{Waits, Streams, IsOver, streams_by, heard_state, said_state}
use Rattle.copy_both.specs.Hearing.{HeardOf, HearingOf, reported_heard, ServedFrom, is_over, unless_over, with_fault, confirmed_by, event_heard, next_heard, frame_heard, frames_heard, then_fault, link_fault}
use Rattle.copy_both.specs.Links.{begun_stage, ended_stage, stage_by}
use Rattle.copy_both.specs.Listening.{silence, held_frames, fed, piece_heard, part_heard, Leaves}
use Rattle.copy_both.specs.Phases.{phase_by, phase_closed}
use Rattle.copy_both.specs.Sessions.{served_by, hearing_view}
use Rattle.copy_both.specs.Voices as voices
use Rattle.copy_both.specs.Voices.{StageOf, Sends, Closes, voice_stage}
use Rattle.copy_both.specs.declared.ear.Ear.{Ear}
use Rattle.copy_both.specs.declared.event.Event.{Event}
use Rattle.copy_both.specs.declared.event.Event.TheVariants as event
use Rattle.copy_both.specs.declared.heard.Heard.{Heard}
use Rattle.copy_both.specs.declared.link_fault.LinkFault.{LinkFault}
use Rattle.copy_both.specs.declared.link_fault.LinkFault.TheVariants as fault
use Rattle.copy_both.specs.declared.phase.Phase.{Phase}
use Rattle.copy_both.specs.declared.phase.Phase.TheVariants as phase
use Rattle.copy_both.specs.declared.session.Session.{Session}
use Rattle.copy_both.specs.declared.sql_state.SqlState.{SqlState}
use Rattle.copy_both.specs.declared.voice.Voice.{Voice}

-- ---- a stream that was started stays so

confirmed_started : (ahead : Bool) (slot : ℕ) (status : Status) (h : HearingOf)
    → (confirmed_by ahead slot status h).started ≡ h.started
confirmed_started true slot status h = refl
confirmed_started false slot status h = refl

event_started : (served : ServedFrom) (slot : ℕ) (e : Result Event LinkFault) (h : HearingOf)
    → (event_heard served slot e h).started ≡ h.started
event_started served slot (Err fault) h = refl
event_started served slot (Ok (event.End kind)) h = refl
event_started served slot (Ok (event.Status status)) h =
    confirmed_started (nat_lt (min h.sent (end_lsn_of served.commits)) status.flushed) slot status h

over_started : (over : Bool) (h next : HearingOf) → next.started ≡ h.started
    → (unless_over over h next).started ≡ h.started
over_started true h next same = refl
over_started false h next same = same

pub frame_started : (served : ServedFrom) (h : HearingOf) (frame : Frame) (s : ℕ × ℕ) → h.started ≡ Some s
    → (frame_heard served h frame).started ≡ Some s
frame_started served h frame s is =
    over_started (is_over h) h (next_heard served frame h.started h)
    (ap (λ (o : Option (ℕ × ℕ)). (next_heard served frame o h).started) is
    ∙ event_started served s.0 (event_of frame.kind frame.body) h)
    ∙ is

-- nor does a frame then change what was sent

confirmed_sent : (ahead : Bool) (slot : ℕ) (status : Status) (h : HearingOf)
    → (confirmed_by ahead slot status h).sent ≡ h.sent
confirmed_sent true slot status h = refl
confirmed_sent false slot status h = refl

event_sent : (served : ServedFrom) (slot : ℕ) (e : Result Event LinkFault) (h : HearingOf)
    → (event_heard served slot e h).sent ≡ h.sent
event_sent served slot (Err fault) h = refl
event_sent served slot (Ok (event.End kind)) h = refl
event_sent served slot (Ok (event.Status status)) h =
    confirmed_sent (nat_lt (min h.sent (end_lsn_of served.commits)) status.flushed) slot status h

over_sent : (over : Bool) (h next : HearingOf) → next.sent ≡ h.sent → (unless_over over h next).sent ≡ h.sent
over_sent true h next same = refl
over_sent false h next same = same

pub frame_sent : (served : ServedFrom) (h : HearingOf) (frame : Frame) (s : ℕ × ℕ) → h.started ≡ Some s
    → (frame_heard served h frame).sent ≡ h.sent
frame_sent served h frame s is =
    over_sent (is_over h) h (next_heard served frame h.started h)
    (ap (λ (o : Option (ℕ × ℕ)). (next_heard served frame o h).sent) is
    ∙ event_sent served s.0 (event_of frame.kind frame.body) h)

pub frames_started : (served : ServedFrom) (h : HearingOf) (frames : List Frame) (s : ℕ × ℕ) → h.started ≡ Some s
    → (frames_heard served h frames).started ≡ Some s
unfolding frames_heard
frames_started served h [] s is = is
frames_started served h (frame ∷ frames) s is =
    frames_started served (frame_heard served h frame) frames s (frame_started served h frame s is)

pub fault_started : (fault : Option FrameFault) (h : HearingOf) → (then_fault fault h).started ≡ h.started
fault_started None h = refl
fault_started (Some fault) h = over_started (is_over h) h (with_fault (link_fault fault) h) refl

pub stays_started : (session : Session) (book : Book) (inbox : Inbox) (piece : List ℕ) (sent : ℕ) (s : ℕ × ℕ)
    → session.started ≡ Some s
    → (piece_heard session book inbox piece sent).started ≡ Some s
stays_started session book inbox piece sent s is =
    let served : ServedFrom = served_by session book in
    let start : HearingOf = hearing_view session (silence sent) book in
    let frames : List Frame = frames_of (cut inbox.limit (inbox.bytes ++ piece)) in
    fault_started (fault_in inbox.limit (inbox.bytes ++ piece)) (frames_heard served start frames)
    ∙ frames_started served start frames s is

-- ---- both halves

begun_with : (checked : CheckedOf) (stage : StageOf) (old new : Option (ℕ × ℕ)) → streams_by old ≡ said_state stage
    → ((s : ℕ × ℕ) → old ≡ Some s → new ≡ Some s) → streams_by new ≡ said_state (begun_stage checked stage new)
begun_with checked voices.NotStarted old None together stays = refl
begun_with checked voices.NotStarted old (Some started) together stays = refl
begun_with checked (voices.Started state) None new together stays = absurd cc
begun_with checked (voices.Started state) (Some s) new together stays = ap streams_by (stays s refl) ∙ together
begun_with checked voices.Closed None new together stays = absurd cc
begun_with checked voices.Closed (Some s) new together stays = absurd cc

pub ended_with : (checked : CheckedOf) (stage : StageOf) (old new : Option (ℕ × ℕ)) (ended : Option ℕ)
    → streams_by old ≡ said_state stage
    → ((s : ℕ × ℕ) → old ≡ Some s → new ≡ Some s)
    → heard_state (phase_by ended) new ≡ said_state (ended_stage ended (begun_stage checked stage new))
ended_with checked stage old new None together stays = begun_with checked stage old new together stays
ended_with checked stage old new (Some kind) together stays = refl

pub not_closed : (stage : StageOf) (started : Option (ℕ × ℕ)) → streams_by started ≡ said_state stage
    → stage ≢ voices.Closed
not_closed stage None together closed = let over : Waits ≡ IsOver = together ∙ ap said_state closed in absurd cc
not_closed stage (Some s) together closed = let over : Streams s.0 ≡ IsOver = together ∙ ap said_state closed in
    absurd cc

-- ---- all frames are the first few

leaves_over : (over : Bool) (fault : LinkFault) (old new : Session) (before after : Book) (h : HearingOf)
    → Leaves old new before after (unless_over over h (with_fault fault h)) → Leaves old new before after h
leaves_over true fault old new before after h leaves = leaves
leaves_over false fault old new before after h leaves =
    record {
      checked = leaves.checked;
      started = leaves.started;
      confirmed = leaves.confirmed;
      response = leaves.response;
      book = leaves.book;
    }

leaves_then : (fault : Option FrameFault) (old new : Session) (before after : Book) (h : HearingOf)
    → Leaves old new before after (then_fault fault h) → Leaves old new before after h
leaves_then None old new before after h leaves = leaves
leaves_then (Some fault) old new before after h leaves =
    leaves_over (is_over h) (link_fault fault) old new before after h leaves

pub all_is_part : (old new : Session) (before after : Book) (inbox : Inbox) (piece : List ℕ) (sent : ℕ)
    → Leaves old new before after (piece_heard old before inbox piece sent)
    → (count : ℕ) × Leaves old new before after (part_heard count old before inbox piece sent)
all_is_part old new before after inbox piece sent leaves =
    let served : ServedFrom = served_by old before in
    let start : HearingOf = hearing_view old (silence sent) before in
    let frames : List Frame = held_frames (fed inbox piece) in (
      length frames,
      subst (λ (some : List Frame). Leaves old new before after (frames_heard served start some))
          (sym (take-length frames))
          (leaves_then (fault_in inbox.limit (inbox.bytes ++ piece)) old new before after
          (frames_heard served start frames) leaves),
    )

-- ---- hear

closed_by : (ended : Option ℕ) → phase_closed (phase_by ended) ≡ phase.Closed
closed_by None = refl
closed_by (Some kind) = refl

together_in : (p : Phase) (checked : CheckedOf) (old new : Ear) (before after : Book) (piece : List ℕ) (sent : ℕ)
    (heard : HeardOf) (stage last : StageOf)
    → answer_in p (ear_heard old before piece sent) ≡ Ok (reported_heard heard)
    → HearLeaves p old new before after piece sent (Ok (reported_heard heard))
    → heard_state p (ear_started old) ≡ said_state stage → last ≡ stage_by checked stage (ear_started new) heard
    → heard_state (ear_phase new) (ear_started new) ≡ said_state last
together_in phase.Open checked old new before after piece sent heard stage last answer left together is =
    let stays : (s : ℕ × ℕ) → ear_started old ≡ Some s → ear_started new ≡ Some s =
    λ s so. left.leaves.started ∙ stays_started old.session before old.frames piece sent s so in
    ap (λ (p : Phase). heard_state p (ear_started new)) left.phase_is
    ∙ ended_with checked stage (ear_started old) (ear_started new) heard.ended together stays ∙ ap said_state (sym is)
together_in phase.Closed checked old new before after piece sent heard stage last answer left together is = absurd cc
together_in phase.Lost checked old new before after piece sent heard stage last answer left together is = absurd cc

-- after what was heard was answered
pub together_after : (checked : CheckedOf) (old new : Ear) (before after : Book) (piece : List ℕ) (sent : ℕ)
    (heard : HeardOf) (stage last : StageOf)
    → answer_in (ear_phase old) (ear_heard old before piece sent) ≡ Ok (reported_heard heard)
    → HearLeaves (ear_phase old) old new before after piece sent (Ok (reported_heard heard))
    → heard_state (ear_phase old) (ear_started old) ≡ said_state stage
    → last ≡ stage_by checked stage (ear_started new) heard
    → heard_state (ear_phase new) (ear_started new) ≡ said_state last
together_after checked old new before after piece sent heard stage last =
    together_in (ear_phase old) checked old new before after piece sent heard stage last

-- what was started is what was heard
started_in : (p : Phase) (old new : Ear) (before after : Book) (piece : List ℕ) (sent : ℕ) (heard : Heard)
    → answer_in p (ear_heard old before piece sent) ≡ Ok heard
    → HearLeaves p old new before after piece sent (Ok heard)
    → ear_started new ≡ (ear_heard old before piece sent).started
started_in phase.Open old new before after piece sent heard answer left = left.leaves.started
started_in phase.Closed old new before after piece sent heard answer left = absurd cc
started_in phase.Lost old new before after piece sent heard answer left = absurd cc

-- so the answers to what was heard are sent for all that was heard
module _ (P : Option (ℕ × ℕ) → HeardOf → Type 0) (old new : Ear) (before after : Book) (piece : List ℕ)
    (heard : HeardOf) (started : Option (ℕ × ℕ)) where
  pub of_all_heard : (sent its : ℕ) → sent ≡ its
      → answer_in (ear_phase old) (ear_heard old before piece sent) ≡ Ok (reported_heard heard)
      → HearLeaves (ear_phase old) old new before after piece sent (Ok (reported_heard heard))
      → heard ≡ (ear_heard old before piece sent).heard → started ≡ ear_started new
      → P started heard → P (ear_heard old before piece its).started (ear_heard old before piece its).heard
  of_all_heard sent its same answer left exact is so =
      let At : ℕ → Type 0 = λ n. P (ear_heard old before piece n).started (ear_heard old before piece n).heard in
      subst At same
      (subst (λ (k : HeardOf). P (ear_heard old before piece sent).started k) exact
      (subst (λ (s : Option (ℕ × ℕ)). P s heard)
      (is ∙ started_in (ear_phase old) old new before after piece sent (reported_heard heard) answer left) so))

-- an ear that has ended hears nothing
pub ended_answers : (p : Phase) (h : HearingOf) → (p ≡ phase.Closed) ⊎ (p ≡ phase.Lost)
    → answer_in p h ≡ Err fault.Closed
ended_answers phase.Open h (inl closed) = absurd cc
ended_answers phase.Open h (inr lost) = absurd cc
ended_answers phase.Closed h ended = refl
ended_answers phase.Lost h ended = refl

-- an ear that met a fault is over
pub over_after : (p : Phase) (old new : Ear) (before after : Book) (piece : List ℕ) (sent : ℕ) (f : LinkFault)
    → ear_phase old ≡ p
    → HearLeaves p old new before after piece sent (Err f) → heard_state (ear_phase new) (ear_started new) ≡ IsOver
over_after phase.Open old new before after piece sent f is left =
    ap (λ (q : Phase). heard_state q (ear_started new)) left.phase_is
over_after phase.Closed old new before after piece sent f is left =
    ap (λ (q : Phase). heard_state q (ear_started new)) (left.ear.phase_is ∙ is)
over_after phase.Lost old new before after piece sent f is left =
    ap (λ (q : Phase). heard_state q (ear_started new)) (left.ear.phase_is ∙ is)

-- the voice is closed, whether memory for the response was refused or not
pub refused_closed : {E : Type 0} (result : Result (Unit {0}) E) (old new : Voice) (bytes : List ℕ)
    → OnOk result (Sends old new bytes voices.Closed) → OnErr result (Closes old new)
    → voice_stage new ≡ voices.Closed
refused_closed (Ok done) old new bytes says closes = says.stage_is
refused_closed (Err error) old new bytes says closes = closes.stage_is

-- an ear that returns anything else hears
pub hears_still : (p : Phase) (h : HearingOf) (result : Result Heard LinkFault) → answer_in p h ≡ result
    → result ≢ Err fault.Closed → p ≡ phase.Open
hears_still phase.Open h result is other = refl
hears_still phase.Closed h result is other = absurd (other (sym is))
hears_still phase.Lost h result is other = absurd (other (sym is))

-- memory for the response was refused
pub unanswered : (p : Phase) (old new : Ear) (before after : Book) (piece : List ℕ) (sent : ℕ) (state : SqlState)
    → HearLeaves p old new before after piece sent (Err (fault.BadStart state))
    → HearLeaves p old new before after piece sent (Err fault.OutOfMemory)
unanswered phase.Open old new before after piece sent state left = record {
  leaves = all_is_part old.session new.session before after old.frames piece sent left.leaves;
  phase_is = left.phase_is;
  holds = tt;
}
unanswered phase.Closed old new before after piece sent state left = left
unanswered phase.Lost old new before after piece sent state left = left

leaves_closed : (old mid new : Ear) (before after : Book) (h : HearingOf)
    → Leaves old.session mid.session before after h → EarCloses mid new
    → Leaves old.session new.session before after h
leaves_closed old mid new before after h leaves closes = record {
  checked = closes.checked ∙ leaves.checked;
  started = closes.started ∙ leaves.started;
  confirmed = closes.confirmed ∙ leaves.confirmed;
  response = closes.refusal ∙ leaves.response;
  book = leaves.book;
}

-- memory for an answer was refused
pub unsaid : (p : Phase) (old mid new : Ear) (before after : Book) (piece : List ℕ) (sent : ℕ) (heard : Heard)
    → answer_in p (ear_heard old before piece sent) ≡ Ok heard
    → HearLeaves p old mid before after piece sent (Ok heard) → EarCloses mid new
    → HearLeaves p old new before after piece sent (Err fault.OutOfMemory)
unsaid phase.Open old mid new before after piece sent heard answer left closes = record {
  leaves =
      all_is_part old.session new.session before after old.frames piece sent
      (leaves_closed old mid new before after (piece_heard old.session before old.frames piece sent) left.leaves
      closes);
  phase_is = closes.phase_is ∙ ap phase_closed left.phase_is ∙ closed_by heard.ended;
  holds = tt;
}
unsaid phase.Closed old mid new before after piece sent heard answer left closes = absurd cc
unsaid phase.Lost old mid new before after piece sent heard answer left closes = absurd cc

pub only_memory : {A : Type 0} (result : Result A LinkFault)
    → IsErrAnd result (λ (f : LinkFault). f ≡ fault.OutOfMemory) → result ≡ Err fault.OutOfMemory
only_memory (Ok value) so = absurd so
only_memory (Err f) so = ap Err so
