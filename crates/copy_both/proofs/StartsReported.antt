-- The start that is reported for a piece is that of the stream that it started.
use Rattle.std.proofs.Common.{◌≡◌, ℕ, ◌==◌, Bool, true, false, if◌then◌else◌, List, [], ◌∷◌, refl, sym, ap, subst, ◌∙◌}
use Rattle.std.specs.Prelude.{Option, Some, None, Result, Ok, Err, min, nat_lt}
use Rattle.tables_log.specs.Lsn.{end_lsn_of}
use Rattle.copy_frames.specs.declared.fault.FrameFault.{FrameFault}
use Rattle.copy_frames.specs.declared.frame.Frame.{Frame}
use Rattle.copy_frames.specs.declared.status.Status.{Status}
use Rattle.copy_both.specs.Events.{event_of}
use Rattle.copy_both.specs.HeardFrames.{reported_start}
use Rattle.copy_both.specs.Hearing.{BeginOf, Begins, Refuses, begin_of, begun, confirmed_by, ended_by, event_heard, next_heard, HearingOf, ServedFrom, is_over, unless_over, frame_heard, frames_heard, link_fault, then_fault, with_fault}
use Rattle.copy_both.specs.declared.event.Event.{Event}
use Rattle.copy_both.specs.declared.event.Event.TheVariants as event
use Rattle.copy_both.specs.declared.link_fault.LinkFault.{LinkFault}
use Rattle.copy_both.proofs.FrameRuns.{over_by_end}
use Rattle.copy_both.proofs.HearingLemmas.{over_stays}
use Rattle.copy_both.proofs.LinkLemmas.{frame_started, frames_started}
use Rattle.filter_tree.proofs.Tests.{by_test}

-- ---- while a stream runs nothing is reported

confirmed_reported : (ahead : Bool) (slot : ℕ) (status : Status) (h : HearingOf)
    → (confirmed_by ahead slot status h).heard.started ≡ h.heard.started
confirmed_reported true slot status h = refl
confirmed_reported false slot status h = refl

event_reported : (served : ServedFrom) (slot : ℕ) (e : Result Event LinkFault) (h : HearingOf)
    → (event_heard served slot e h).heard.started ≡ h.heard.started
event_reported served slot (Err fault) h = refl
event_reported served slot (Ok (event.End kind)) h = refl
event_reported served slot (Ok (event.Status status)) h =
    confirmed_reported (nat_lt (min h.sent (end_lsn_of served.commits)) status.flushed) slot status h

over_reported : (over : Bool) (h next : HearingOf) → next.heard.started ≡ h.heard.started
    → (unless_over over h next).heard.started ≡ h.heard.started
over_reported true h next same = refl
over_reported false h next same = same

frame_reported : (served : ServedFrom) (h : HearingOf) (frame : Frame) (s : ℕ × ℕ) → h.started ≡ Some s
    → (frame_heard served h frame).heard.started ≡ h.heard.started
frame_reported served h frame s is =
    over_reported (is_over h) h (next_heard served frame h.started h)
    (ap (λ (o : Option (ℕ × ℕ)). (next_heard served frame o h).heard.started) is
    ∙ event_reported served s.0 (event_of frame.kind frame.body) h)

frames_reported : (served : ServedFrom) (frames : List Frame) (h : HearingOf) (s : ℕ × ℕ) → h.started ≡ Some s
    → (frames_heard served h frames).heard.started ≡ h.heard.started
unfolding frames_heard
frames_reported served [] h s is = refl
frames_reported served (frame ∷ frames) h s is =
    frames_reported served frames (frame_heard served h frame) s (frame_started served h frame s is)
    ∙ frame_reported served h frame s is

-- ---- the first frame

abbrev IsReported : HearingOf → Type 0
IsReported last = last.heard.started ≡ reported_start None last.started

-- if nothing was started, nothing is reported
none_reported : (last : HearingOf) → last.started ≡ None → last.heard.started ≡ None → IsReported last
none_reported last none silent = silent ∙ sym (ap (reported_start None) none)

begun_reported : (served : ServedFrom) (frames : List Frame) (h : HearingOf) → h.started ≡ None → h.heard.started ≡ None
    → (b : BeginOf) → IsReported (frames_heard served (begun b h) frames)
begun_reported served frames h none silent (Begins slot start) =
    let next : HearingOf = begun (Begins slot start) h in
    frames_reported served frames next (slot, start) refl
    ∙ sym (ap (reported_start None) (frames_started served next frames (slot, start) refl))
begun_reported served frames h none silent (Refuses refusal) =
    let next : HearingOf = begun (Refuses refusal) h in
    subst IsReported (sym (over_stays served next frames refl)) (none_reported next none silent)

ended_reported : (served : ServedFrom) (frames : List Frame) (h : HearingOf) → h.started ≡ None → h.heard.started ≡ None
    → IsReported (frames_heard served (ended_by 88 h) frames)
ended_reported served frames h none silent =
    subst IsReported (sym (over_stays served (ended_by 88 h) frames (over_by_end h.fault 88)))
    (none_reported (ended_by 88 h) none silent)

first_reported : (served : ServedFrom) (frames : List Frame) (h : HearingOf) → h.started ≡ None → h.heard.started ≡ None
    → is_over h ≡ false → IsReported (frames_heard served h frames)
unfolding frames_heard
first_reported served [] h none silent going = none_reported h none silent
first_reported served (frame ∷ frames) h none silent going =
    let begins : BeginOf = begin_of served h.slots frame.kind frame.body in
    let step : frame_heard served h frame ≡ (if frame.kind == 88 then ended_by 88 h else begun begins h) =
    ap (λ over. unless_over over h (next_heard served frame h.started h)) going
    ∙ ap (λ (s : Option (ℕ × ℕ)). next_heard served frame s h) none in
    let Goal : HearingOf → Type 0 = λ next. IsReported (frames_heard served next frames) in
    subst Goal (sym step)
    (by_test (frame.kind == 88)
    (λ yes. subst Goal (sym (ap (λ b. if b then ended_by 88 h else begun begins h) yes))
    (ended_reported served frames h none silent))
    (λ no. subst Goal (sym (ap (λ b. if b then ended_by 88 h else begun begins h) no))
    (begun_reported served frames h none silent begins)))

-- ---- all frames

reported_by : (served : ServedFrom) (frames : List Frame) (h : HearingOf) → is_over h ≡ false → h.heard.started ≡ None
    → (was : Option (ℕ × ℕ)) → h.started ≡ was
    → (frames_heard served h frames).heard.started ≡ reported_start was (frames_heard served h frames).started
reported_by served frames h going silent None none = first_reported served frames h none silent going
reported_by served frames h going silent (Some s) is = frames_reported served frames h s is ∙ silent

fault_reported : (f : Option FrameFault) (h : HearingOf) → (then_fault f h).heard.started ≡ h.heard.started
fault_reported None h = refl
fault_reported (Some f) h = over_reported (is_over h) h (with_fault (link_fault f) h) refl

pub all_reported : (served : ServedFrom) (frames : List Frame) (h : HearingOf) (f : Option FrameFault) → is_over h ≡ false
    → h.heard.started ≡ None
    → (then_fault f (frames_heard served h frames)).heard.started
    ≡ reported_start h.started (frames_heard served h frames).started
all_reported served frames h f going silent = fault_reported f (frames_heard served h frames)
    ∙ reported_by served frames h going silent h.started refl
