-- A response is written only for a start that is refused: if no frame had a fault, there is none.
use Rattle.std.proofs.Common.{◌≡◌, ℕ, ◌==◌, Bool, true, false, if◌then◌else◌, List, [], ◌∷◌, refl, sym, ap, ◌∙◌}
use Rattle.std.specs.Prelude.{Option, Some, None, Result, Ok, Err, min, nat_lt}
use Rattle.tables_log.specs.Lsn.{end_lsn_of}
use Rattle.copy_frames.specs.declared.frame.Frame.{Frame}
use Rattle.copy_frames.specs.declared.status.Status.{Status}
use Rattle.copy_both.specs.Events.{event_of}
use Rattle.copy_both.specs.Hearing.{BeginOf, Begins, Refuses, begin_of, begun, ended_by, confirmed_by, event_heard, next_heard, HearingOf, ServedFrom, is_over, is_over_by, unless_over, frame_heard, frames_heard}
use Rattle.copy_both.specs.declared.event.Event.{Event}
use Rattle.copy_both.specs.declared.event.Event.TheVariants as event
use Rattle.copy_both.specs.declared.link_fault.LinkFault.{LinkFault}
use Rattle.copy_both.proofs.HearingLemmas.{over_stays}

-- without a fault, no response is added
abbrev pub IsQuiet : HearingOf → HearingOf → Type 0
IsQuiet h next = next.fault ≡ None → next.response ≡ h.response

quiet_begun : (b : BeginOf) (h : HearingOf) → IsQuiet h (begun b h)
quiet_begun (Begins slot start) h none = refl
quiet_begun (Refuses refusal) h none = absurd cc

quiet_if : (b : Bool) (h one other : HearingOf) → IsQuiet h one → IsQuiet h other → IsQuiet h (if b then one else other)
quiet_if true h one other first second none = first none
quiet_if false h one other first second none = second none

quiet_confirmed : (b : Bool) (slot : ℕ) (status : Status) (h : HearingOf)
    → (confirmed_by b slot status h).response ≡ h.response
quiet_confirmed true slot status h = refl
quiet_confirmed false slot status h = refl

quiet_event : (served : ServedFrom) (slot : ℕ) (e : Result Event LinkFault) (h : HearingOf)
    → (event_heard served slot e h).response ≡ h.response
quiet_event served slot (Err fault) h = refl
quiet_event served slot (Ok (event.End kind)) h = refl
quiet_event served slot (Ok (event.Status status)) h =
    quiet_confirmed (nat_lt (min h.sent (end_lsn_of served.commits)) status.flushed) slot status h

quiet_next : (served : ServedFrom) (frame : Frame) (started : Option (ℕ × ℕ)) (h : HearingOf)
    → IsQuiet h (next_heard served frame started h)
quiet_next served frame None h =
    quiet_if (frame.kind == 88) h (ended_by 88 h) (begun (begin_of served h.slots frame.kind frame.body) h)
    (λ none. refl) (quiet_begun (begin_of served h.slots frame.kind frame.body) h)
quiet_next served frame (Some started) h = λ none. quiet_event served started.0 (event_of frame.kind frame.body) h

quiet_over : (b : Bool) (h next : HearingOf) → IsQuiet h next → IsQuiet h (unless_over b h next)
quiet_over true h next quiet none = refl
quiet_over false h next quiet none = quiet none

pub quiet_frame : (served : ServedFrom) (h : HearingOf) (frame : Frame) → IsQuiet h (frame_heard served h frame)
quiet_frame served h frame =
    quiet_over (is_over h) h (next_heard served frame h.started h) (quiet_next served frame h.started h)

-- a fault stays
before_by : (f : Option LinkFault) (served : ServedFrom) (h : HearingOf) (frames : List Frame) → h.fault ≡ f
    → (frames_heard served h frames).fault ≡ None → h.fault ≡ None
before_by None served h frames is none = is
before_by (Some f) served h frames is none =
    let over : is_over h ≡ true = ap (λ (x : Option LinkFault). is_over_by x h.heard.ended) is in
    sym (ap (λ (x : HearingOf). x.fault) (over_stays served h frames over)) ∙ none

quiet_frames : (served : ServedFrom) (h : HearingOf) (frames : List Frame) → IsQuiet h (frames_heard served h frames)
unfolding frames_heard
quiet_frames served h [] none = refl
quiet_frames served h (frame ∷ frames) none =
    quiet_frames served (frame_heard served h frame) frames none
    ∙ quiet_frame served h frame
    (before_by (frame_heard served h frame).fault served (frame_heard served h frame) frames refl none)

pub quiet_after : (served : ServedFrom) (start now : HearingOf) (frames : List Frame)
    → now ≡ frames_heard served start frames → now.fault ≡ None → now.response ≡ start.response
quiet_after served start now frames is none =
    ap (λ (h : HearingOf). h.response) is
    ∙ quiet_frames served start frames (sym (ap (λ (h : HearingOf). h.fault) is) ∙ none)
