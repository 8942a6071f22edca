-- A start that is refused is answered with one ErrorResponse.
use Rattle.std.proofs.Common.{◌≡◌, ℕ, ◌==◌, Bool, true, false, if◌then◌else◌, List, [], ◌∷◌, refl, sym, ap, subst, ◌∙◌}
use Rattle.std.specs.Prelude.{Option, Some, None, Result, Ok, Err, IfErr, IsErrAnd, min, nat_lt}
use Rattle.tables_log.specs.Lsn.{end_lsn_of}
use Rattle.copy_frames.specs.declared.frame.Frame.{Frame}
use Rattle.copy_frames.specs.declared.status.Status.{Status}
use Rattle.copy_both.specs.Ears.{IsResponse, IsAnsweredBy}
use Rattle.copy_both.specs.Events.{event_of}
use Rattle.copy_both.specs.Hearing.{BeginOf, Begins, Refuses, begin_of, begun, confirmed_by, ended_by, event_heard, next_heard, HearingOf, ServedFrom, is_over, is_over_by, unless_over, frame_heard, frames_heard}
use Rattle.copy_both.specs.Listening.{FramesHeard}
use Rattle.copy_both.specs.declared.event.Event.{Event}
use Rattle.copy_both.specs.declared.event.Event.TheVariants as event
use Rattle.copy_both.specs.declared.link_fault.LinkFault.{LinkFault}
use Rattle.copy_both.specs.declared.link_fault.LinkFault.TheVariants as fault
use Rattle.copy_both.specs.declared.sql_state.SqlState.{SqlState}
use Rattle.copy_both.proofs.FrameRuns.{event_fault}
use Rattle.copy_both.proofs.HearingLemmas.{over_stays}
use Rattle.copy_both.proofs.QuietLemmas.{quiet_frame}

-- with this fault, a response was added
abbrev Refused : SqlState → HearingOf → HearingOf → Type 0
Refused state h next = next.fault ≡ Some (fault.BadStart state) → IsResponse state h.response next.response

not_refused : (f : Option LinkFault) (state : SqlState) → f ≡ None → f ≡ Some (fault.BadStart state) → ⊥
not_refused f state none some = let clash : ◌≡◌ {A = Option LinkFault} None (Some (fault.BadStart state)) = sym none
    ∙ some in cc

module _ (h : HearingOf) (state : SqlState) (good : h.fault ≡ None) where
  begun_refused : (b : BeginOf) → Refused state h (begun b h)
  begun_refused (Begins slot start) is = absurd (not_refused h.fault state good is)
  begun_refused (Refuses refusal) is = record { refusal = refusal; state_is = cc; response_is = refl }

  confirmed_refused : (ahead : Bool) (slot : ℕ) (status : Status) → Refused state h (confirmed_by ahead slot status h)
  confirmed_refused true slot status is =
      absurd (let clash : Some fault.StatusAhead ≡ Some (fault.BadStart state) = is in cc)
  confirmed_refused false slot status is = absurd (not_refused h.fault state good is)

  event_refused : (served : ServedFrom) (slot : ℕ) (frame : Frame) (e : Result Event LinkFault)
      → event_of frame.kind frame.body ≡ e
      → Refused state h (event_heard served slot e h)
  event_refused served slot frame (Err f) of is =
      let same : f ≡ fault.BadStart state = cc in
      absurd (event_fault frame (fault.BadStart state) (of ∙ ap Err same))
  event_refused served slot frame (Ok (event.End kind)) of is = absurd (not_refused h.fault state good is)
  event_refused served slot frame (Ok (event.Status status)) of is =
      confirmed_refused (nat_lt (min h.sent (end_lsn_of served.commits)) status.flushed) slot status is

  if_refused : (b : Bool) (one other : HearingOf) → Refused state h one → Refused state h other
      → Refused state h (if b then one else other)
  if_refused true one other first second is = first is
  if_refused false one other first second is = second is

  next_refused : (served : ServedFrom) (frame : Frame) (started : Option (ℕ × ℕ))
      → Refused state h (next_heard served frame started h)
  next_refused served frame None =
      if_refused (frame.kind == 88) (ended_by 88 h) (begun (begin_of served h.slots frame.kind frame.body) h)
      (λ is. absurd (not_refused h.fault state good is)) (begun_refused (begin_of served h.slots frame.kind frame.body))
  next_refused served frame (Some started) = event_refused served started.0 frame (event_of frame.kind frame.body) refl

  over_refused : (over : Bool) (next : HearingOf) → Refused state h next → Refused state h (unless_over over h next)
  over_refused true next refused is = absurd (not_refused h.fault state good is)
  over_refused false next refused is = refused is

  frame_refused : (served : ServedFrom) (frame : Frame) → Refused state h (frame_heard served h frame)
  frame_refused served frame =
      over_refused (is_over h) (next_heard served frame h.started h) (next_refused served frame h.started)

-- the frames after one that has this fault, or none
refused_then : (served : ServedFrom) (h next : HearingOf) (frames : List Frame) (state : SqlState)
    (f : Option LinkFault) → next.fault ≡ f
    → (next.fault ≡ None → next.response ≡ h.response) → Refused state h next
    → (next.fault ≡ None → Refused state next (frames_heard served next frames))
    → Refused state h (frames_heard served next frames)
refused_then served h next frames state None none quiet own later is =
    subst (λ (before : List ℕ). IsResponse state before (frames_heard served next frames).response) (quiet none)
    (later none is)
refused_then served h next frames state (Some f) some quiet own later is =
    let stays : frames_heard served next frames ≡ next =
    over_stays served next frames (ap (λ (x : Option LinkFault). is_over_by x next.heard.ended) some) in
    subst (λ (last : HearingOf). IsResponse state h.response last.response) (sym stays)
    (own (sym (ap (λ (x : HearingOf). x.fault) stays) ∙ is))

frames_refused : (served : ServedFrom) (frames : List Frame) (h : HearingOf) (state : SqlState) → h.fault ≡ None
    → Refused state h (frames_heard served h frames)
unfolding frames_heard
frames_refused served [] h state good is = absurd (not_refused h.fault state good is)
frames_refused served (frame ∷ frames) h state good is =
    refused_then served h (frame_heard served h frame) frames state (frame_heard served h frame).fault refl
    (quiet_frame served h frame)
    (frame_refused h state good served frame) (frames_refused served frames (frame_heard served h frame) state) is

-- what the frames of a piece leave
pub frames_answered : (f : LinkFault) (served : ServedFrom) (start now : HearingOf) (frames : List Frame)
    → start.fault ≡ None
    → FramesHeard served start now frames (Err f) → IsAnsweredBy f start.response now.response
frames_answered (fault.BadStart state) served start now frames good heard =
    subst (IsResponse state start.response) (ap (λ (x : HearingOf). x.response) heard)
    (frames_refused served frames start state good (ap (λ (x : HearingOf). x.fault) heard))
frames_answered fault.FrameTooLong served start now frames good heard = tt
frames_answered fault.BadLength served start now frames good heard = tt
frames_answered (fault.Unexpected byte) served start now frames good heard = tt
frames_answered fault.StatusAhead served start now frames good heard = tt
frames_answered fault.Closed served start now frames good heard = tt
frames_answered fault.OutOfMemory served start now frames good heard = tt

pub err_answered : {A : Type 0} (result : Result A LinkFault) (f : LinkFault) (before after : List ℕ)
    → IsErrAnd result (λ (g : LinkFault). g ≡ f)
    → IsAnsweredBy f before after → IfErr result (λ (g : LinkFault). IsAnsweredBy g before after)
err_answered (Ok value) f before after is answered = tt
err_answered (Err g) f before after is answered =
    subst (λ (x : LinkFault). IsAnsweredBy x before after) (sym is) answered
