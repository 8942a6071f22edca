-- A stream that starts after the position up to which its slot was confirmed starts at the requested position.
use Rattle.std.proofs.Common.{◌≡◌, ℕ, ◌<◌, ◌==◌, max, false, if◌then◌else◌, List, [], ◌∷◌, ◌++◌, refl, sym, ap, subst, ◌∙◌, arith}
use Rattle.std.specs.Prelude.{Option, Some, None}
use Rattle.tables_log.specs.Lsn.{end_lsn_of}
use Rattle.tables_log.specs.Slots.{confirmed_at, start_fault}
use Rattle.tables_log.specs.declared.error.StartError.{StartError}
use Rattle.tables_log.specs.declared.slots.Slot.{Slot}
use Rattle.copy_frames.specs.declared.frame.Frame.{Frame}
use Rattle.copy_both.specs.HeardFrames.{Requests}
use Rattle.copy_both.specs.Hearing.{BeginOf, Begins, Refuses, HearingOf, ServedFrom, begin_by, begin_of, begun, ended_by, frame_heard, frames_heard, is_over, next_heard, offer_in, unless_fault, unless_over}
use Rattle.copy_both.specs.StartAnswers.{StartAnswerOf, Stream, Refused, asked_of}
use Rattle.copy_both.specs.StartOrder.{slot_name}
use Rattle.copy_both.proofs.FrameRuns.{over_by_end}
use Rattle.copy_both.proofs.HearingLemmas.{over_stays}
use Rattle.copy_both.proofs.LinkLemmas.{frames_started}
use Rattle.filter_tree.proofs.Tests.{by_test}

-- the greater of two positions is the first, if it is after the second
greater_first : (position confirmed start : ℕ) → max position confirmed ≡ start → confirmed < start → position ≡ start
greater_first position confirmed start is late = omega arith

module _ (served : ServedFrom) (slots : List Slot) (slot start : ℕ) (late : confirmed_at slots slot < start) where
  by_fault : (fault : Option StartError) (one position : ℕ) (name : List ℕ)
      → unless_fault fault one (max position (confirmed_at slots one)) name ≡ Begins slot start
      → Stream one position ≡ Stream slot start
  by_fault None one position name is =
      let same : one ≡ slot = cc in
      let at : max position (confirmed_at slots one) ≡ start = cc in
      let until : max position (confirmed_at slots slot) ≡ start =
      sym (ap (λ (s : ℕ). max position (confirmed_at slots s)) same) ∙ at in
      ap (λ (s : ℕ). Stream s position) same
      ∙ ap (Stream slot) (greater_first position (confirmed_at slots slot) start until late)
  by_fault (Some error) one position name is = absurd cc

  by_asked : (asked : StartAnswerOf) → begin_by served slots asked ≡ Begins slot start → asked ≡ Stream slot start
  by_asked (Refused refusal) is = absurd cc
  by_asked (Stream one position) is =
      by_fault (start_fault slots (end_lsn_of served.commits) one position) one position
      (slot_name served.checked.catalog.subscriptions one) is

  by_frame : (frame : Frame) (frames : List Frame)
      → begin_of served slots frame.kind frame.body ≡ Begins slot start → Requests (frame ∷ frames) slot start
  unfolding begin_of
  by_frame frame frames is = record {
    frame = frame;
    first = record { others = frames; frames_are = refl };
    offer = offer_in served;
    asks = by_asked (asked_of (offer_in served) frame.kind frame.body) is;
  }

  unstarted : (h : HearingOf) → h.started ≡ None → h.started ≡ Some (slot, start) → (X : Type 0) → X
  unstarted h none is X = absurd (let clash : ◌≡◌ {A = Option (ℕ × ℕ)} None (Some (slot, start)) = sym none ∙ is in cc)

  by_begun : (frame : Frame) (frames : List Frame) (h : HearingOf) → h.started ≡ None → (b : BeginOf)
      → begin_of served slots frame.kind frame.body ≡ b
      → (frames_heard served (begun b h) frames).started ≡ Some (slot, start) → Requests (frame ∷ frames) slot start
  by_begun frame frames h none (Begins one at) begins is =
      let next : HearingOf = begun (Begins one at) h in
      let both : ◌≡◌ {A = Option (ℕ × ℕ)} (Some (one, at)) (Some (slot, start)) =
      sym (frames_started served next frames (one, at) refl) ∙ is in
      let pair : ◌≡◌ {A = ℕ × ℕ} (one, at) (slot, start) = cc in
      by_frame frame frames (begins ∙ ap (λ (s : ℕ × ℕ). Begins s.0 s.1) pair)
  by_begun frame frames h none (Refuses refusal) begins is =
      let next : HearingOf = begun (Refuses refusal) h in
      unstarted next none (sym (ap (λ (x : HearingOf). x.started) (over_stays served next frames refl)) ∙ is)
      (Requests (frame ∷ frames) slot start)

  by_end : (frame : Frame) (frames : List Frame) (h : HearingOf) → h.started ≡ None
      → (frames_heard served (ended_by 88 h) frames).started ≡ Some (slot, start)
      → Requests (frame ∷ frames) slot start
  by_end frame frames h none is =
      unstarted h none (sym (ap (λ (x : HearingOf). x.started)
      (over_stays served (ended_by 88 h) frames (over_by_end h.fault 88))) ∙ is)
      (Requests (frame ∷ frames) slot start)

  -- so it is of the frames that are heard first
  pub late_requests : (frames : List Frame) (h : HearingOf) → h.started ≡ None → is_over h ≡ false → h.slots ≡ slots
      → (frames_heard served h frames).started ≡ Some (slot, start) → Requests frames slot start
  unfolding frames_heard
  late_requests [] h none going at is = unstarted h none is (Requests [] slot start)
  late_requests (frame ∷ frames) h none going at is =
      let begins : BeginOf = begin_of served slots frame.kind frame.body in
      let step : frame_heard served h frame ≡ (if frame.kind == 88 then ended_by 88 h else begun begins h) =
      ap (λ over. unless_over over h (next_heard served frame h.started h)) going
      ∙ ap (λ (s : Option (ℕ × ℕ)). next_heard served frame s h) none
      ∙ ap (λ (its : List Slot). if frame.kind == 88 then ended_by 88 h else
      begun (begin_of served its frame.kind frame.body) h) at in
      let Goal : HearingOf → Type 0 = λ next. (frames_heard served next frames).started ≡ Some (slot, start)
      → Requests (frame ∷ frames) slot start in
      subst Goal (sym step)
      (by_test (frame.kind == 88)
      (λ yes. subst Goal (sym (ap (λ b. if b then ended_by 88 h else begun begins h) yes)) (by_end frame frames h none))
      (λ no. subst Goal (sym (ap (λ b. if b then ended_by 88 h else begun begins h) no))
      (by_begun frame frames h none begins refl))) is

-- and of these frames and further ones
pub requests_more : (frames more : List Frame) (slot start : ℕ) → Requests frames slot start
    → Requests (frames ++ more) slot start
requests_more frames more slot start requests = record {
  frame = requests.frame;
  first = record {
    others = requests.first.others ++ more;
    frames_are = ap (λ (x : List Frame). x ++ more) requests.first.frames_are;
  };
  offer = requests.offer;
  asks = requests.asks;
}
