-- Which slots are in use after what an ear hears: a stream that starts takes a free one, and nothing else changes this.
use Rattle.std.proofs.Common.{◌≡◌, ℕ, ◌==◌, min, Bool, true, false, if◌then◌else◌, List, [], ◌∷◌, take, refl, sym, ap, subst, ◌∙◌}
use Rattle.std.specs.Prelude.{Option, Some, None, Result, Ok, Err, nat_lt, slice_get}
use Rattle.tables_log.specs.BookView.{book_slots}
use Rattle.tables_log.specs.Lsn.{end_lsn_of}
use Rattle.tables_log.specs.Slots.{KeepsUse, TakesUse, started}
use Rattle.tables_log.specs.declared.book.Book.{Book}
use Rattle.tables_log.specs.declared.slots.Slot.{Slot}
use Rattle.tables_log.proofs.SlotUses.{confirmed_uses, started_uses}
use Rattle.copy_frames.specs.declared.frame.Frame.{Frame}
use Rattle.copy_frames.specs.declared.status.Status.{Status}
use Rattle.copy_both.specs.Ears.{ChangesUse, HearLeaves, StartsTakeSlots, ear_phase, ear_started}
use Rattle.copy_both.specs.Events.{event_of}
use Rattle.copy_both.specs.Hearing.{BeginOf, Begins, Refuses, HearingOf, ServedFrom, begin_of, begun, confirmed_by, ended_by, event_heard, frame_heard, frames_heard, is_over, next_heard, unless_over}
use Rattle.copy_both.specs.Listening.{Leaves, PieceLeaves, fed, held_frames, part_heard, piece_heard, silence}
use Rattle.copy_both.specs.Sessions.{hearing_view, served_by}
use Rattle.copy_both.specs.declared.ear.Ear.{Ear}
use Rattle.copy_both.specs.declared.event.Event.{Event}
use Rattle.copy_both.specs.declared.event.Event.TheVariants as event
use Rattle.copy_both.specs.declared.heard.Heard.{Heard}
use Rattle.copy_both.specs.declared.link_fault.LinkFault.{LinkFault}
use Rattle.copy_both.specs.declared.link_fault.LinkFault.TheVariants as fault
use Rattle.copy_both.specs.declared.phase.Phase.{Phase}
use Rattle.copy_both.specs.declared.phase.Phase.TheVariants as phase
use Rattle.copy_both.proofs.FrameRuns.{over_by_end}
use Rattle.copy_both.proofs.HearingLemmas.{over_stays}
use Rattle.copy_both.proofs.LinkLemmas.{all_is_part, frame_started, frames_started}
use Rattle.copy_both.proofs.StartBounds.{faultless_start, is_begun}
use Rattle.filter_tree.proofs.Tests.{by_test}

-- ---- a free slot is taken

takes_free : (served : ServedFrom) (slots : List Slot) (frame : Frame) (slot start : ℕ)
    → begin_of served slots frame.kind frame.body ≡ Begins slot start → TakesUse slots (started slots slot) slot
takes_free served slots frame slot start begins =
    let begun = is_begun served slots slot start frame.kind frame.body begins in
    let startable = faultless_start (slice_get slots slot) (end_lsn_of served.commits) begun.position begun.no_fault in
    record {
      slot = startable.slot;
      exists = startable.exists;
      free = startable.free;
      uses = λ used are. started_uses used slots slot are;
    }

-- ---- frames while a stream runs

module _ (served : ServedFrom) where
  ahead_uses : (ahead : Bool) (slot : ℕ) (status : Status) (h : HearingOf)
      → KeepsUse h.slots (confirmed_by ahead slot status h).slots
  ahead_uses true slot status h = λ used are. are
  ahead_uses false slot status h = confirmed_uses h.slots slot status.flushed

  event_uses : (slot : ℕ) (e : Result Event LinkFault) (h : HearingOf)
      → KeepsUse h.slots (event_heard served slot e h).slots
  event_uses slot (Err fault) h = λ used are. are
  event_uses slot (Ok (event.End kind)) h = λ used are. are
  event_uses slot (Ok (event.Status status)) h =
      ahead_uses (nat_lt (min h.sent (end_lsn_of served.commits)) status.flushed) slot status h

  over_uses : (over : Bool) (h next : HearingOf) → KeepsUse h.slots next.slots
      → KeepsUse h.slots (unless_over over h next).slots
  over_uses true h next keeps = λ used are. are
  over_uses false h next keeps = keeps

  frame_uses : (h : HearingOf) (frame : Frame) (s : ℕ × ℕ) → h.started ≡ Some s
      → KeepsUse h.slots (frame_heard served h frame).slots
  frame_uses h frame s is =
      over_uses (is_over h) h (next_heard served frame h.started h)
      (subst (λ (o : Option (ℕ × ℕ)). KeepsUse h.slots (next_heard served frame o h).slots) (sym is)
      (event_uses s.0 (event_of frame.kind frame.body) h))

  stream_uses : (frames : List Frame) (h : HearingOf) (s : ℕ × ℕ) → h.started ≡ Some s
      → KeepsUse h.slots (frames_heard served h frames).slots
  unfolding frames_heard
  stream_uses [] h s is used are = are
  stream_uses (frame ∷ frames) h s is used are =
      stream_uses frames (frame_heard served h frame) s (frame_started served h frame s is) used
      (frame_uses h frame s is used are)

  -- ---- frames from the first on

  -- what the frames change of which slots are in use
  abbrev UsesFrom : Option (ℕ × ℕ) → List Slot → HearingOf → Type 0
  UsesFrom was slots last = ChangesUse was last.started slots last.slots

  unchanged : (h last : HearingOf) → h.started ≡ None → last.started ≡ h.started → last.slots ≡ h.slots
      → UsesFrom None h.slots last
  unchanged h last none same at =
      subst (λ (o : Option (ℕ × ℕ)). ChangesUse None o h.slots last.slots) (sym (same ∙ none))
      (subst (KeepsUse h.slots) (sym at) (λ used are. are))

  -- nothing is heard after a fault or an end
  stops : (h next : HearingOf) (frames : List Frame) → h.started ≡ None → next.started ≡ h.started
      → next.slots ≡ h.slots → is_over next ≡ true → UsesFrom None h.slots (frames_heard served next frames)
  stops h next frames none same at over =
      subst (UsesFrom None h.slots) (sym (over_stays served next frames over)) (unchanged h next none same at)

  begins_use : (frame : Frame) (frames : List Frame) (h : HearingOf) → h.started ≡ None → (b : BeginOf)
      → begin_of served h.slots frame.kind frame.body ≡ b
      → UsesFrom None h.slots (frames_heard served (begun b h) frames)
  begins_use frame frames h none (Begins slot start) begins =
      let next : HearingOf = begun (Begins slot start) h in
      let last : HearingOf = frames_heard served next frames in
      let takes : TakesUse h.slots (started h.slots slot) slot = takes_free served h.slots frame slot start begins in
      subst (λ (o : Option (ℕ × ℕ)). ChangesUse None o h.slots last.slots)
      (sym (frames_started served next frames (slot, start) refl))
      (record {
        slot = takes.slot;
        exists = takes.exists;
        free = takes.free;
        uses = λ used are. stream_uses frames next (slot, start) refl _ (takes.uses used are);
      })
  begins_use frame frames h none (Refuses refusal) begins =
      stops h (begun (Refuses refusal) h) frames none refl refl refl

  first_uses : (frames : List Frame) (h : HearingOf) → h.started ≡ None
      → UsesFrom None h.slots (frames_heard served h frames)
  unfolding frames_heard
  first_uses [] h none = unchanged h h none refl refl
  first_uses (frame ∷ frames) h none =
      let begins : BeginOf = begin_of served h.slots frame.kind frame.body in
      let Goal : HearingOf → Type 0 = λ next. UsesFrom None h.slots (frames_heard served next frames) in
      by_test (is_over h)
      (λ over. subst Goal (sym (ap (λ b. unless_over b h (next_heard served frame h.started h)) over))
      (stops h h frames none refl refl over))
      (λ going.
      let step : frame_heard served h frame ≡ (if frame.kind == 88 then ended_by 88 h else begun begins h) =
      ap (λ b. unless_over b h (next_heard served frame h.started h)) going
      ∙ ap (λ (o : Option (ℕ × ℕ)). next_heard served frame o h) none in
      subst Goal (sym step)
      (by_test (frame.kind == 88)
      (λ yes. subst Goal (sym (ap (λ b. if b then ended_by 88 h else begun begins h) yes))
      (stops h (ended_by 88 h) frames none refl refl (over_by_end h.fault 88)))
      (λ no. subst Goal (sym (ap (λ b. if b then ended_by 88 h else begun begins h) no))
      (begins_use frame frames h none begins refl))))

  heard_uses : (frames : List Frame) (h : HearingOf) (was : Option (ℕ × ℕ)) → h.started ≡ was
      → UsesFrom was h.slots (frames_heard served h frames)
  heard_uses frames h None is = first_uses frames h is
  heard_uses frames h (Some s) is = stream_uses frames h s is

-- ---- a piece

same_uses : (was now : Option (ℕ × ℕ)) (slots : List Slot) → now ≡ was → ChangesUse was now slots slots
same_uses None None slots same = λ used are. are
same_uses None (Some s) slots same = absurd cc
same_uses (Some s) now slots same = λ used are. are

module _ (piece : List ℕ) (sent : ℕ) (old new : Ear) (before after : Book) where
  abbrev Uses : Type 0
  Uses = ChangesUse (ear_started old) (ear_started new) (book_slots before) (book_slots after)

  -- the first frames of the piece were heard, this number of them
  by_part : (count : ℕ)
      × Leaves old.session new.session before after (part_heard count old.session before old.frames piece sent) → Uses
  by_part (count, leaves) =
      let some : List Frame = take count (held_frames (fed old.frames piece)) in
      let start : HearingOf = hearing_view old.session (silence sent) before in
      let last : HearingOf = frames_heard (served_by old.session before) start some in
      subst (λ (o : Option (ℕ × ℕ)). ChangesUse (ear_started old) o (book_slots before) (book_slots after))
      (sym leaves.started)
      (subst (ChangesUse (ear_started old) last.started (book_slots before)) (sym leaves.book.slots_are)
      (heard_uses (served_by old.session before) some start (ear_started old) refl))

  by_all : Leaves old.session new.session before after (piece_heard old.session before old.frames piece sent) → Uses
  by_all leaves = by_part (all_is_part old.session new.session before after old.frames piece sent leaves)

  by_piece : (result : Result Heard LinkFault)
      → PieceLeaves result old.frames piece sent old.session new.session before after → Uses
  by_piece (Ok heard) left = by_all left
  by_piece (Err fault.OutOfMemory) left = by_part left
  by_piece (Err fault.FrameTooLong) left = by_all left
  by_piece (Err fault.BadLength) left = by_all left
  by_piece (Err (fault.Unexpected byte)) left = by_all left
  by_piece (Err (fault.BadStart state)) left = by_all left
  by_piece (Err fault.StatusAhead) left = by_all left
  by_piece (Err fault.Closed) left = by_all left

  by_stay : ear_started new ≡ ear_started old → book_slots after ≡ book_slots before → Uses
  by_stay same at =
      subst (ChangesUse (ear_started old) (ear_started new) (book_slots before)) (sym at)
      (same_uses (ear_started old) (ear_started new) (book_slots before) same)

  by_phase : (p : Phase) (result : Result Heard LinkFault)
      → HearLeaves p old new before after piece sent result → Uses
  by_phase phase.Open result left = by_piece result left.leaves
  by_phase phase.Closed result left = by_stay left.ear.started left.book.slots_are
  by_phase phase.Lost result left = by_stay left.ear.started left.book.slots_are

pub starts_take_slots : StartsTakeSlots
starts_take_slots old new before after piece sent result left =
    by_phase piece sent old new before after (ear_phase old) result left
