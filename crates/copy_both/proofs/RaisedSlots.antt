-- What an ear that hears a piece leaves confirmed: only the slot of its stream moves, up to the greatest position of the
-- statuses that it heard, which was sent.
use Rattle.std.proofs.Common.{◌≡◌, ◌≢◌, ℕ, zero, suc, ◌<◌, ◌≤◌, ◌==◌, min, max, Bool, true, false, if◌then◌else◌, List, [], ◌∷◌, take, length, refl, sym, ap, subst, ◌∙◌, arith}
use Rattle.std.specs.Prelude.{Option, Some, None, Result, Ok, Err, nat_lt, slice_get, slice_set}
use Rattle.std.proofs.lemmas.Bool.{ltb-false}
use Rattle.std.proofs.lemmas.List.{length-set}
use mathlib.Core.Logic.{dite}
use native.Mathlib.Decide.{ℕ_discrete}
use Rattle.std.proofs.lemmas.Option.{slice_get_within}
use Rattle.tables_log.specs.BookView.{book_slots}
use Rattle.tables_log.specs.Lsn.{end_lsn_of}
use Rattle.tables_log.specs.Slots.{changed, confirmed_at, confirmed_of, confirmed_up_to, raised, started, with_stream}
use Rattle.tables_log.specs.declared.book.Book.{Book}
use Rattle.tables_log.specs.declared.slots.Slot.{Slot}
use Rattle.tables_log.proofs.PlaceLemmas.{get_set_beside, get_set_here}
use Rattle.copy_both.proofs.StatusesHeard.{start_stays}
use Rattle.copy_frames.specs.declared.frame.Frame.{Frame}
use Rattle.copy_frames.specs.declared.status.Status.{Status}
use Rattle.copy_both.specs.Ears.{HearLeaves, ear_confirmed, ear_phase, ear_started}
use Rattle.copy_both.specs.Events.{event_of}
use Rattle.copy_both.specs.Hearing.{BeginOf, Begins, Refuses, HearingOf, ServedFrom, begin_of, begun, confirmed_by, ended_by, event_heard, frame_heard, frames_heard, is_over, next_heard, unless_over}
use Rattle.copy_both.specs.HeardFrames.{sent_then}
use Rattle.copy_both.specs.Listening.{Leaves, PieceLeaves, fed, held_frames, part_heard, piece_heard, silence}
use Rattle.copy_both.specs.Sessions.{hearing_view, served_by}
use Rattle.copy_both.specs.declared.ear.Ear.{Ear}
use Rattle.copy_both.specs.declared.event.Event.{Event}
use Rattle.copy_both.specs.declared.event.Event.TheVariants as event
use Rattle.copy_both.specs.declared.heard.Heard.{Heard}
use Rattle.copy_both.specs.declared.link_fault.LinkFault.{LinkFault}
use Rattle.copy_both.specs.declared.link_fault.LinkFault.TheVariants as fault
use Rattle.copy_both.specs.declared.phase.Phase.{Phase}
use Rattle.copy_both.specs.declared.phase.Phase.TheVariants as phase
use Rattle.copy_both.proofs.FrameRuns.{over_by_end}
use Rattle.copy_both.proofs.HearingLemmas.{over_stays}
use Rattle.copy_both.proofs.LinkLemmas.{all_is_part, frame_sent, frame_started, frames_started}
use Rattle.copy_both.proofs.StartBounds.{faultless_start, is_begun}
use Rattle.filter_tree.proofs.Tests.{by_test}

-- ---- one slot is confirmed

-- of one slot, up to the greater of what was confirmed and this position; the others stay
record Moves (slot : ℕ) (old new : List Slot) (position : ℕ) : Type 0 where
  pub here : slot < length old → confirmed_at new slot ≡ max (confirmed_at old slot) position
  pub beside : (number : ℕ) → slot ≢ number → confirmed_at new number ≡ confirmed_at old number
  pub rises : (number : ℕ) → confirmed_at old number ≤ confirmed_at new number
  pub long : length new ≡ length old

same_greatest : (n : ℕ) → n ≡ max n 0
same_greatest n = omega arith

stays_put : (slot : ℕ) (slots : List Slot) → Moves slot slots slots 0
stays_put slot slots = record {
  here = λ low. same_greatest (confirmed_at slots slot);
  beside = λ number apart. refl;
  rises = λ number. omega arith;
  long = refl;
}

none_there : (slots : List Slot) (slot : ℕ) → slice_get slots slot ≡ None → slot < length slots → ⊥
none_there [] slot none low = omega (arith, low)
none_there (one ∷ slots) zero none low = cc
none_there (one ∷ slots) (suc slot) none low = none_there slots slot none (omega (arith, low))

raised_moves : (slots : List Slot) (slot position : ℕ) (found : Option Slot) → slice_get slots slot ≡ found
    → Moves slot slots (changed slots slot found (raised position)) position
raised_moves slots slot position None at = record {
  here = λ low. absurd (none_there slots slot at low);
  beside = λ number apart. refl;
  rises = λ number. omega arith;
  long = refl;
}
raised_moves slots slot position (Some one) at =
    let here : confirmed_at (slice_set slots slot (raised position one)) slot ≡ max (confirmed_at slots slot) position =
    ap confirmed_of (get_set_here slots slot (raised position one) (slice_get_within slots slot one at))
    ∙ ap (λ (n : ℕ). max n position) (sym (ap confirmed_of at)) in
    let beside : (number : ℕ) → slot ≢ number
    → confirmed_at (slice_set slots slot (raised position one)) number ≡ confirmed_at slots number =
    λ number apart. ap confirmed_of
    (get_set_beside slots slot number (raised position one) (λ same. apart (sym same))) in record {
      here = λ low. here;
      beside = beside;
      rises = λ number. dite (ℕ_discrete slot number)
          (λ same. subst (λ (n : ℕ). confirmed_at slots n ≤ confirmed_at (slice_set slots slot (raised position one)) n) same
          (omega (arith, here)))
          (λ apart. let still = beside number apart in omega (arith, still));
      long = length-set slots slot (raised position one);
    }

confirmed_moves : (slots : List Slot) (slot position : ℕ)
    → Moves slot slots (confirmed_up_to slots slot position) position
confirmed_moves slots slot position = raised_moves slots slot position (slice_get slots slot) refl

started_long : (slots : List Slot) (number : ℕ) (found : Option Slot)
    → length (changed slots number found (with_stream true)) ≡ length slots
started_long slots number None = refl
started_long slots number (Some slot) = length-set slots number (with_stream true slot)

both_greatest : (a b c : ℕ) → max (max a b) c ≡ max a (max b c)
both_greatest a b c = omega arith

moves_both : (slot : ℕ) (old middle new : List Slot) (first second : ℕ) → Moves slot old middle first
    → Moves slot middle new second → Moves slot old new (max first second)
moves_both slot old middle new first second one other = record {
  here = λ low. let long = one.long in
      other.here (omega (arith, low, long))
      ∙ (ap (λ (n : ℕ). max n second) (one.here low) ∙ both_greatest (confirmed_at old slot) first second);
  beside = λ number apart. other.beside number apart ∙ one.beside number apart;
  rises = λ number. let first = one.rises number in let second = other.rises number in omega (arith, first, second);
  long = other.long ∙ one.long;
}

-- ---- frames while a stream runs

-- the greatest position that they confirm, for the slot and in all, which was sent
record StreamMoves (slot : ℕ) (h last : HearingOf) : Type 0 where
  pub greatest : ℕ
  pub low : greatest ≤ h.sent
  pub confirmed_is : last.confirmed ≡ max h.confirmed greatest
  pub slots : Moves slot h.slots last.slots greatest

module _ (served : ServedFrom) where
  quiet : (slot : ℕ) (h next : HearingOf) → next.confirmed ≡ h.confirmed → next.slots ≡ h.slots → StreamMoves slot h next
  quiet slot h next same at = record {
    greatest = 0;
    low = omega arith;
    confirmed_is = same ∙ same_greatest h.confirmed;
    slots = subst (λ (slots : List Slot). Moves slot h.slots slots 0) (sym at) (stays_put slot h.slots);
  }

  ahead_moves : (ahead : Bool) (slot : ℕ) (status : Status) (h : HearingOf)
      → nat_lt (min h.sent (end_lsn_of served.commits)) status.flushed ≡ ahead
      → StreamMoves slot h (confirmed_by ahead slot status h)
  ahead_moves true slot status h is = quiet slot h (confirmed_by true slot status h) refl refl
  ahead_moves false slot status h is = record {
    greatest = status.flushed;
    low = let all = ltb-false (min h.sent (end_lsn_of served.commits)) status.flushed is in omega (arith, all);
    confirmed_is = refl;
    slots = confirmed_moves h.slots slot status.flushed;
  }

  event_moves : (slot : ℕ) (e : Result Event LinkFault) (h : HearingOf) → StreamMoves slot h (event_heard served slot e h)
  event_moves slot (Err f) h = quiet slot h (event_heard served slot (Err f) h) refl refl
  event_moves slot (Ok (event.End kind)) h = quiet slot h (ended_by kind h) refl refl
  event_moves slot (Ok (event.Status status)) h =
      ahead_moves (nat_lt (min h.sent (end_lsn_of served.commits)) status.flushed) slot status h refl

  over_moves : (over : Bool) (slot : ℕ) (h next : HearingOf) → StreamMoves slot h next
      → StreamMoves slot h (unless_over over h next)
  over_moves true slot h next moves = quiet slot h h refl refl
  over_moves false slot h next moves = moves

  frame_moves : (h : HearingOf) (frame : Frame) (s : ℕ × ℕ) → h.started ≡ Some s
      → StreamMoves s.0 h (frame_heard served h frame)
  frame_moves h frame s is =
      over_moves (is_over h) s.0 h (next_heard served frame h.started h)
      (subst (λ (o : Option (ℕ × ℕ)). StreamMoves s.0 h (next_heard served frame o h)) (sym is)
      (event_moves s.0 (event_of frame.kind frame.body) h))

  stream_moves : (frames : List Frame) (h : HearingOf) (s : ℕ × ℕ) → h.started ≡ Some s
      → StreamMoves s.0 h (frames_heard served h frames)
  unfolding frames_heard
  stream_moves [] h s is = quiet s.0 h h refl refl
  stream_moves (frame ∷ frames) h s is =
      let one = frame_moves h frame s is in
      let rest = stream_moves frames (frame_heard served h frame) s (frame_started served h frame s is) in
      record {
        greatest = max one.greatest rest.greatest;
        low = let same = frame_sent served h frame s is in omega (arith, one.low, rest.low, same);
        confirmed_is = rest.confirmed_is ∙ (ap (λ (n : ℕ). max n rest.greatest) one.confirmed_is
            ∙ both_greatest h.confirmed one.greatest rest.greatest);
        slots = moves_both s.0 h.slots (frame_heard served h frame).slots
            (frames_heard served (frame_heard served h frame) frames).slots one.greatest rest.greatest one.slots
            rest.slots;
      }

-- ---- all frames of a piece

-- A stream that starts takes a slot that exists, and starts where that is confirmed at the earliest.
pub record IsFrom (slots : List Slot) (s : ℕ × ℕ) : Type 0 where
  pub exists : s.0 < length slots
  pub low : confirmed_at slots s.0 ≤ s.1

-- The stream that started stays. Only its slot moves, by the greatest position that is confirmed, which was sent.
pub record Raises (sent : ℕ) (was now : Option (ℕ × ℕ)) (old new : List Slot) (before after : ℕ) : Type 0 where
  pub greatest : ℕ
  pub low : greatest ≤ sent_then was sent now
  pub long : length new ≡ length old
  pub stays : (s : ℕ × ℕ) → was ≡ Some s → now ≡ Some s
  pub begins : was ≡ None → (s : ℕ × ℕ) → now ≡ Some s → IsFrom old s
  pub after_is : after ≡ max before greatest
  pub here : (s : ℕ × ℕ) → now ≡ Some s → s.0 < length old
      → confirmed_at new s.0 ≡ max (confirmed_at old s.0) greatest
  pub beside : (number : ℕ) → ((s : ℕ × ℕ) → now ≡ Some s → s.0 ≢ number)
      → confirmed_at new number ≡ confirmed_at old number
  pub rises : (number : ℕ) → confirmed_at old number ≤ confirmed_at new number

none_some : {X : Type 0} (s : ℕ × ℕ) → ◌≡◌ {A = Option (ℕ × ℕ)} None (Some s) → X
none_some s same = absurd cc

pair_of : (s t : ℕ × ℕ) → ◌≡◌ {A = Option (ℕ × ℕ)} (Some s) (Some t) → s ≡ t
pair_of s t same = cc

greatest_low : (position confirmed start : ℕ) → max position confirmed ≡ start → confirmed ≤ start
greatest_low position confirmed start is = omega (arith, is)

module _ (served : ServedFrom) where
  abbrev RaisesFrom : Option (ℕ × ℕ) → HearingOf → HearingOf → Type 0
  RaisesFrom was h last = Raises h.sent was last.started h.slots last.slots h.confirmed last.confirmed

  unmoved : (was : Option (ℕ × ℕ)) (h last : HearingOf) → last.started ≡ was → last.slots ≡ h.slots
      → last.confirmed ≡ h.confirmed → RaisesFrom was h last
  unmoved was h last same at still = record {
    greatest = 0;
    low = omega arith;
    long = ap (λ (slots : List Slot). length slots) at;
    stays = λ s is. same ∙ is;
    begins = λ none s is. none_some s (sym none ∙ (sym same ∙ is));
    after_is = still ∙ same_greatest h.confirmed;
    here = λ s is low. ap (λ (slots : List Slot). confirmed_at slots s.0) at ∙ same_greatest (confirmed_at h.slots s.0);
    beside = λ number apart. ap (λ (slots : List Slot). confirmed_at slots number) at;
    rises = λ number. let kept = ap (λ (slots : List Slot). confirmed_at slots number) at in omega (arith, kept);
  }

  -- nothing is heard after a fault or an end
  stops : (h next : HearingOf) (frames : List Frame) → h.started ≡ None → next.started ≡ h.started
      → next.slots ≡ h.slots → next.confirmed ≡ h.confirmed → is_over next ≡ true
      → RaisesFrom None h (frames_heard served next frames)
  stops h next frames none same at still over =
      subst (RaisesFrom None h) (sym (over_stays served next frames over)) (unmoved None h next (same ∙ none) at still)

  begins_from : (slots : List Slot) (frame : Frame) (slot start : ℕ)
      → begin_of served slots frame.kind frame.body ≡ Begins slot start → IsFrom slots (slot, start)
  begins_from slots frame slot start begins =
      let begun = is_begun served slots slot start frame.kind frame.body begins in
      let startable = faultless_start (slice_get slots slot) (end_lsn_of served.commits) begun.position begun.no_fault in
      record {
        exists = slice_get_within slots slot startable.slot startable.exists;
        low = greatest_low begun.position (confirmed_at slots slot) start begun.start_is;
      }

  begins_raise : (frame : Frame) (frames : List Frame) (h : HearingOf) → h.started ≡ None → (b : BeginOf)
      → begin_of served h.slots frame.kind frame.body ≡ b
      → RaisesFrom None h (frames_heard served (begun b h) frames)
  begins_raise frame frames h none (Begins slot start) begins =
      let next : HearingOf = begun (Begins slot start) h in
      let last : HearingOf = frames_heard served next frames in
      let moves = stream_moves served frames next (slot, start) refl in
      let at : last.started ≡ Some (slot, start) = frames_started served next frames (slot, start) refl in
      let long : length (started h.slots slot) ≡ length h.slots = started_long h.slots slot (slice_get h.slots slot) in
      record {
        greatest = moves.greatest;
        low = subst (λ (o : Option (ℕ × ℕ)). moves.greatest ≤ sent_then None h.sent o) (sym at) moves.low;
        long = moves.slots.long ∙ long;
        stays = λ s is. none_some s is;
        begins = λ _ s is. subst (IsFrom h.slots) (pair_of (slot, start) s (sym at ∙ is))
            (begins_from h.slots frame slot start begins);
        after_is = moves.confirmed_is;
        here = λ s is low.
            let same : slot ≡ s.0 = ap (λ (p : ℕ × ℕ). p.0) (pair_of (slot, start) s (sym at ∙ is)) in
            subst (λ (n : ℕ). confirmed_at last.slots n ≡ max (confirmed_at h.slots n) moves.greatest) same
            (moves.slots.here (omega (arith, low, long, same))
            ∙ ap (λ (n : ℕ). max n moves.greatest) (start_stays h.slots slot slot));
        beside = λ number apart. moves.slots.beside number (apart (slot, start) at)
            ∙ start_stays h.slots slot number;
        rises = λ number. let first = start_stays h.slots slot number in let second = moves.slots.rises number in
            omega (arith, first, second);
      }
  begins_raise frame frames h none (Refuses refusal) begins =
      stops h (begun (Refuses refusal) h) frames none refl refl refl refl

  first_raise : (frames : List Frame) (h : HearingOf) → h.started ≡ None
      → RaisesFrom None h (frames_heard served h frames)
  unfolding frames_heard
  first_raise [] h none = unmoved None h h none refl refl
  first_raise (frame ∷ frames) h none =
      let begins : BeginOf = begin_of served h.slots frame.kind frame.body in
      let Goal : HearingOf → Type 0 = λ next. RaisesFrom None h (frames_heard served next frames) in
      by_test (is_over h)
      (λ over. subst Goal (sym (ap (λ b. unless_over b h (next_heard served frame h.started h)) over))
      (stops h h frames none refl refl refl over))
      (λ going.
      let step : frame_heard served h frame ≡ (if frame.kind == 88 then ended_by 88 h else begun begins h) =
      ap (λ over. unless_over over h (next_heard served frame h.started h)) going
      ∙ ap (λ (s : Option (ℕ × ℕ)). next_heard served frame s h) none in
      subst Goal (sym step)
      (by_test (frame.kind == 88)
      (λ yes. subst Goal (sym (ap (λ b. if b then ended_by 88 h else begun begins h) yes))
      (stops h (ended_by 88 h) frames none refl refl refl (over_by_end h.fault 88)))
      (λ no. subst Goal (sym (ap (λ b. if b then ended_by 88 h else begun begins h) no))
      (begins_raise frame frames h none begins refl))))

  runs_raise : (frames : List Frame) (h : HearingOf) (s : ℕ × ℕ) → h.started ≡ Some s
      → RaisesFrom (Some s) h (frames_heard served h frames)
  runs_raise frames h s is =
      let last : HearingOf = frames_heard served h frames in
      let moves = stream_moves served frames h s is in
      let at : last.started ≡ Some s = frames_started served h frames s is in
      record {
        greatest = moves.greatest;
        low = moves.low;
        long = moves.slots.long;
        stays = λ t same. at ∙ same;
        begins = λ no t now. none_some s (sym no);
        after_is = moves.confirmed_is;
        here = λ t now low.
            let same : s.0 ≡ t.0 = ap (λ (p : ℕ × ℕ). p.0) (pair_of s t (sym at ∙ now)) in
            subst (λ (n : ℕ). confirmed_at last.slots n ≡ max (confirmed_at h.slots n) moves.greatest) same
            (moves.slots.here (omega (arith, low, same)));
        beside = λ number apart. moves.slots.beside number (apart s at);
        rises = moves.slots.rises;
      }

  heard_raises : (frames : List Frame) (h : HearingOf) (was : Option (ℕ × ℕ)) → h.started ≡ was
      → RaisesFrom was h (frames_heard served h frames)
  heard_raises frames h None is = first_raise frames h is
  heard_raises frames h (Some s) is = runs_raise frames h s is

-- ---- a piece

module _ (piece : List ℕ) (sent : ℕ) (old new : Ear) (before after : Book) where
  abbrev RaisesBook : Type 0
  RaisesBook = Raises sent (ear_started old) (ear_started new) (book_slots before) (book_slots after)
      (ear_confirmed old) (ear_confirmed new)

  -- the first frames of the piece were heard, this number of them
  by_part : (count : ℕ)
      × Leaves old.session new.session before after (part_heard count old.session before old.frames piece sent)
      → RaisesBook
  by_part (count, leaves) =
      let some : List Frame = take count (held_frames (fed old.frames piece)) in
      let start : HearingOf = hearing_view old.session (silence sent) before in
      let last : HearingOf = frames_heard (served_by old.session before) start some in
      subst (λ (o : Option (ℕ × ℕ)). Raises sent (ear_started old) o (book_slots before) (book_slots after)
      (ear_confirmed old) (ear_confirmed new)) (sym leaves.started)
      (subst (λ (slots : List Slot). Raises sent (ear_started old) last.started (book_slots before) slots
      (ear_confirmed old) (ear_confirmed new)) (sym leaves.book.slots_are)
      (subst (Raises sent (ear_started old) last.started (book_slots before) last.slots (ear_confirmed old))
      (sym leaves.confirmed)
      (heard_raises (served_by old.session before) some start (ear_started old) refl)))

  by_all : Leaves old.session new.session before after (piece_heard old.session before old.frames piece sent)
      → RaisesBook
  by_all leaves = by_part (all_is_part old.session new.session before after old.frames piece sent leaves)

  by_piece : (result : Result Heard LinkFault)
      → PieceLeaves result old.frames piece sent old.session new.session before after → RaisesBook
  by_piece (Ok heard) left = by_all left
  by_piece (Err fault.OutOfMemory) left = by_part left
  by_piece (Err fault.FrameTooLong) left = by_all left
  by_piece (Err fault.BadLength) left = by_all left
  by_piece (Err (fault.Unexpected byte)) left = by_all left
  by_piece (Err (fault.BadStart state)) left = by_all left
  by_piece (Err fault.StatusAhead) left = by_all left
  by_piece (Err fault.Closed) left = by_all left

  by_stay : ear_started new ≡ ear_started old → ear_confirmed new ≡ ear_confirmed old
      → book_slots after ≡ book_slots before → RaisesBook
  by_stay same still at = record {
    greatest = 0;
    low = omega arith;
    long = ap (λ (slots : List Slot). length slots) at;
    stays = λ s is. same ∙ is;
    begins = λ none s is. none_some s (sym none ∙ (sym same ∙ is));
    after_is = still ∙ same_greatest (ear_confirmed old);
    here = λ s is low. ap (λ (slots : List Slot). confirmed_at slots s.0) at
        ∙ same_greatest (confirmed_at (book_slots before) s.0);
    beside = λ number apart. ap (λ (slots : List Slot). confirmed_at slots number) at;
    rises = λ number. let kept = ap (λ (slots : List Slot). confirmed_at slots number) at in omega (arith, kept);
  }

  by_phase : (p : Phase) (result : Result Heard LinkFault) → HearLeaves p old new before after piece sent result
      → RaisesBook
  by_phase phase.Open result left = by_piece result left.leaves
  by_phase phase.Closed result left = by_stay left.ear.started left.ear.confirmed left.book.slots_are
  by_phase phase.Lost result left = by_stay left.ear.started left.ear.confirmed left.book.slots_are

-- a law: whatever an ear hears, it raises only what is confirmed for the slot of its stream, as its statuses say
pub hearing_raises : (old new : Ear) (before after : Book) (piece : List ℕ) (sent : ℕ) (result : Result Heard LinkFault)
    → HearLeaves (ear_phase old) old new before after piece sent result
    → Raises sent (ear_started old) (ear_started new) (book_slots before) (book_slots after) (ear_confirmed old)
    (ear_confirmed new)
hearing_raises old new before after piece sent result left =
    by_phase piece sent old new before after (ear_phase old) result left
