-- Up to where slots are confirmed after what an ear hears: a status on the connection of a stream confirms its slot,
-- and nothing else that is heard changes a confirmed position.
use Rattle.std.proofs.Common.{◌≡◌, ℕ, ◌<◌, ◌≤◌, ◌==◌, min, max, Bool, true, false, if◌then◌else◌, List, [], ◌∷◌, ◌++◌, take, drop, refl, sym, ap, subst, ◌∙◌, append_assoc, arith}
use Rattle.std.specs.Prelude.{Option, Some, None, Result, Ok, Err, nat_lt, slice_get, slice_set}
use Rattle.std.proofs.lemmas.Bool.{ltb-true, ltb-false}
use Rattle.std.proofs.lemmas.List.{take-append-drop}
use Rattle.std.proofs.lemmas.Option.{slice_get_within}
use Rattle.shard_checker.specs.CheckedView.{CheckedOf}
use Rattle.tables_log.specs.BookView.{book_slots}
use Rattle.tables_log.specs.Lsn.{end_lsn_of}
use Rattle.tables_log.specs.Slots.{changed, confirmed_at, confirmed_of, confirmed_up_to, raised, started, with_stream}
use Rattle.tables_log.specs.declared.book.Book.{Book}
use Rattle.tables_log.specs.declared.slots.Slot.{Slot}
use Rattle.tables_log.proofs.PlaceLemmas.{get_set_beside, get_set_here, number_apart, number_is}
use Rattle.copy_frames.specs.Frames.{after_frames, cut, frames_of, rest_of}
use Rattle.copy_frames.specs.declared.frame.Frame.{Frame}
use Rattle.copy_frames.specs.declared.status.Status.{Status}
use Rattle.copy_frames.proofs.PieceLemmas.{cut_more, more_after}
use Rattle.copy_both.specs.Ears.{HearLeaves, HearsPiece, ear_started}
use Rattle.copy_both.specs.Events.{event_of}
use Rattle.copy_both.specs.HeardFrames.{BooksOf, Confirms, ConfirmsAs, HasHeard, HasStatus, IsAmong, IsStartedBy, IsStatus, StatusesConfirm, Stays, frames_in}
use Rattle.copy_both.specs.Hearing.{BeginOf, Begins, Refuses, HearingOf, ServedFrom, begin_of, begun, confirmed_by, ended_by, event_heard, frame_heard, frames_heard, is_over, next_heard, unless_over}
use Rattle.copy_both.specs.Listening.{Leaves, PieceLeaves, fed, held_frames, part_heard, piece_heard, silence}
use Rattle.copy_both.specs.Phases.{IsReady}
use Rattle.copy_both.specs.Sessions.{hearing_view, served_by}
use Rattle.copy_both.specs.declared.ear.Ear.{Ear}
use Rattle.copy_both.specs.declared.event.Event.{Event}
use Rattle.copy_both.specs.declared.event.Event.TheVariants as event
use Rattle.copy_both.specs.declared.heard.Heard.{Heard}
use Rattle.copy_both.specs.declared.link_fault.LinkFault.{LinkFault}
use Rattle.copy_both.specs.declared.link_fault.LinkFault.TheVariants as fault
use Rattle.copy_both.proofs.FrameRuns.{over_by_end, status_event_is}
use Rattle.copy_both.proofs.HearingLemmas.{over_stays}
use Rattle.copy_both.proofs.PiecesHeard.{frames_after, frames_more}
use Rattle.copy_both.proofs.LinkLemmas.{all_is_part, frame_started, frames_started}
use Rattle.filter_tree.proofs.Tests.{by_test}

-- ---- the slots

-- a change of one slot leaves the others as they are
beside_stays : (slots : List Slot) (number other : ℕ) (new : Slot) → other == number ≡ false
    → confirmed_at (slice_set slots number new) other ≡ confirmed_at slots other
beside_stays slots number other new beside =
    ap confirmed_of (get_set_beside slots number other new (number_apart other number beside))

here_set : (slots : List Slot) (number other : ℕ) (slot new : Slot) → slice_get slots number ≡ Some slot
    → other == number ≡ true → confirmed_at (slice_set slots number new) other ≡ new.confirmed
here_set slots number other slot new at here =
    ap (λ (n : ℕ). confirmed_at (slice_set slots number new) n) (number_is other number here)
    ∙ ap confirmed_of (get_set_here slots number new (slice_get_within slots number slot at))

here_was : (slots : List Slot) (number other : ℕ) (slot : Slot) → slice_get slots number ≡ Some slot
    → other == number ≡ true → confirmed_at slots other ≡ slot.confirmed
here_was slots number other slot at here = ap (confirmed_at slots) (number_is other number here) ∙ ap confirmed_of at

-- a slot that a stream acquires is confirmed as before
start_found : (slots : List Slot) (number other : ℕ) (found : Option Slot) → slice_get slots number ≡ found
    → confirmed_at (changed slots number found (with_stream true)) other ≡ confirmed_at slots other
start_found slots number other None at = refl
start_found slots number other (Some slot) at = by_test (other == number)
    (λ here. here_set slots number other slot (with_stream true slot) at here
    ∙ sym (here_was slots number other slot at here))
    (λ beside. beside_stays slots number other (with_stream true slot) beside)

pub start_stays : (slots : List Slot) (number other : ℕ)
    → confirmed_at (started slots number) other ≡ confirmed_at slots other
start_stays slots number other = start_found slots number other (slice_get slots number) refl

-- a slot is confirmed as before, or it is this one, and this is its position
data Raises (before after : List Slot) (number position other : ℕ) : Type 0 where
  Same : confirmed_at after other ≡ confirmed_at before other → Raises before after number position other
  Raised : number ≡ other → position ≡ confirmed_at after other → Raises before after number position other

greatest_second : (one other : ℕ) → one < other → max one other ≡ other
greatest_second one other less = omega (arith, less)

greatest_first : (one other : ℕ) → other ≤ one → max one other ≡ one
greatest_first one other least = omega (arith, least)

raise_found : (slots : List Slot) (number position other : ℕ) (found : Option Slot) → slice_get slots number ≡ found
    → Raises slots (changed slots number found (raised position)) number position other
raise_found slots number position other None at = Same refl
raise_found slots number position other (Some slot) at = by_test (other == number)
    (λ here.
    let set : confirmed_at (slice_set slots number (raised position slot)) other ≡ max slot.confirmed position =
    here_set slots number other slot (raised position slot) at here in
    by_test (nat_lt slot.confirmed position)
    (λ less. Raised (sym (number_is other number here))
    (sym (set ∙ greatest_second slot.confirmed position (ltb-true slot.confirmed position less))))
    (λ least. Same (set ∙ greatest_first slot.confirmed position (ltb-false slot.confirmed position least)
    ∙ sym (here_was slots number other slot at here))))
    (λ beside. Same (beside_stays slots number other (raised position slot) beside))

raises : (slots : List Slot) (number position other : ℕ)
    → Raises slots (confirmed_up_to slots number position) number position other
raises slots number position other = raise_found slots number position other (slice_get slots number) refl

-- ---- statuses among frames

-- a status among these frames confirms the log up to here
record StatusAmong (frames : List Frame) (position : ℕ) : Type 0 where
  pub frame : Frame
  pub among : IsAmong frame frames
  pub status : Status
  pub is_status : IsStatus frame status
  pub flushed_is : status.flushed ≡ position

-- the slot is confirmed as before, or it is that of the stream, and a status among these frames confirms it up to here
data Moves (frames : List Frame) (stream : ℕ) (before after : List Slot) (slot : ℕ) : Type 0 where
  Kept : confirmed_at after slot ≡ confirmed_at before slot → Moves frames stream before after slot
  Moved : stream ≡ slot → StatusAmong frames (confirmed_at after slot) → Moves frames stream before after slot

among_after : (front : List Frame) (frame : Frame) (frames : List Frame) → IsAmong frame frames
    → IsAmong frame (front ++ frames)
among_after front frame frames among = record {
  before = front ++ among.before;
  after = among.after;
  frames_are = ap (λ (x : List Frame). front ++ x) among.frames_are
      ∙ sym (append_assoc front among.before (frame ∷ among.after));
}

among_before : (frame : Frame) (frames more : List Frame) → IsAmong frame frames → IsAmong frame (frames ++ more)
among_before frame frames more among = record {
  before = among.before;
  after = among.after ++ more;
  frames_are = ap (λ (x : List Frame). x ++ more) among.frames_are
      ∙ append_assoc among.before (frame ∷ among.after) more;
}

status_after : (front frames : List Frame) (position : ℕ) → StatusAmong frames position
    → StatusAmong (front ++ frames) position
status_after front frames position says = record {
  frame = says.frame;
  among = among_after front says.frame frames says.among;
  status = says.status;
  is_status = says.is_status;
  flushed_is = says.flushed_is;
}

-- from slots that are confirmed as these
moves_from : (frames : List Frame) (stream : ℕ) (first before after : List Slot) (slot : ℕ)
    → confirmed_at before slot ≡ confirmed_at first slot → Moves frames stream before after slot
    → Moves frames stream first after slot
moves_from frames stream first before after slot same (Kept kept) = Kept (kept ∙ same)
moves_from frames stream first before after slot same (Moved is says) = Moved is says

moves_after : (front frames : List Frame) (stream : ℕ) (before after : List Slot) (slot : ℕ)
    → Moves frames stream before after slot → Moves (front ++ frames) stream before after slot
moves_after front frames stream before after slot (Kept kept) = Kept kept
moves_after front frames stream before after slot (Moved is says) =
    Moved is (status_after front frames (confirmed_at after slot) says)

first_among : (frame : Frame) (frames : List Frame) → IsAmong frame (frame ∷ frames)
first_among frame frames = record { before = []; after = frames; frames_are = refl }

-- what a frame does, and then the others
both_move : (frame : Frame) (frames : List Frame) (stream : ℕ) (before middle after : List Slot) (slot : ℕ)
    → Moves (frame ∷ []) stream before middle slot → Moves frames stream middle after slot
    → Moves (frame ∷ frames) stream before after slot
both_move frame frames stream before middle after slot one (Moved same says) =
    Moved same (status_after (frame ∷ []) frames (confirmed_at after slot) says)
both_move frame frames stream before middle after slot (Kept first) (Kept second) = Kept (second ∙ first)
both_move frame frames stream before middle after slot (Moved same says) (Kept second) =
    Moved same (record {
      frame = says.frame;
      among = among_before says.frame (frame ∷ []) frames says.among;
      status = says.status;
      is_status = says.is_status;
      flushed_is = says.flushed_is ∙ sym second;
    })

-- ---- frames while a stream runs

module _ (served : ServedFrom) where
  raise_moves : (frame : Frame) (status : Status) → IsStatus frame status → (stream : ℕ) (before after : List Slot)
      (slot : ℕ) → Raises before after stream status.flushed slot → Moves (frame ∷ []) stream before after slot
  raise_moves frame status is_status stream before after slot (Same same) = Kept same
  raise_moves frame status is_status stream before after slot (Raised same at) = Moved same (record {
    frame = frame;
    among = first_among frame [];
    status = status;
    is_status = is_status;
    flushed_is = at;
  })

  ahead_moves : (frame : Frame) (ahead : Bool) (stream : ℕ) (status : Status) → IsStatus frame status
      → (h : HearingOf) (slot : ℕ)
      → Moves (frame ∷ []) stream h.slots (confirmed_by ahead stream status h).slots slot
  ahead_moves frame true stream status is_status h slot = Kept refl
  ahead_moves frame false stream status is_status h slot =
      raise_moves frame status is_status stream h.slots (confirmed_up_to h.slots stream status.flushed) slot
      (raises h.slots stream status.flushed slot)

  event_moves : (frame : Frame) (stream : ℕ) (e : Result Event LinkFault) → event_of frame.kind frame.body ≡ e
      → (h : HearingOf) (slot : ℕ) → Moves (frame ∷ []) stream h.slots (event_heard served stream e h).slots slot
  event_moves frame stream (Err fault) is h slot = Kept refl
  event_moves frame stream (Ok (event.End kind)) is h slot = Kept refl
  event_moves frame stream (Ok (event.Status status)) is h slot =
      ahead_moves frame (nat_lt (min h.sent (end_lsn_of served.commits)) status.flushed) stream status
      (status_event_is frame status is) h slot

  over_moves : (frame : Frame) (over : Bool) (stream : ℕ) (h next : HearingOf) (slot : ℕ)
      → Moves (frame ∷ []) stream h.slots next.slots slot
      → Moves (frame ∷ []) stream h.slots (unless_over over h next).slots slot
  over_moves frame true stream h next slot moves = Kept refl
  over_moves frame false stream h next slot moves = moves

  frame_moves : (h : HearingOf) (frame : Frame) (s : ℕ × ℕ) → h.started ≡ Some s → (slot : ℕ)
      → Moves (frame ∷ []) s.0 h.slots (frame_heard served h frame).slots slot
  frame_moves h frame s is slot =
      over_moves frame (is_over h) s.0 h (next_heard served frame h.started h) slot
      (subst (λ (o : Option (ℕ × ℕ)). Moves (frame ∷ []) s.0 h.slots (next_heard served frame o h).slots slot) (sym is)
      (event_moves frame s.0 (event_of frame.kind frame.body) refl h slot))

  stream_moves : (frames : List Frame) (h : HearingOf) (s : ℕ × ℕ) → h.started ≡ Some s → (slot : ℕ)
      → Moves frames s.0 h.slots (frames_heard served h frames).slots slot
  unfolding frames_heard
  stream_moves [] h s is slot = Kept refl
  stream_moves (frame ∷ frames) h s is slot =
      both_move frame frames s.0 h.slots (frame_heard served h frame).slots
      (frames_heard served (frame_heard served h frame) frames).slots slot (frame_moves h frame s is slot)
      (stream_moves frames (frame_heard served h frame) s (frame_started served h frame s is) slot)

  -- ---- frames from the first on

  -- what the frames that follow the first one do
  later_moves : (first : Frame) (others all : List Frame) (started : Option (ℕ × ℕ)) (s : ℕ × ℕ)
      (before after : List Slot) (slot : ℕ) → all ≡ first ∷ others → started ≡ Some s
      → Moves others s.0 before after slot → ConfirmsAs all started before after slot
  later_moves first others all started s before after slot are is (Kept same) = Stays same
  later_moves first others all started s before after slot are is (Moved same says) =
      Confirms s.1 (is ∙ ap (λ (n : ℕ). Some (n, s.1)) same) (record {
        frame = says.frame;
        later = record { first = first; others = others; frames_are = are; among = says.among };
        status = says.status;
        is_status = says.is_status;
        flushed_is = says.flushed_is;
      })

  abbrev ConfirmsOn : List Frame → HearingOf → HearingOf → ℕ → Type 0
  ConfirmsOn frames h last slot = ConfirmsAs frames last.started h.slots last.slots slot

  -- nothing is heard after a fault or an end
  stops : (all frames : List Frame) (h next : HearingOf) (slot : ℕ) → next.slots ≡ h.slots → is_over next ≡ true
      → ConfirmsOn all h (frames_heard served next frames) slot
  stops all frames h next slot same over =
      Stays (ap (λ (x : HearingOf). confirmed_at x.slots slot) (over_stays served next frames over)
      ∙ ap (λ (x : List Slot). confirmed_at x slot) same)

  begins_confirm : (frame : Frame) (frames : List Frame) (h : HearingOf) (b : BeginOf) (slot : ℕ)
      → ConfirmsOn (frame ∷ frames) h (frames_heard served (begun b h) frames) slot
  begins_confirm frame frames h (Begins stream start) slot =
      let next : HearingOf = begun (Begins stream start) h in
      let last : HearingOf = frames_heard served next frames in
      later_moves frame frames (frame ∷ frames) last.started (stream, start) h.slots last.slots slot refl
      (frames_started served next frames (stream, start) refl)
      (moves_from frames stream h.slots next.slots last.slots slot (start_stays h.slots stream slot)
      (stream_moves frames next (stream, start) refl slot))
  begins_confirm frame frames h (Refuses refusal) slot =
      stops (frame ∷ frames) frames h (begun (Refuses refusal) h) slot refl refl

  first_confirm : (frames : List Frame) (h : HearingOf) → h.started ≡ None → (slot : ℕ)
      → ConfirmsOn frames h (frames_heard served h frames) slot
  unfolding frames_heard
  first_confirm [] h none slot = Stays refl
  first_confirm (frame ∷ frames) h none slot =
      let begins : BeginOf = begin_of served h.slots frame.kind frame.body in
      let Goal : HearingOf → Type 0 = λ next. ConfirmsOn (frame ∷ frames) h (frames_heard served next frames) slot in
      by_test (is_over h)
      (λ over. subst Goal (sym (ap (λ b. unless_over b h (next_heard served frame h.started h)) over))
      (stops (frame ∷ frames) frames h h slot refl over))
      (λ going.
      let step : frame_heard served h frame ≡ (if frame.kind == 88 then ended_by 88 h else begun begins h) =
      ap (λ b. unless_over b h (next_heard served frame h.started h)) going
      ∙ ap (λ (o : Option (ℕ × ℕ)). next_heard served frame o h) none in
      subst Goal (sym step)
      (by_test (frame.kind == 88)
      (λ yes. subst Goal (sym (ap (λ b. if b then ended_by 88 h else begun begins h) yes))
      (stops (frame ∷ frames) frames h (ended_by 88 h) slot refl (over_by_end h.fault 88)))
      (λ other. subst Goal (sym (ap (λ b. if b then ended_by 88 h else begun begins h) other))
      (begins_confirm frame frames h begins slot))))

  -- frames that are heard after others
  heard_confirm : (checked : CheckedOf) (known : BooksOf) (earlier frames : List Frame) (h : HearingOf)
      (was : Option (ℕ × ℕ)) → h.started ≡ was → IsStartedBy checked known earlier was → (slot : ℕ)
      → ConfirmsOn (earlier ++ frames) h (frames_heard served h frames) slot
  heard_confirm checked known earlier frames h None is none slot =
      subst (λ (x : List Frame). ConfirmsOn (x ++ frames) h (frames_heard served h frames) slot) (sym none)
      (first_confirm frames h is slot)
  heard_confirm checked known earlier frames h (Some s) is asks slot =
      let last : HearingOf = frames_heard served h frames in
      later_moves asks.frame (asks.first.others ++ frames) (earlier ++ frames) last.started s h.slots last.slots slot
      (ap (λ (x : List Frame). x ++ frames) asks.first.frames_are) (frames_started served h frames s is)
      (moves_after asks.first.others frames s.0 h.slots last.slots slot (stream_moves frames h s is slot))

-- ---- a piece

-- further frames change nothing of this
status_more : (frames more : List Frame) (position : ℕ) → HasStatus frames position
    → HasStatus (frames ++ more) position
status_more frames more position says = record {
  frame = says.frame;
  later = record {
    first = says.later.first;
    others = says.later.others ++ more;
    frames_are = ap (λ (x : List Frame). x ++ more) says.later.frames_are;
    among = among_before says.frame says.later.others more says.later.among;
  };
  status = says.status;
  is_status = says.is_status;
  flushed_is = says.flushed_is;
}

confirms_more : (frames more : List Frame) (started : Option (ℕ × ℕ)) (before after : List Slot) (slot : ℕ)
    → ConfirmsAs frames started before after slot → ConfirmsAs (frames ++ more) started before after slot
confirms_more frames more started before after slot (Stays same) = Stays same
confirms_more frames more started before after slot (Confirms start is says) =
    Confirms start is (status_more frames more (confirmed_at after slot) says)

module _ (checked : CheckedOf) (known : BooksOf) (bytes piece : List ℕ) (old new : Ear) (before after : Book) (sent : ℕ)
    (has : HasHeard checked known bytes old) where
  abbrev pub of_piece : List Frame
  of_piece = held_frames (fed old.frames piece)

  ready : IsReady old.frames old.session.response.items
  ready = old.fits has.phase_is

  pub all_frames : frames_in (bytes ++ piece) ≡ frames_in bytes ++ of_piece
  all_frames =
      ap frames_of (cut_more 65536 bytes piece has.good ∙ more_after 65536 piece (cut 65536 bytes) has.good
      ∙ ap (λ (held : List ℕ). after_frames (frames_in bytes) (cut 65536 (held ++ piece))) (sym has.held)
      ∙ ap (λ (most : ℕ). after_frames (frames_in bytes) (cut most (old.frames.bytes ++ piece))) (sym ready.limit))
      ∙ frames_after (frames_in bytes) (cut old.frames.limit (old.frames.bytes ++ piece))

  abbrev Wanted : ℕ → Type 0
  Wanted slot = ConfirmsAs (frames_in (bytes ++ piece)) (ear_started new) (book_slots before) (book_slots after) slot

  -- the first frames of the piece were heard, this number of them
  by_part : (slot count : ℕ)
      → Leaves old.session new.session before after (part_heard count old.session before old.frames piece sent)
      → Wanted slot
  by_part slot count leaves =
      let some : List Frame = take count of_piece in
      let left : List Frame = drop count of_piece in
      let served : ServedFrom = served_by old.session before in
      let start : HearingOf = hearing_view old.session (silence sent) before in
      let last : HearingOf = frames_heard served start some in
      let split : (frames_in bytes ++ some) ++ left ≡ frames_in (bytes ++ piece) =
      append_assoc (frames_in bytes) some left
      ∙ ap (λ (x : List Frame). frames_in bytes ++ x) (take-append-drop count of_piece) ∙ sym all_frames in
      let heard : ConfirmsAs (frames_in bytes ++ some) last.started (book_slots before) last.slots slot =
      heard_confirm served checked known (frames_in bytes) some start (ear_started old) refl has.started slot in
      let all : List Frame = frames_in (bytes ++ piece) in
      subst (λ (o : Option (ℕ × ℕ)). ConfirmsAs all o (book_slots before) (book_slots after) slot) (sym leaves.started)
      (subst (λ (x : List Slot). ConfirmsAs all last.started (book_slots before) x slot)
      (sym leaves.book.slots_are)
      (subst (λ (x : List Frame). ConfirmsAs x last.started (book_slots before) last.slots slot) split
      (confirms_more (frames_in bytes ++ some) left last.started (book_slots before) last.slots slot heard)))

  by_all : (slot : ℕ)
      → Leaves old.session new.session before after (piece_heard old.session before old.frames piece sent) → Wanted slot
  by_all slot leaves =
      let some = all_is_part old.session new.session before after old.frames piece sent leaves in
      by_part slot some.0 some.1

  by_piece : (slot : ℕ) (result : Result Heard LinkFault)
      → PieceLeaves result old.frames piece sent old.session new.session before after → Wanted slot
  by_piece slot (Ok heard) left = by_all slot left
  by_piece slot (Err fault.OutOfMemory) left = by_part slot left.0 left.1
  by_piece slot (Err fault.FrameTooLong) left = by_all slot left
  by_piece slot (Err fault.BadLength) left = by_all slot left
  by_piece slot (Err (fault.Unexpected byte)) left = by_all slot left
  by_piece slot (Err (fault.BadStart state)) left = by_all slot left
  by_piece slot (Err fault.StatusAhead) left = by_all slot left
  by_piece slot (Err fault.Closed) left = by_all slot left

pub statuses_confirm : StatusesConfirm
statuses_confirm checked known bytes piece old new before after sent result has left slot =
    let hears : HearsPiece old new before after piece sent result =
    subst (λ p. HearLeaves p old new before after piece sent result) has.phase_is left in
    by_piece checked known bytes piece old new before after sent has slot result hears.leaves

-- whatever bytes follow
pub statuses_stay : (checked : CheckedOf) (known : BooksOf) (bytes more : List ℕ) (ear : Ear) (position : ℕ)
    → HasHeard checked known bytes ear → HasStatus (frames_in bytes) position
    → HasStatus (frames_in (bytes ++ more)) position
statuses_stay checked known bytes more ear position has says =
    subst (λ (x : List Frame). HasStatus x position) (sym (frames_more checked known bytes more ear has))
    (status_more (frames_in bytes) (frames_of (cut 65536 (rest_of (cut 65536 bytes) ++ more))) position says)
