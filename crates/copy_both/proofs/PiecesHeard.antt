-- What an ear has heard of all bytes since its first, after another piece.
use Rattle.std.proofs.Common.{◌≡◌, ℕ, ◌<◌, min, Bool, true, false, List, [], ◌∷◌, ◌++◌, length, take, drop, refl, sym, ap, subst, ◌∙◌, append_assoc, append-nil, inl, inr}
use Rattle.std.specs.Prelude.{Option, Some, None, Result, Ok, Err, IfErr}
use Rattle.std.proofs.lemmas.List.{take-append-drop}
use Rattle.filter_tree.specs.Memory.{Answers}
use Rattle.shard_checker.specs.CheckedView.{CheckedOf}
use Rattle.tables_log.specs.BookView.{book_log, book_slots}
use Rattle.tables_log.specs.Lsn.{end_lsn_of}
use Rattle.tables_log.specs.Slots.{confirmed_at}
use Rattle.tables_log.specs.declared.book.Book.{Book}
use Rattle.copy_frames.specs.Frames.{FrameCut, cut, after_frames, cut_fault, frames_of, rest_of, fault_in}
use Rattle.copy_frames.specs.declared.fault.FrameFault.{FrameFault}
use Rattle.copy_frames.specs.declared.fault.FrameFault.TheVariants as frame
use Rattle.copy_frames.specs.declared.frame.Frame.{Frame}
use Rattle.copy_frames.proofs.PieceLemmas.{cut_more, more_after, rest_after}
use Rattle.copy_both.specs.Ears.{ear_checked, ear_refusal, ear_started, ear_heard, answer_in, HearLeaves, HearsPiece, Holds}
use Rattle.copy_both.specs.HeardFrames.{SentNone, TellsStart, reported_start, frames_in, IsAnswered, IsBookFor, BooksOf, AsksIfStarted, IsStartedBy, IsTerminated, HasHeard, HasEnd, HasBadFrame, HasLinkFault, sent_then, reach_of, GoesOnOrEnds, Explains, HasHeardOn, LateStartsAreRequested, NothingIsHeard, PiecesAreHeard, Requests}
use Rattle.copy_both.specs.Hearing.{HearingOf, ServedFrom, answer_by, answer_of, frames_heard, reported_heard, is_over, is_over_by, link_fault, then_fault, unless_over, with_fault}
use Rattle.copy_both.specs.Listening.{silence, Leaves, fed, resting, part_heard}
use Rattle.copy_both.specs.Phases.{IsReady, phase_after, phase_by}
use Rattle.copy_both.specs.Sessions.{served_by, hearing_view}
use Rattle.copy_both.specs.Voices.{reported_fault}
use Rattle.copy_both.specs.declared.ear.Ear.{Ear}
use Rattle.copy_both.specs.declared.heard.Heard.{Heard}
use Rattle.copy_both.specs.declared.link_fault.LinkFault.{LinkFault}
use Rattle.copy_both.specs.declared.link_fault.LinkFault.TheVariants as fault
use Rattle.copy_both.specs.declared.phase.Phase.TheVariants as phase
use Rattle.copy_both.proofs.FrameRuns.{fault_over, end_over, event_fault, IsEventFault, asks_if_more, Comes, Comes_on, Comes_bad, Comes_refused, Comes_ahead, Comes_ended, Ran, runs_on}
use Rattle.copy_both.proofs.LinkLemmas.{fault_started, frames_started}
use Rattle.copy_both.proofs.RequestedStarts.{late_requests, requests_more}
use Rattle.copy_both.proofs.StartsReported.{all_reported}

-- ---- more bytes

pub frames_after : (frames : List Frame) (last : FrameCut) → frames_of (after_frames frames last) ≡ frames ++ frames_of last
frames_after [] last = refl
frames_after (first ∷ frames) last = ap (λ (x : List Frame). first ∷ x) (frames_after frames last)

fault_after : (frames : List Frame) (last : FrameCut) → cut_fault (after_frames frames last) ≡ cut_fault last
fault_after [] last = refl
fault_after (first ∷ frames) last = fault_after frames last

-- ---- the answer

pub ok_faultless : (f : Option LinkFault) (heard reported : Heard) → answer_by f heard ≡ Ok reported → (f ≡ None) × (heard ≡ reported)
ok_faultless None heard reported is = (refl, cc)
ok_faultless (Some f) heard reported is = absurd cc

pub err_faulty : (f : Option LinkFault) (heard : Heard) (g : LinkFault) → answer_by f heard ≡ Err g → f ≡ Some g
err_faulty None heard g is = absurd cc
err_faulty (Some f) heard g is = let same : f ≡ g = cc in ap Some same

-- a fault stays, and so does an end
fault_stays : (f : Option FrameFault) (last : HearingOf) (g : LinkFault) → last.fault ≡ Some g
    → (then_fault f last).fault ≡ Some g
fault_stays None last g is = is
fault_stays (Some f) last g is =
    let over : is_over last ≡ true = ap (λ (x : Option LinkFault). is_over_by x last.heard.ended) is in
    ap (λ (b : Bool). (unless_over b last (with_fault (link_fault f) last)).fault) over ∙ is

end_stays : (f : Option FrameFault) (last : HearingOf) (kind : ℕ) → last.fault ≡ None → last.heard.ended ≡ Some kind
    → then_fault f last ≡ last
end_stays None last kind none is = refl
end_stays (Some f) last kind none is =
    let over : is_over last ≡ true =
    ap (λ (x : Option LinkFault). is_over_by x last.heard.ended) none ∙ ap (λ (x : Option ℕ). is_over_by None x) is in
    ap (λ (b : Bool). unless_over b last (with_fault (link_fault f) last)) over

-- the fault of a length comes last
pub length_fault : (f : FrameFault) (last : HearingOf) → is_over last ≡ false
    → (then_fault (Some f) last).fault ≡ Some (link_fault f)
length_fault f last going = ap (λ (b : Bool). (unless_over b last (with_fault (link_fault f) last)).fault) going

-- the answer if nothing went wrong
data Answered (checked : CheckedOf) (known : BooksOf) (frames : List Frame) (f : Option FrameFault) (last : HearingOf)
    (ended : Option ℕ) : Type 0 where
  Answered_on : f ≡ None → IsStartedBy checked known frames last.started → ended ≡ None → Answered checked known frames f last ended
  Answered_end : (kind : ℕ) → HasEnd frames kind → (last.started ≡ None → IsTerminated frames) → ended ≡ Some kind
      → Answered checked known frames f last ended

some_is : (f : Option LinkFault) (g : LinkFault) → f ≡ Some g → f ≡ None → ⊥
some_is f g some none = let clash : Some g ≡ None = sym some ∙ none in cc

module _ (checked : CheckedOf) (known : BooksOf) (frames : List Frame) (reach : ℕ) (last : HearingOf) where
  ok_on : (f : Option FrameFault) (reported : Heard) → is_over last ≡ false → IsStartedBy checked known frames last.started
      → answer_of (then_fault f last) ≡ Ok reported
      → Answered checked known frames f last reported.ended
  ok_on None reported going started is =
      let same = (ok_faultless last.fault (reported_heard last.heard) reported is).1 in
      Answered_on refl started (sym (ap (λ (x : Heard). x.ended) same) ∙ end_over last.fault last.heard.ended going)
  ok_on (Some f) reported going started is =
      absurd (some_is (then_fault (Some f) last).fault (link_fault f) (length_fault f last going)
      (ok_faultless (then_fault (Some f) last).fault (reported_heard (then_fault (Some f) last).heard) reported is).0)

  wrong : (f : Option FrameFault) (reported : Heard) (g : LinkFault) → last.fault ≡ Some g
      → answer_of (then_fault f last) ≡ Ok reported → ⊥
  wrong f reported g some is =
      some_is (then_fault f last).fault g (fault_stays f last g some)
      (ok_faultless (then_fault f last).fault (reported_heard (then_fault f last).heard) reported is).0

  ok_comes : (f : Option FrameFault) (reported : Heard) → Comes checked known frames reach last
      → answer_of (then_fault f last) ≡ Ok reported → Answered checked known frames f last reported.ended
  ok_comes f reported (Comes_on going started) is = ok_on f reported going started is
  ok_comes f reported (Comes_bad g bad goes some) is = absurd (wrong f reported g some is)
  ok_comes f reported (Comes_refused state answered some) is = absurd (wrong f reported (fault.BadStart state) some is)
  ok_comes f reported (Comes_ahead says goes some) is = absurd (wrong f reported fault.StatusAhead some is)
  ok_comes f reported (Comes_ended kind ends parted none some) is =
      let stays : then_fault f last ≡ last = end_stays f last kind none some in
      let same = (ok_faultless last.fault (reported_heard last.heard) reported (sym (ap answer_of stays) ∙ is)).1 in
      Answered_end kind ends parted (sym (ap (λ (x : Heard). x.ended) same) ∙ some)

module _ (checked : CheckedOf) (known : BooksOf) (bytes : List ℕ) (reach : ℕ) (last : HearingOf) where
  by_length : (f : FrameFault) → fault_in 65536 bytes ≡ Some f → HasLinkFault checked known bytes reach (link_fault f)
  by_length frame.BadLength is = inl is
  by_length frame.FrameTooLong is = is
  by_length frame.OutOfMemory is = tt

  by_frame : (g : LinkFault) → IsEventFault g → HasBadFrame (frames_in bytes) g → HasLinkFault checked known bytes reach g
  by_frame fault.FrameTooLong so bad = absurd so
  by_frame fault.BadLength so bad = inr bad
  by_frame (fault.Unexpected byte) so bad = bad
  by_frame (fault.BadStart state) so bad = absurd so
  by_frame fault.StatusAhead so bad = absurd so
  by_frame fault.Closed so bad = absurd so
  by_frame fault.OutOfMemory so bad = absurd so

  same_fault : (f : Option LinkFault) (one other : LinkFault) → f ≡ Some one → f ≡ Some other → one ≡ other
  same_fault f one other first second = let both : Some one ≡ Some other = sym first ∙ second in cc

  err_on : (f : Option FrameFault) (g : LinkFault) → fault_in 65536 bytes ≡ f → is_over last ≡ false
      → (then_fault f last).fault ≡ Some g → HasLinkFault checked known bytes reach g
  err_on None g is going some = absurd (some_is last.fault g some (fault_over last.fault last.heard.ended going))
  err_on (Some f) g is going some =
      subst (HasLinkFault checked known bytes reach)
      (same_fault (then_fault (Some f) last).fault (link_fault f) g (length_fault f last going) some)
      (by_length f is)

  err_comes : (f : Option FrameFault) (g : LinkFault) → fault_in 65536 bytes ≡ f
      → Comes checked known (frames_in bytes) reach last → (then_fault f last).fault ≡ Some g
      → HasLinkFault checked known bytes reach g
  err_comes f g is (Comes_on going started) some = err_on f g is going some
  err_comes f g is (Comes_bad other bad goes fails) some =
      subst (HasLinkFault checked known bytes reach)
      (same_fault (then_fault f last).fault other g (fault_stays f last other fails) some)
      (by_frame other (event_fault bad.frame other bad.fails) bad)
  err_comes f g is (Comes_refused state answered fails) some =
      subst (HasLinkFault checked known bytes reach)
      (same_fault (then_fault f last).fault (fault.BadStart state) g
      (fault_stays f last (fault.BadStart state) fails) some) answered.refused
  err_comes f g is (Comes_ahead says goes fails) some =
      subst (HasLinkFault checked known bytes reach)
      (same_fault (then_fault f last).fault fault.StatusAhead g (fault_stays f last fault.StatusAhead fails) some)
      says
  err_comes f g is (Comes_ended kind ends parted none so) some =
      absurd (some_is last.fault g (sym (ap (λ (x : HearingOf). x.fault) (end_stays f last kind none so)) ∙ some) none)

  -- the response to a start that is refused
  abbrev Has : LinkFault → Type 0
  Has = IsAnswered checked known (frames_in bytes) last.response

  of_length : (f : FrameFault) → Has (link_fault f)
  of_length frame.BadLength = tt
  of_length frame.FrameTooLong = tt
  of_length frame.OutOfMemory = tt

  of_frame : (g : LinkFault) → IsEventFault g → Has g
  of_frame fault.FrameTooLong so = tt
  of_frame fault.BadLength so = tt
  of_frame (fault.Unexpected byte) so = tt
  of_frame (fault.BadStart state) so = absurd so
  of_frame fault.StatusAhead so = tt
  of_frame fault.Closed so = tt
  of_frame fault.OutOfMemory so = tt

  answered_on : (f : Option FrameFault) (g : LinkFault) → is_over last ≡ false → (then_fault f last).fault ≡ Some g
      → Has g
  answered_on None g going some = absurd (some_is last.fault g some (fault_over last.fault last.heard.ended going))
  answered_on (Some f) g going some =
      subst Has (same_fault (then_fault (Some f) last).fault (link_fault f) g (length_fault f last going) some)
      (of_length f)

  answered_comes : (f : Option FrameFault) (g : LinkFault) → Comes checked known (frames_in bytes) reach last
      → (then_fault f last).fault ≡ Some g → Has g
  answered_comes f g (Comes_on going started) some = answered_on f g going some
  answered_comes f g (Comes_bad other bad goes fails) some =
      subst Has (same_fault (then_fault f last).fault other g (fault_stays f last other fails) some)
      (of_frame other (event_fault bad.frame other bad.fails))
  answered_comes f g (Comes_refused state answered fails) some =
      subst Has (same_fault (then_fault f last).fault (fault.BadStart state) g
      (fault_stays f last (fault.BadStart state) fails) some) answered
  answered_comes f g (Comes_ahead says goes fails) some =
      subst Has (same_fault (then_fault f last).fault fault.StatusAhead g
      (fault_stays f last fault.StatusAhead fails) some) tt
  answered_comes f g (Comes_ended kind ends parted none so) some =
      absurd (some_is last.fault g (sym (ap (λ (x : HearingOf). x.fault) (end_stays f last kind none so)) ∙ some) none)

module _ (checked : CheckedOf) (known : BooksOf) (bytes : List ℕ) (reach : ℕ) (last : HearingOf)
    (idle : last.started ≡ None) where
  none_by : (g : LinkFault) → frames_in bytes ≡ [] → SentNone (frames_in bytes) g
  none_by fault.FrameTooLong none = none
  none_by fault.BadLength none = none
  none_by (fault.Unexpected byte) none = none
  none_by (fault.BadStart state) none = tt
  none_by fault.StatusAhead none = none
  none_by fault.Closed none = none
  none_by fault.OutOfMemory none = tt

  none_comes : (f : Option FrameFault) (g : LinkFault) → Comes checked known (frames_in bytes) reach last
      → (then_fault f last).fault ≡ Some g → SentNone (frames_in bytes) g
  none_comes f g (Comes_on going started) some =
      none_by g (subst (IsStartedBy checked known (frames_in bytes)) idle started)
  none_comes f g (Comes_bad other bad goes fails) some = absurd (goes idle)
  none_comes f g (Comes_refused state answered fails) some =
      subst (SentNone (frames_in bytes))
      (same_fault checked known bytes reach last (then_fault f last).fault (fault.BadStart state) g
      (fault_stays f last (fault.BadStart state) fails) some) tt
  none_comes f g (Comes_ahead says goes fails) some = absurd (goes idle)
  none_comes f g (Comes_ended kind ends parted none so) some =
      absurd (some_is last.fault g (sym (ap (λ (x : HearingOf). x.fault) (end_stays f last kind none so)) ∙ some) none)

same_response : (b : Bool) (one other : HearingOf) → other.response ≡ one.response
    → (unless_over b one other).response ≡ one.response
same_response true one other same = refl
same_response false one other same = same

fault_response : (f : Option FrameFault) (last : HearingOf) → (then_fault f last).response ≡ last.response
fault_response None last = refl
fault_response (Some f) last = same_response (is_over last) last (with_fault (link_fault f) last) refl

-- ---- a piece

module _ (known : BooksOf) (bytes piece : List ℕ) (old new : Ear) (before after : Book) (sent : ℕ)
    (has : HasHeard (ear_checked old) known bytes old) (is_for : IsBookFor (ear_checked old) known before) where
  abbrev all : List ℕ
  all = bytes ++ piece

  abbrev limit : ℕ
  limit = old.frames.limit

  abbrev whole : FrameCut
  whole = cut limit (old.frames.bytes ++ piece)

  ready : IsReady old.frames old.session.response.items
  ready = old.fits has.phase_is

  cut_is : cut 65536 all ≡ after_frames (frames_in bytes) whole
  cut_is =
      cut_more 65536 bytes piece has.good ∙ more_after 65536 piece (cut 65536 bytes) has.good
      ∙ ap (λ (held : List ℕ). after_frames (frames_in bytes) (cut 65536 (held ++ piece))) (sym has.held)
      ∙ ap (λ (most : ℕ). after_frames (frames_in bytes) (cut most (old.frames.bytes ++ piece))) (sym ready.limit)

  all_frames : frames_in all ≡ frames_in bytes ++ frames_of whole
  all_frames = ap frames_of cut_is ∙ frames_after (frames_in bytes) whole

  all_fault : fault_in 65536 all ≡ cut_fault whole
  all_fault = ap cut_fault cut_is ∙ fault_after (frames_in bytes) whole

  abbrev served : ServedFrom
  served = served_by old.session before

  abbrev start : HearingOf
  start = hearing_view old.session (silence sent) before

  abbrev last : HearingOf
  last = frames_heard served start (frames_of whole)

  abbrev reached : Option (ℕ × ℕ) → ℕ
  reached now = min (sent_then (ear_started old) sent now) (end_lsn_of (length (book_log before)))

  ran : Ran (ear_checked old) known (frames_in all) (reached last.started) last
  ran = subst (λ (x : List Frame). Ran (ear_checked old) known x (reached last.started) last) (sym all_frames)
      (runs_on (ear_checked old) known before is_for (frames_in bytes) (frames_of whole) start refl ready.silent refl
      has.started)

  total_started : (ear_heard old before piece sent).started ≡ last.started
  total_started = fault_started (cut_fault whole) last

  hears_on : (heard : Heard) → HearsPiece old new before after piece sent (Ok heard) → heard.ended ≡ None
      → cut_fault whole ≡ None
      → IsStartedBy (ear_checked old) known (frames_in all) last.started → HasHeard (ear_checked old) known all new
  hears_on heard left none good started =
      let opens : phase_after (Ok heard) ≡ phase.Open = ap phase_by none in
      let rests : new.frames ≡ resting (fed old.frames piece) = subst (λ p. Holds p old new piece) opens left.holds in
      record {
        checked_is = left.leaves.checked;
        phase_is = left.phase_is ∙ opens;
        held = ap (λ i. i.bytes) rests ∙ sym (ap rest_of cut_is ∙ rest_after (frames_in bytes) whole);
        good = all_fault ∙ good;
        started = subst (IsStartedBy (ear_checked old) known (frames_in all)) (sym (left.leaves.started ∙ total_started))
            started;
      }

  ok_explained : (heard : Heard) → HearsPiece old new before after piece sent (Ok heard)
      → Answered (ear_checked old) known (frames_in all) (cut_fault whole) last heard.ended
      → GoesOnOrEnds (ear_checked old) known all new heard.ended
  ok_explained heard left (Answered_on good started none) =
      subst (GoesOnOrEnds (ear_checked old) known all new) (sym none) (hears_on heard left none good started)
  ok_explained heard left (Answered_end kind ends parted some) =
      subst (GoesOnOrEnds (ear_checked old) known all new) (sym some)
      (ends, λ no. parted (sym (left.leaves.started ∙ total_started) ∙ no))

  -- all of the piece was heard
  by_whole : ear_started new ≡ last.started → (result : Result Heard LinkFault)
      → TellsStart (ear_started old) (ear_started new) result
      → Explains (ear_checked old) known all new (reach_of old new before sent) result
      → IfErr result (IsAnswered (ear_checked old) known (frames_in all) (ear_refusal new))
      → (ear_started new ≡ None → IfErr result (SentNone (frames_in all)))
      → HasHeardOn (ear_checked old) known all old new before sent result
  by_whole is result tells explains answered none = record {
    stays = λ s so. is ∙ frames_started served start (frames_of whole) s so;
    asks = subst (AsksIfStarted (ear_checked old) known (frames_in all)) (sym is) ran.asks;
    tells = tells;
    explains = explains;
    answered = answered;
    none = none;
  }

  ok_tells : (heard : Heard) → ear_started new ≡ last.started → answer_of (ear_heard old before piece sent) ≡ Ok heard
      → heard.started ≡ reported_start (ear_started old) (ear_started new)
  ok_tells heard is answer =
      let total : HearingOf = ear_heard old before piece sent in
      sym (ap (λ (x : Heard). x.started) (ok_faultless total.fault (reported_heard total.heard) heard answer).1)
      ∙ all_reported served (frames_of whole) start (cut_fault whole) refl refl ∙ sym (ap (reported_start (ear_started old)) is)

  reach_is : ear_started new ≡ last.started → reached last.started ≡ reach_of old new before sent
  reach_is is = ap reached (sym is)

  err_whole : (g : LinkFault) → Leaves old.session new.session before after (ear_heard old before piece sent)
      → answer_of (ear_heard old before piece sent) ≡ Err g
      → HasHeardOn (ear_checked old) known all old new before sent (Err g)
  err_whole g leaves is =
      let same : ear_started new ≡ last.started = leaves.started ∙ total_started in
      let some : (then_fault (cut_fault whole) last).fault ≡ Some g =
      err_faulty (then_fault (cut_fault whole) last).fault (reported_heard (then_fault (cut_fault whole) last).heard) g is
      in
      by_whole same (Err g) tt
      (subst (λ (n : ℕ). HasLinkFault (ear_checked old) known all n g) (reach_is same)
      (err_comes (ear_checked old) known all (reached last.started) last (cut_fault whole) g all_fault ran.comes some))
      (subst (λ (x : List ℕ). IsAnswered (ear_checked old) known (frames_in all) x g)
      (sym (leaves.response ∙ fault_response (cut_fault whole) last))
      (answered_comes (ear_checked old) known all (reached last.started) last (cut_fault whole) g ran.comes some))
      (λ idle. none_comes (ear_checked old) known all (reached last.started) last (sym same ∙ idle) (cut_fault whole) g
      ran.comes some)

  -- memory was refused after the first few frames
  err_memory : (count : ℕ)
      × Leaves old.session new.session before after (part_heard count old.session before old.frames piece sent)
      → HasHeardOn (ear_checked old) known all old new before sent (Err fault.OutOfMemory)
  err_memory (count, leaves) =
      let some : List Frame = take count (frames_of whole) in
      let part : Ran (ear_checked old) known (frames_in bytes ++ some) (reached (frames_heard served start some).started)
      (frames_heard served start some) =
      runs_on (ear_checked old) known before is_for (frames_in bytes) some start refl ready.silent refl has.started in
      let left : List Frame = drop count (frames_of whole) in
      let split : (frames_in bytes ++ some) ++ left ≡ frames_in all =
      append_assoc (frames_in bytes) some left
      ∙ ap (λ (x : List Frame). frames_in bytes ++ x) (take-append-drop count (frames_of whole))
      ∙ sym all_frames in
      record {
        stays = λ s so. leaves.started ∙ frames_started served start some s so;
        asks =
            subst (λ (x : List Frame). AsksIfStarted (ear_checked old) known x (ear_started new)) split
            (asks_if_more (ear_checked old) known (frames_in bytes ++ some) left (ear_started new)
            (subst (AsksIfStarted (ear_checked old) known (frames_in bytes ++ some)) (sym leaves.started) part.asks));
        tells = tt;
        explains = tt;
        answered = tt;
        none = λ idle. tt;
      }

  by_result : (result : Result Heard LinkFault)
      → Answers (λ heard. heard) reported_fault (answer_of (ear_heard old before piece sent)) result
      → HearsPiece old new before after piece sent result → HasHeardOn (ear_checked old) known all old new before sent result
  by_result (Ok heard) is left =
      by_whole (left.leaves.started ∙ total_started) (Ok heard)
      (ok_tells heard (left.leaves.started ∙ total_started) is)
      (ok_explained heard left
      (ok_comes (ear_checked old) known (frames_in all) (reached last.started) last (cut_fault whole) heard ran.comes
      is)) tt (λ idle. tt)
  by_result (Err fault.OutOfMemory) is left = err_memory left.leaves
  by_result (Err fault.FrameTooLong) is left = err_whole fault.FrameTooLong left.leaves is
  by_result (Err fault.BadLength) is left = err_whole fault.BadLength left.leaves is
  by_result (Err (fault.Unexpected byte)) is left = err_whole (fault.Unexpected byte) left.leaves is
  by_result (Err (fault.BadStart state)) is left = err_whole (fault.BadStart state) left.leaves is
  by_result (Err fault.StatusAhead) is left = err_whole fault.StatusAhead left.leaves is
  by_result (Err fault.Closed) is left = err_whole fault.Closed left.leaves is

module _ (known : BooksOf) (bytes piece : List ℕ) (old new : Ear) (before after : Book) (sent : ℕ)
    (has : HasHeard (ear_checked old) known bytes old) (is_for : IsBookFor (ear_checked old) known before)
    (idle : ear_started old ≡ None) (slot at : ℕ) (started : ear_started new ≡ Some (slot, at)) (late : confirmed_at (book_slots before) slot < at) where
  abbrev first_start : HearingOf
  first_start = hearing_view old.session (silence sent) before

  abbrev of_piece : List Frame
  of_piece = frames_of (cut old.frames.limit (old.frames.bytes ++ piece))

  no_frames : frames_in bytes ≡ []
  no_frames = subst (IsStartedBy (ear_checked old) known (frames_in bytes)) idle has.started

  -- the first frames of the piece were heard
  by_some : (some left : List Frame) → some ++ left ≡ of_piece
      → new.session.started ≡ (frames_heard (served_by old.session before) first_start some).started
      → Requests (frames_in (bytes ++ piece)) slot at
  by_some some left split is =
      let heard : Requests some slot at =
      late_requests (served_by old.session before) (book_slots before) slot at late some first_start idle refl refl
      (sym is ∙ started) in
      let whole : some ++ left ≡ frames_in (bytes ++ piece) =
      split ∙ sym (ap (λ (x : List Frame). x ++ of_piece) no_frames)
      ∙ sym (all_frames known bytes piece old new before after sent has is_for) in
      subst (λ (x : List Frame). Requests x slot at) whole (requests_more some left slot at heard)

  by_all : Leaves old.session new.session before after (ear_heard old before piece sent)
      → Requests (frames_in (bytes ++ piece)) slot at
  by_all leaves =
      by_some of_piece [] (append-nil of_piece)
      (leaves.started ∙ fault_started (fault_in old.frames.limit (old.frames.bytes ++ piece))
      (frames_heard (served_by old.session before) first_start of_piece))

  requested_by : (result : Result Heard LinkFault) → HearsPiece old new before after piece sent result
      → Requests (frames_in (bytes ++ piece)) slot at
  requested_by (Ok heard) left = by_all left.leaves
  requested_by (Err fault.OutOfMemory) left =
      by_some (take left.leaves.0 of_piece) (drop left.leaves.0 of_piece) (take-append-drop left.leaves.0 of_piece)
      left.leaves.1.started
  requested_by (Err fault.FrameTooLong) left = by_all left.leaves
  requested_by (Err fault.BadLength) left = by_all left.leaves
  requested_by (Err (fault.Unexpected byte)) left = by_all left.leaves
  requested_by (Err (fault.BadStart state)) left = by_all left.leaves
  requested_by (Err fault.StatusAhead) left = by_all left.leaves
  requested_by (Err fault.Closed) left = by_all left.leaves

pub late_starts_are_requested : LateStartsAreRequested
late_starts_are_requested checked known bytes piece old new before after sent result has is_for left idle slot start
    started late =
    let own : HasHeard (ear_checked old) known bytes old = subst (λ (k : CheckedOf). HasHeard k known bytes old)
    (sym has.checked_is) has in
    let lent : IsBookFor (ear_checked old) known before = subst (λ (k : CheckedOf). IsBookFor k known before)
    (sym has.checked_is) is_for in
    requested_by known bytes piece old new before after sent own lent idle slot start started late result
    (subst (λ p. HearLeaves p old new before after piece sent result) has.phase_is left)

-- whatever bytes follow, the frames that were heard come first
pub frames_more : (checked : CheckedOf) (known : BooksOf) (bytes more : List ℕ) (ear : Ear) → HasHeard checked known bytes ear
    → frames_in (bytes ++ more) ≡ frames_in bytes ++ frames_of (cut 65536 (rest_of (cut 65536 bytes) ++ more))
frames_more checked known bytes more ear has =
    ap frames_of (cut_more 65536 bytes more has.good ∙ more_after 65536 more (cut 65536 bytes) has.good)
    ∙ frames_after (frames_in bytes) (cut 65536 (rest_of (cut 65536 bytes) ++ more))

pub requests_stay : (checked : CheckedOf) (known : BooksOf) (bytes more : List ℕ) (ear : Ear) (slot position : ℕ)
    → HasHeard checked known bytes ear → Requests (frames_in bytes) slot position
    → Requests (frames_in (bytes ++ more)) slot position
requests_stay checked known bytes more ear slot position has requests =
    subst (λ (x : List Frame). Requests x slot position) (sym (frames_more checked known bytes more ear has))
    (requests_more (frames_in bytes) (frames_of (cut 65536 (rest_of (cut 65536 bytes) ++ more))) slot position requests)

starts_asked : (checked : CheckedOf) (known : BooksOf) (frames : List Frame) (started : Option (ℕ × ℕ))
    → IsStartedBy checked known frames started → AsksIfStarted checked known frames started
starts_asked checked known frames None by = tt
starts_asked checked known frames (Some started) by = by

pub asks_stay : (checked : CheckedOf) (known : BooksOf) (bytes more : List ℕ) (ear : Ear)
    → HasHeard checked known bytes ear → AsksIfStarted checked known (frames_in (bytes ++ more)) (ear_started ear)
asks_stay checked known bytes more ear has =
    subst (λ (x : List Frame). AsksIfStarted checked known x (ear_started ear))
    (sym (frames_more checked known bytes more ear has))
    (asks_if_more checked known (frames_in bytes) (frames_of (cut 65536 (rest_of (cut 65536 bytes) ++ more)))
    (ear_started ear) (starts_asked checked known (frames_in bytes) (ear_started ear) has.started))

pub pieces_are_heard : PiecesAreHeard
pieces_are_heard checked known bytes piece old new before after sent result has is_for answer left =
    let Goal : CheckedOf → Type 0 = λ k. HasHeard k known bytes old → IsBookFor k known before
    → HasHeardOn k known (bytes ++ piece) old new before sent result in
    let own : Goal (ear_checked old) = λ heard lent.
    by_result known bytes piece old new before after sent heard lent result
    (subst (λ p. Answers (λ heard. heard) reported_fault (answer_in p (ear_heard old before piece sent)) result)
    heard.phase_is answer)
    (subst (λ p. HearLeaves p old new before after piece sent result) heard.phase_is left) in
    subst Goal has.checked_is own has is_for

nothing_rests : rest_of (cut 65536 []) ≡ []
unfolding cut
nothing_rests = refl

nothing_wrong : fault_in 65536 [] ≡ None
unfolding cut
nothing_wrong = refl

nothing_cut : frames_in [] ≡ []
unfolding cut
nothing_cut = refl

pub nothing_is_heard : NothingIsHeard
nothing_is_heard known ear opens none held = record {
  checked_is = refl;
  phase_is = opens;
  held = held ∙ sym nothing_rests;
  good = nothing_wrong;
  started = subst (IsStartedBy (ear_checked ear) known (frames_in [])) (sym none) nothing_cut;
}
