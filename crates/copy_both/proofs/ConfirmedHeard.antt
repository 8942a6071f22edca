-- Up to where a client confirmed the log, by all of its frames that were heard, after another piece.
use Rattle.std.proofs.Common.{◌≡◌, ◌≢◌, ℕ, ◌<◌, ◌≤◌, ◌==◌, min, max, Bool, true, false, if◌then◌else◌, List, [], ◌∷◌, ◌++◌, take, drop, refl, sym, ap, subst, ◌∙◌, append_assoc, append-nil, arith}
use Rattle.std.specs.Prelude.{Option, Some, None, Result, Ok, Err, nat_lt}
use Rattle.std.proofs.lemmas.Bool.{ltb-true}
use Rattle.std.proofs.lemmas.List.{take-append-drop}
use Rattle.filter_tree.specs.Memory.{Answers}
use Rattle.filter_tree.proofs.Tests.{by_test}
use Rattle.shard_checker.specs.CheckedView.{CheckedOf}
use Rattle.tables_log.specs.Lsn.{end_lsn_of}
use Rattle.tables_log.specs.declared.book.Book.{Book}
use Rattle.copy_frames.specs.Frames.{fault_in}
use Rattle.copy_frames.specs.declared.fault.FrameFault.{FrameFault}
use Rattle.copy_frames.specs.declared.fault.FrameFault.TheVariants as frame
use Rattle.copy_frames.specs.declared.frame.Frame.{Frame}
use Rattle.copy_both.specs.ConfirmedFrames.{AreStatuses, AreUnheard, ConfirmationsAreHeard, HasConfirmedAll, HasConfirmedIf, IsOfLength, IsStatusBy, IsStop, StopsAt, UnheardAt, confirmed_in, flushed_by}
use Rattle.copy_both.specs.Ears.{HearLeaves, HearsPiece, answer_in, ear_confirmed, ear_heard, ear_started}
use Rattle.copy_both.specs.Events.{event_of}
use Rattle.copy_both.specs.HeardFrames.{BooksOf, HasHeard, IsStartedBy, frames_in, reach_of, sent_then}
use Rattle.copy_both.specs.Hearing.{BeginOf, Begins, HearingOf, Refuses, ServedFrom, answer_of, begin_of, begun, confirmed_by, ended_by, event_heard, first_sent, frame_heard, frames_heard, is_over, is_over_by, link_fault, next_heard, reported_heard, then_fault, unless_over, with_fault}
use Rattle.copy_both.specs.Listening.{Leaves, PieceLeaves, part_heard, piece_heard, silence}
use Rattle.copy_both.specs.Sessions.{hearing_view, served_by}
use Rattle.copy_both.specs.Voices.{reported_fault}
use Rattle.copy_both.specs.declared.ear.Ear.{Ear}
use Rattle.copy_both.specs.declared.event.Event.{Event}
use Rattle.copy_both.specs.declared.event.Event.TheVariants as event
use Rattle.copy_both.specs.declared.heard.Heard.{Heard}
use Rattle.copy_both.specs.declared.link_fault.LinkFault.{LinkFault}
use Rattle.copy_both.specs.declared.link_fault.LinkFault.TheVariants as fault
use Rattle.copy_both.proofs.FrameRuns.{end_over, fault_over, over_by_end}
use Rattle.copy_both.proofs.HearingLemmas.{over_stays}
use Rattle.copy_both.proofs.LinkLemmas.{fault_started, frames_started}
use Rattle.copy_both.proofs.PiecesHeard.{err_faulty, length_fault, ok_faultless}
use Rattle.copy_both.proofs.StatusesHeard.{all_frames, of_piece}

max_assoc : (a b c : ℕ) → max (max a b) c ≡ max a (max b c)
max_assoc a b c = omega arith

confirmed_append : (frames more : List Frame) → confirmed_in (frames ++ more) ≡ max (confirmed_in frames) (confirmed_in more)
confirmed_append [] more = omega arith
confirmed_append (frame ∷ frames) more =
    let rest = confirmed_append frames more in
    ap (max (flushed_by (event_of frame.kind frame.body))) rest
    ∙ sym (max_assoc (flushed_by (event_of frame.kind frame.body)) (confirmed_in frames) (confirmed_in more))

statuses_append : (frames more : List Frame) → AreStatuses frames → AreStatuses more → AreStatuses (frames ++ more)
statuses_append [] more are others = others
statuses_append (frame ∷ frames) more are others = (are.0, statuses_append frames more are.1 others)

-- a status that is after one position is after a lower one
event_lower : (found : Option LinkFault) (low high : ℕ) → low ≤ high → (e : Result Event LinkFault)
    → IsStop found high e → IsStop found low e
event_lower found low high less (Ok (event.Status status)) stop = let after = stop.1 in (stop.0, omega (arith, less, after))
event_lower found low high less (Ok (event.End kind)) stop = stop
event_lower found low high less (Err f) stop = stop

pub stops_lower : (found : Option LinkFault) (low high : ℕ) → low ≤ high → (rest : List Frame)
    → StopsAt found high rest → StopsAt found low rest
stops_lower found low high less [] stops = stops
stops_lower found low high less (frame ∷ frames) stops =
    event_lower found low high less (event_of frame.kind frame.body) stops

-- any position will do where no status stops it
event_other : (found : Option LinkFault) (low high : ℕ) → found ≢ Some fault.StatusAhead → (e : Result Event LinkFault)
    → IsStop found high e → IsStop found low e
event_other found low high other (Ok (event.Status status)) stop = absurd (other stop.0)
event_other found low high other (Ok (event.End kind)) stop = stop
event_other found low high other (Err f) stop = stop

pub stops_other : (found : Option LinkFault) (low high : ℕ) → found ≢ Some fault.StatusAhead → (rest : List Frame)
    → StopsAt found high rest → StopsAt found low rest
stops_other found low high other [] stops = stops
stops_other found low high other (frame ∷ frames) stops =
    event_other found low high other (event_of frame.kind frame.body) stops

-- ---- frames while a stream runs

-- the first of these frames are statuses that were heard, and hearing stopped at the others
record HeardFront (reach : ℕ) (frames : List Frame) (h last : HearingOf) : Type 0 where
  pub front : List Frame
  pub rest : List Frame
  pub frames_are : frames ≡ front ++ rest
  pub statuses : AreStatuses front
  pub confirmed_is : last.confirmed ≡ max h.confirmed (confirmed_in front)
  pub going : is_over last ≡ false → rest ≡ []
  pub over : is_over last ≡ true → rest ≢ []
  pub stops : StopsAt last.fault reach rest

module _ (served : ServedFrom) (reach : ℕ) where
  no_front : (h : HearingOf) → is_over h ≡ false → HeardFront reach [] h h
  no_front h still = record {
    front = [];
    rest = [];
    frames_are = refl;
    statuses = tt;
    confirmed_is = omega arith;
    going = λ none. refl;
    over = λ over. absurd (let no : true ≡ false = sym over ∙ still in cc);
    stops = subst IsOfLength (sym (fault_over h.fault h.heard.ended still)) tt;
  }

  stop_here : (frame : Frame) (frames : List Frame) (h next : HearingOf) → next.confirmed ≡ h.confirmed
      → is_over next ≡ true → StopsAt next.fault reach (frame ∷ frames)
      → HeardFront reach (frame ∷ frames) h (frames_heard served next frames)
  stop_here frame frames h next same over stops =
      let last : frames_heard served next frames ≡ next = over_stays served next frames over in
      record {
        front = [];
        rest = frame ∷ frames;
        frames_are = refl;
        statuses = tt;
        confirmed_is = let kept = ap (λ (x : HearingOf). x.confirmed) last in omega (arith, kept, same);
        going = λ none. absurd (let no : true ≡ false = sym over ∙ (sym (ap is_over last) ∙ none) in cc);
        over = λ over none. absurd cc;
        stops = subst (λ (x : HearingOf). StopsAt x.fault reach (frame ∷ frames)) (sym last) stops;
      }

  go_on : (frame : Frame) (frames : List Frame) (h next last : HearingOf)
      → IsStatusBy (event_of frame.kind frame.body)
      → next.confirmed ≡ max h.confirmed (flushed_by (event_of frame.kind frame.body))
      → HeardFront reach frames next last → HeardFront reach (frame ∷ frames) h last
  go_on frame frames h next last is more heard = record {
    front = frame ∷ heard.front;
    rest = heard.rest;
    frames_are = ap (λ (x : List Frame). frame ∷ x) heard.frames_are;
    statuses = (is, heard.statuses);
    confirmed_is = heard.confirmed_is ∙ ap (λ n. max n (confirmed_in heard.front)) more
        ∙ max_assoc h.confirmed (flushed_by (event_of frame.kind frame.body)) (confirmed_in heard.front);
    going = heard.going;
    over = heard.over;
    stops = heard.stops;
  }

  abbrev Runs : HearingOf → ℕ × ℕ → Type 0
  Runs h s = (h.started ≡ Some s) × (is_over h ≡ false) × (min h.sent (end_lsn_of served.commits) ≡ reach)

  event_front : (frame : Frame) (frames : List Frame) (h : HearingOf) (s : ℕ × ℕ) → Runs h s
      → ((next : HearingOf) → Runs next s → HeardFront reach frames next (frames_heard served next frames))
      → (e : Result Event LinkFault) → event_of frame.kind frame.body ≡ e
      → HeardFront reach (frame ∷ frames) h (frames_heard served (event_heard served s.0 e h) frames)
  event_front frame frames h s runs on (Err f) is =
      stop_here frame frames h (with_fault f h) refl refl
      (subst (λ (e : Result Event LinkFault). IsStop (Some f) reach e) (sym is) refl)
  event_front frame frames h s runs on (Ok (event.End kind)) is =
      stop_here frame frames h (ended_by kind h) refl (over_by_end h.fault kind)
      (subst (λ (e : Result Event LinkFault). IsStop h.fault reach e) (sym is)
      (fault_over h.fault h.heard.ended runs.1))
  event_front frame frames h s runs on (Ok (event.Status status)) is =
      let limit : ℕ = min h.sent (end_lsn_of served.commits) in
      let Goal : Bool → Type 0 =
      λ b. HeardFront reach (frame ∷ frames) h (frames_heard served (confirmed_by b s.0 status h) frames) in
      by_test (nat_lt limit status.flushed)
      (λ ahead. subst Goal (sym ahead)
      (stop_here frame frames h (with_fault fault.StatusAhead h) refl refl
      (subst (λ (e : Result Event LinkFault). IsStop (Some fault.StatusAhead) reach e) (sym is)
      (refl, subst (λ (n : ℕ). n < status.flushed) runs.2 (ltb-true limit status.flushed ahead)))))
      (λ within. subst Goal (sym within)
      (go_on frame frames h (confirmed_by false s.0 status h)
      (frames_heard served (confirmed_by false s.0 status h) frames)
      (subst (λ (e : Result Event LinkFault). IsStatusBy e) (sym is) tt)
      (ap (λ (e : Result Event LinkFault). max h.confirmed (flushed_by e)) (sym is))
      (on (confirmed_by false s.0 status h) (runs.0, runs.1, runs.2))))

  stream_front : (frames : List Frame) (h : HearingOf) (s : ℕ × ℕ) → Runs h s
      → HeardFront reach frames h (frames_heard served h frames)
  unfolding frames_heard
  stream_front [] h s runs = no_front h runs.1
  stream_front (frame ∷ frames) h s runs =
      let step : frame_heard served h frame ≡ event_heard served s.0 (event_of frame.kind frame.body) h =
      ap (λ b. unless_over b h (next_heard served frame h.started h)) runs.1
      ∙ ap (λ (o : Option (ℕ × ℕ)). next_heard served frame o h) runs.0 in
      subst (λ (next : HearingOf). HeardFront reach (frame ∷ frames) h (frames_heard served next frames)) (sym step)
      (event_front frame frames h s runs (λ next going. stream_front frames next s going)
      (event_of frame.kind frame.body) refl)

-- ---- frames from the first on

-- of all frames of a connection, statuses after the first one were heard, and hearing stopped at the others
record ConfirmedFront (reach : ℕ) (frames : List Frame) (last : HearingOf) : Type 0 where
  pub first : Frame
  pub front : List Frame
  pub rest : List Frame
  pub frames_are : frames ≡ first ∷ front ++ rest
  pub statuses : AreStatuses front
  pub confirmed_is : last.confirmed ≡ confirmed_in front
  pub going : is_over last ≡ false → rest ≡ []
  pub over : is_over last ≡ true → rest ≢ []
  pub stops : StopsAt last.fault reach rest

module _ (served : ServedFrom) (was : Option (ℕ × ℕ)) (sent : ℕ) where
  abbrev reached : Option (ℕ × ℕ) → ℕ
  reached now = min (sent_then was sent now) (end_lsn_of served.commits)

  abbrev ConfirmsFront : Option (ℕ × ℕ) → List Frame → HearingOf → Type 0
  ConfirmsFront None frames last = last.confirmed ≡ 0
  ConfirmsFront (Some s) frames last = ConfirmedFront (reached (Some s)) frames last

  -- no stream started
  none_front : (frames : List Frame) (next last : HearingOf) → last ≡ next → next.started ≡ None → next.confirmed ≡ 0
      → ConfirmsFront last.started frames last
  none_front frames next last same none zero =
      subst (λ (o : Option (ℕ × ℕ)). ConfirmsFront o frames last)
      (sym (ap (λ (x : HearingOf). x.started) same ∙ none)) (ap (λ (x : HearingOf). x.confirmed) same ∙ zero)

module _ (served : ServedFrom) (sent : ℕ) where
  begins_front : (frame : Frame) (frames : List Frame) (h : HearingOf) (b : BeginOf)
      → h.started ≡ None → is_over h ≡ false → h.confirmed ≡ 0
      → ConfirmsFront served None sent (frames_heard served (begun b h) frames).started (frame ∷ frames)
      (frames_heard served (begun b h) frames)
  begins_front frame frames h (Begins stream start) none going zero =
      let next : HearingOf = begun (Begins stream start) h in
      let last : HearingOf = frames_heard served next frames in
      let reach : ℕ = min (first_sent start) (end_lsn_of served.commits) in
      let on : HeardFront reach frames next last =
      stream_front served reach frames next (stream, start) (refl, going, refl) in
      subst (λ (o : Option (ℕ × ℕ)). ConfirmsFront served None sent o (frame ∷ frames) last)
      (sym (frames_started served next frames (stream, start) refl))
      (record {
        first = frame;
        front = on.front;
        rest = on.rest;
        frames_are = ap (λ (x : List Frame). frame ∷ x) on.frames_are;
        statuses = on.statuses;
        confirmed_is = let most = on.confirmed_is in omega (arith, most, zero);
        going = on.going;
        over = on.over;
        stops = on.stops;
      })
  begins_front frame frames h (Refuses refusal) none going zero =
      none_front served None sent (frame ∷ frames) (begun (Refuses refusal) h)
      (frames_heard served (begun (Refuses refusal) h) frames)
      (over_stays served (begun (Refuses refusal) h) frames refl) none zero

  first_front : (frames : List Frame) (h : HearingOf) → h.started ≡ None → is_over h ≡ false → h.confirmed ≡ 0
      → ConfirmsFront served None sent (frames_heard served h frames).started frames (frames_heard served h frames)
  unfolding frames_heard
  first_front [] h none going zero = none_front served None sent [] h h refl none zero
  first_front (frame ∷ frames) h none going zero =
      let begins : BeginOf = begin_of served h.slots frame.kind frame.body in
      let Goal : HearingOf → Type 0 = λ next. ConfirmsFront served None sent (frames_heard served next frames).started
      (frame ∷ frames) (frames_heard served next frames) in
      let step : frame_heard served h frame ≡ (if frame.kind == 88 then ended_by 88 h else begun begins h) =
      ap (λ b. unless_over b h (next_heard served frame h.started h)) going
      ∙ ap (λ (o : Option (ℕ × ℕ)). next_heard served frame o h) none in
      subst Goal (sym step)
      (by_test (frame.kind == 88)
      (λ yes. subst Goal (sym (ap (λ b. if b then ended_by 88 h else begun begins h) yes))
      (none_front served None sent (frame ∷ frames) (ended_by 88 h) (frames_heard served (ended_by 88 h) frames)
      (over_stays served (ended_by 88 h) frames (over_by_end h.fault 88)) none zero))
      (λ other. subst Goal (sym (ap (λ b. if b then ended_by 88 h else begun begins h) other))
      (begins_front frame frames h begins none going zero)))

  -- frames that are heard after others
  heard_front : (checked : CheckedOf) (known : BooksOf) (earlier frames : List Frame) (h : HearingOf)
      (was : Option (ℕ × ℕ)) → h.started ≡ was → h.sent ≡ sent → IsStartedBy checked known earlier was
      → is_over h ≡ false → HasConfirmedAll was earlier h.confirmed
      → ConfirmsFront served was sent (frames_heard served h frames).started (earlier ++ frames)
      (frames_heard served h frames)
  heard_front checked known earlier frames h None is same none going so_far =
      subst (λ (x : List Frame). ConfirmsFront served None sent (frames_heard served h frames).started (x ++ frames)
      (frames_heard served h frames)) (sym none)
      (first_front frames h is going so_far)
  heard_front checked known earlier frames h (Some s) is same asks going so_far =
      let last : HearingOf = frames_heard served h frames in
      let reach : ℕ = min sent (end_lsn_of served.commits) in
      let on : HeardFront reach frames h last = stream_front served reach frames h s
      (is, going, ap (λ n. min n (end_lsn_of served.commits)) same) in
      subst (λ (o : Option (ℕ × ℕ)). ConfirmsFront served (Some s) sent o (earlier ++ frames) last)
      (sym (frames_started served h frames s is))
      (record {
        first = so_far.first;
        front = so_far.others ++ on.front;
        rest = on.rest;
        frames_are = ap (λ (x : List Frame). earlier ++ x) on.frames_are
            ∙ ap (λ (x : List Frame). x ++ (on.front ++ on.rest)) so_far.frames_are
            ∙ ap (λ (x : List Frame). so_far.first ∷ x) (sym (append_assoc so_far.others on.front on.rest));
        statuses = statuses_append so_far.others on.front so_far.statuses on.statuses;
        confirmed_is = on.confirmed_is ∙ ap (λ n. max n (confirmed_in on.front)) so_far.confirmed_is
            ∙ sym (confirmed_append so_far.others on.front);
        going = on.going;
        over = on.over;
        stops = on.stops;
      })

-- ---- a piece

same_confirmed : (b : Bool) (one other : HearingOf) → other.confirmed ≡ one.confirmed
    → (unless_over b one other).confirmed ≡ one.confirmed
same_confirmed true one other same = refl
same_confirmed false one other same = same

fault_confirmed : (f : Option FrameFault) (last : HearingOf) → (then_fault f last).confirmed ≡ last.confirmed
fault_confirmed None last = refl
fault_confirmed (Some f) last = same_confirmed (is_over last) last (with_fault (link_fault f) last) refl

-- nothing was over where a piece is answered without an end
over_kept : (f : Option FrameFault) (last : HearingOf) → is_over last ≡ true → then_fault f last ≡ last
over_kept None last over = refl
over_kept (Some f) last over = ap (λ b. unless_over b last (with_fault (link_fault f) last)) over

none_over : (f : Option LinkFault) (ended : Option ℕ) → f ≡ None → ended ≡ None → is_over_by f ended ≡ false
none_over f ended good none =
    ap (λ (x : Option LinkFault). is_over_by x ended) good ∙ ap (λ (x : Option ℕ). is_over_by None x) none

-- nothing had a fault where a piece is answered
ok_fault : (f : Option FrameFault) (last : HearingOf) (heard : Heard) → answer_of (then_fault f last) ≡ Ok heard
    → last.fault ≡ None
ok_fault None last heard is = (ok_faultless last.fault (reported_heard last.heard) heard is).0
ok_fault (Some f) last heard is = by_test (is_over last)
    (λ over.
    let kept : then_fault (Some f) last ≡ last = over_kept (Some f) last over in
    (ok_faultless last.fault (reported_heard last.heard) heard (sym (ap answer_of kept) ∙ is)).0)
    (λ going. fault_over last.fault last.heard.ended going)

goes_by : (f : Option FrameFault) (last : HearingOf) (heard : Heard) → answer_of (then_fault f last) ≡ Ok heard
    → heard.ended ≡ None → is_over last ≡ false
goes_by f last heard is none = by_test (is_over last)
    (λ over.
    let kept : then_fault f last ≡ last = over_kept f last over in
    let good = ok_faultless last.fault (reported_heard last.heard) heard (sym (ap answer_of kept) ∙ is) in
    none_over last.fault last.heard.ended good.0 (ap (λ (x : Heard). x.ended) good.1 ∙ none))
    (λ going. going)

-- and something was over where it is answered with an end
over_by : (f : Option FrameFault) (last : HearingOf) (heard : Heard) → answer_of (then_fault f last) ≡ Ok heard
    → heard.ended ≢ None → is_over last ≡ true
over_by f last heard is ended = by_test (is_over last)
    (λ over. over)
    (λ going.
    let total : HearingOf = then_fault f last in
    let both = ok_faultless total.fault (reported_heard total.heard) heard is in
    absurd (ended (sym (ap (λ (x : Heard). x.ended) both.1) ∙ still_going f last going)))
  where
    still_going : (f : Option FrameFault) (last : HearingOf) → is_over last ≡ false
        → (then_fault f last).heard.ended ≡ None
    still_going None last going = end_over last.fault last.heard.ended going
    still_going (Some f) last going =
        ap (λ b. (unless_over b last (with_fault (link_fault f) last)).heard.ended) going
        ∙ end_over last.fault last.heard.ended going

module _ (served : ServedFrom) (was : Option (ℕ × ℕ)) (sent : ℕ) where
  wanted : (o : Option (ℕ × ℕ)) (frames more all : List Frame) (last : HearingOf) (result : Result Heard LinkFault)
      (confirmed : ℕ) → confirmed ≡ last.confirmed → frames ++ more ≡ all
      → ConfirmsFront served was sent o frames last
      → ((reach : ℕ) (rest : List Frame) → StopsAt last.fault reach rest → (is_over last ≡ false → rest ≡ [])
      → (is_over last ≡ true → rest ≢ []) → AreUnheard reach (rest ++ more) result)
      → HasConfirmedIf o all (reached served was sent o) result confirmed
  wanted None frames more all last result confirmed same split front unheard = same ∙ front
  wanted (Some s) frames more all last result confirmed same split front unheard = record {
    first = front.first;
    front = front.front;
    rest = front.rest ++ more;
    frames_are = sym split ∙ ap (λ (x : List Frame). x ++ more) front.frames_are
        ∙ ap (λ (x : List Frame). front.first ∷ x) (append_assoc front.front front.rest more);
    statuses = front.statuses;
    confirmed_is = same ∙ front.confirmed_is;
    unheard = unheard (reached served was sent (Some s)) front.rest front.stops front.going front.over;
  }

-- which frames were not heard, by the fault
unheard_ok : (reach : ℕ) (rest : List Frame) (ended : Option ℕ) → StopsAt None reach rest
    → (ended ≡ None → rest ≡ []) → (ended ≢ None → rest ≢ []) → UnheardAt reach rest ended
unheard_ok reach rest None stops going over = going refl
unheard_ok reach rest (Some kind) stops going over = (over (λ none. cc), stops)

-- a length has a fault
length_stops : (f : FrameFault) → IsOfLength (Some (link_fault f))
length_stops frame.BadLength = tt
length_stops frame.FrameTooLong = tt
length_stops frame.OutOfMemory = tt

after_length : (f : Option FrameFault) (last : HearingOf) (g : LinkFault) → is_over last ≡ false
    → (then_fault f last).fault ≡ Some g → IsOfLength (Some g)
after_length None last g going some =
    absurd (let none = fault_over last.fault last.heard.ended going in
    let no : None ≡ Some g = sym none ∙ some in cc)
after_length (Some f) last g going some =
    subst IsOfLength (sym (length_fault f last going) ∙ some) (length_stops f)

fault_stops : (f : Option FrameFault) (last : HearingOf) (g : LinkFault) → answer_of (then_fault f last) ≡ Err g
    → (reach : ℕ) (rest : List Frame) → StopsAt last.fault reach rest → (is_over last ≡ false → rest ≡ [])
    → (is_over last ≡ true → rest ≢ []) → StopsAt (Some g) reach rest
fault_stops f last g is reach rest stops going over_too =
    let total : HearingOf = then_fault f last in
    let some : total.fault ≡ Some g = err_faulty total.fault (reported_heard total.heard) g is in
    by_test (is_over last)
    (λ over.
    let kept : total ≡ last = over_kept f last over in
    subst (λ (o : Option LinkFault). StopsAt o reach rest) (sym (ap (λ (x : HearingOf). x.fault) kept) ∙ some) stops)
    (λ on. subst (StopsAt (Some g) reach) (sym (going on)) (after_length f last g on some))

module _ (checked : CheckedOf) (known : BooksOf) (bytes piece : List ℕ) (old new : Ear) (before after : Book) (sent : ℕ)
    (has : HasHeard checked known bytes old) (so_far : HasConfirmedAll (ear_started old) (frames_in bytes) (ear_confirmed old)) where
  abbrev frames : List Frame
  frames = of_piece checked known bytes piece old new before after sent has

  abbrev served : ServedFrom
  served = served_by old.session before

  abbrev start : HearingOf
  start = hearing_view old.session (silence sent) before

  abbrev Wanted : Result Heard LinkFault → Type 0
  Wanted result = HasConfirmedIf (ear_started new) (frames_in (bytes ++ piece)) (reach_of old new before sent) result
      (ear_confirmed new)

  front_of : (some : List Frame)
      → ConfirmsFront served (ear_started old) sent (frames_heard served start some).started (frames_in bytes ++ some)
      (frames_heard served start some)
  front_of some = heard_front served sent checked known (frames_in bytes) some start (ear_started old) refl refl
      has.started refl so_far

  -- the first frames of the piece were heard, and what is said of the others follows
  by_some : (some left : List Frame) → some ++ left ≡ frames → (result : Result Heard LinkFault)
      → ear_started new ≡ (frames_heard served start some).started
      → ear_confirmed new ≡ (frames_heard served start some).confirmed
      → ((reach : ℕ) (rest : List Frame) → StopsAt (frames_heard served start some).fault reach rest
      → (is_over (frames_heard served start some) ≡ false → rest ≡ [])
      → (is_over (frames_heard served start some) ≡ true → rest ≢ []) → AreUnheard reach (rest ++ left) result)
      → Wanted result
  by_some some left split result is same unheard =
      let last : HearingOf = frames_heard served start some in
      let all : List Frame = frames_in (bytes ++ piece) in
      let whole : (frames_in bytes ++ some) ++ left ≡ all =
      append_assoc (frames_in bytes) some left ∙ ap (λ (x : List Frame). frames_in bytes ++ x) split
      ∙ sym (all_frames checked known bytes piece old new before after sent has) in
      subst (λ (o : Option (ℕ × ℕ)). HasConfirmedIf o all (reached served (ear_started old) sent o) result
      (ear_confirmed new)) (sym is)
      (wanted served (ear_started old) sent last.started (frames_in bytes ++ some) left all last result
      (ear_confirmed new) same whole (front_of some) unheard)

  by_part : (some : (count : ℕ)
      × Leaves old.session new.session before after (part_heard count old.session before old.frames piece sent))
      → Wanted (Err fault.OutOfMemory)
  by_part (count, leaves) =
      by_some (take count frames) (drop count frames) (take-append-drop count frames) (Err fault.OutOfMemory)
      leaves.started leaves.confirmed (λ reach rest stops going over. tt)

  abbrev total : HearingOf
  total = frames_heard served start frames

  abbrev of_length : Option FrameFault
  of_length = fault_in old.frames.limit (old.frames.bytes ++ piece)

  by_all : Leaves old.session new.session before after (piece_heard old.session before old.frames piece sent)
      → (result : Result Heard LinkFault)
      → ((reach : ℕ) (rest : List Frame) → StopsAt total.fault reach rest
      → (is_over total ≡ false → rest ≡ []) → (is_over total ≡ true → rest ≢ []) → AreUnheard reach rest result)
      → Wanted result
  by_all leaves result unheard =
      by_some frames [] (append-nil frames) result (leaves.started ∙ fault_started of_length total)
      (leaves.confirmed ∙ fault_confirmed of_length total)
      (λ reach rest stops going over. subst (λ (x : List Frame). AreUnheard reach x result) (sym (append-nil rest))
      (unheard reach rest stops going over))

  by_piece : (result : Result Heard LinkFault)
      → Answers (λ heard. heard) reported_fault (answer_of (ear_heard old before piece sent)) result
      → PieceLeaves result old.frames piece sent old.session new.session before after → Wanted result
  by_piece (Ok heard) is left =
      by_all left (Ok heard) (λ reach rest stops going over.
      unheard_ok reach rest heard.ended
      (subst (λ (o : Option LinkFault). StopsAt o reach rest) (ok_fault of_length total heard is) stops)
      (λ none. going (goes_by of_length total heard is none))
      (λ ended. over (over_by of_length total heard is ended)))
  by_piece (Err fault.OutOfMemory) is left = by_part left
  by_piece (Err fault.StatusAhead) is left =
      by_all left (Err fault.StatusAhead) (fault_stops of_length total fault.StatusAhead is)
  by_piece (Err fault.FrameTooLong) is left =
      by_all left (Err fault.FrameTooLong) (fault_stops of_length total fault.FrameTooLong is)
  by_piece (Err fault.BadLength) is left =
      by_all left (Err fault.BadLength) (fault_stops of_length total fault.BadLength is)
  by_piece (Err (fault.Unexpected byte)) is left =
      by_all left (Err (fault.Unexpected byte)) (fault_stops of_length total (fault.Unexpected byte) is)
  by_piece (Err (fault.BadStart state)) is left =
      by_all left (Err (fault.BadStart state)) (fault_stops of_length total (fault.BadStart state) is)
  by_piece (Err fault.Closed) is left = by_all left (Err fault.Closed) (fault_stops of_length total fault.Closed is)

pub confirmations_are_heard : ConfirmationsAreHeard
confirmations_are_heard checked known bytes piece old new before after sent result has answer left so_far =
    by_piece checked known bytes piece old new before after sent has so_far result
    (subst (λ p. Answers (λ heard. heard) reported_fault (answer_in p (ear_heard old before piece sent)) result)
    has.phase_is answer)
    (let hears : HearsPiece old new before after piece sent result =
    subst (λ p. HearLeaves p old new before after piece sent result) has.phase_is left in hears.leaves)
