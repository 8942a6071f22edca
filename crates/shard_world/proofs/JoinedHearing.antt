-- The publisher hears a subscriber as in the world: which frames a piece brings, and what they do.
use Rattle.std.proofs.Common.{◌≡◌, ℕ, zero, suc, ◌+◌, ◌-◌, ◌<◌, ◌≤◌, ◌≢◌, min, max, Bool, true, false, List, [], ◌∷◌, ◌++◌, drop, length, map, replicate, refl, sym, ap, subst, ◌∙◌, arith, append-nil, length-append}
use Rattle.std.specs.Prelude.{Option, Some, None, All, fold, is_some, nat_le, slice_get, if◌then◌else◌}
use Rattle.std.proofs.lemmas.Bool.{le-leb, leb-true, leb-false, le-ltb}
use Rattle.std.proofs.lemmas.Option.{slice_get_within}
use Rattle.std.proofs.lemmas.List.Elements.{All-nil, All-cons, All-head, All-tail, All-drop}
use Rattle.shard_checker.specs.CheckedView.{CheckedOf}
use Rattle.tables_log.specs.Lsn.{end_lsn_of}
use Rattle.tables_log.specs.Slots.{confirmed_at, slot_fault, start_fault, change_at, with_stream}
use Rattle.tables_log.specs.declared.error.StartError.TheVariants.{Ahead}
use Rattle.copy_frames.specs.FrameLaws.{AreFrames}
use Rattle.copy_frames.specs.Frames.{framed}
use Rattle.copy_frames.specs.declared.frame.Frame.{Frame}
use Rattle.copy_frames.specs.declared.status.Status.{Status}
use Rattle.copy_both.specs.Hearing.{HearingOf, ServedFrom, Begins, begun, frame_heard, frames_heard, is_over}
use Rattle.copy_both.specs.Streams.{Move, Keep, first_sent}
use Rattle.stream_laws.specs.Cutting.{if_whole, whole_by}
use Rattle.shard_world.specs.Joined.{HasSlot, IsAsked, stream_of}
use Rattle.shard_world.specs.PeerSteps.{Case, IsCase, peer_of, source_of}
use Rattle.shard_world.specs.SubscriberFrames.{IsHearing, IsOwn, IsWithin, session_of, start_in}
use Rattle.shard_world.specs.World.{Up, Asks, Says, Connection, Session, start_of, hear_up, newly, heard_of, spelled_up, up_frame, ups_of, asking_length}
use Rattle.shard_world.proofs.CaseLemmas.{case_asks, case_good, opened_small}
use Rattle.shard_world.proofs.SlotLemmas.{confirmed_is, others_stay, streams_slot}
use Rattle.shard_world.proofs.SubscriberFrameLemmas.{HasSlotBy, start_step, starts_are_heard, statuses_are_heard, statuses_go}
use Rattle.filter_tree.proofs.Tests.{by_test}

-- ---- frames

module _ (checked : CheckedOf) (number : ℕ) where
  says_frames : (statuses : List Status) → AreFrames 65536 (map (up_frame checked number) (map Says statuses))
  says_frames [] = tt
  says_frames (status ∷ statuses) = (record { within = omega arith; signed = omega arith }, says_frames statuses)

  -- statuses among statuses
  says_whole : (count : ℕ) (statuses : List Status)
      → whole_by (up_frame checked number) count (map Says statuses)
      ≡ map Says (whole_by (λ status. up_frame checked number (Says status)) count statuses)
  says_whole count [] = refl
  says_whole count (status ∷ statuses) =
      ap (if_whole (nat_le (length (spelled_up checked number (Says status))) count) (Says status))
      (says_whole (count - length (spelled_up checked number (Says status))) statuses)
      ∙ if_says (nat_le (length (spelled_up checked number (Says status))) count) status _
    where
      if_says : (whole : Bool) (status : Status) (others : List Status)
          → if_whole whole (Says status) (map Says others) ≡ map Says (if_whole whole status others)
      if_says true status others = refl
      if_says false status others = refl

pub ups_are_frames : (case : Case) → IsCase case → (c : Connection)
    → AreFrames 65536 (map (up_frame case.checked case.number) (ups_of (peer_of case) c))
ups_are_frames case is c = (
  record {
    within = omega (
      arith,
      (case_asks case is).fits (peer_of case).position (opened_small case is),
      length-append (start_of case.checked.catalog case.number (peer_of case).position) (0 ∷ []),
    );
    signed = omega (
      arith,
      (case_asks case is).fits (peer_of case).position (opened_small case is),
      length-append (start_of case.checked.catalog case.number (peer_of case).position) (0 ∷ []),
    );
  },
  says_frames case.checked case.number c.reports,
)

-- ---- what is new in a piece

-- some of the statuses, after a number of others, that are whole in this number of bytes
abbrev pub some_of : CheckedOf → ℕ → ℕ → ℕ → List Status → List Status
some_of checked number done count statuses =
    drop done (whole_by (λ status. up_frame checked number (Says status)) count statuses)

-- nothing, or the command and then statuses, or statuses
pub data NewOf (checked : CheckedOf) (number position : ℕ) (reports : List Status) (asking heard : ℕ)
    (start : Option ℕ) (new : List Up) : Type 0 where
  Nothing : start ≡ None → heard < asking → new ≡ [] → NewOf checked number position reports asking heard start new
  Command : start ≡ None → asking ≤ heard → (count : ℕ)
      → new ≡ Asks position ∷ map Says (some_of checked number 0 count reports)
      → NewOf checked number position reports asking heard start new
  Statuses : (at : ℕ) → start ≡ Some at → asking ≤ heard → (done count : ℕ)
      → new ≡ map Says (some_of checked number done count reports)
      → NewOf checked number position reports asking heard start new

map_drop : {X Y : Type 0} (f : X → Y) (n : ℕ) (xs : List X) → drop n (map f xs) ≡ map f (drop n xs)
map_drop f zero xs = refl
map_drop f (suc n) [] = refl
map_drop f (suc n) (x ∷ xs) = map_drop f n xs

module _ (case : Case) (c : Connection) (more : ℕ) where
  abbrev asking : ℕ
  asking = asking_length (source_of case) (peer_of case).position

  abbrev reports_whole : ℕ → List Up
  reports_whole count = whole_by (up_frame case.checked case.number) count (map Says c.reports)

  asked_whole : (count : ℕ) → asking ≤ count
      → whole_by (up_frame case.checked case.number) count (ups_of (peer_of case) c) ≡ Asks (peer_of case).position
      ∷ reports_whole (count - asking)
  asked_whole count fits =
      ap (λ b. if_whole b (Asks (peer_of case).position) (reports_whole (count - asking))) (le-leb asking count fits)

  none_asked : (count : ℕ) → count < asking
      → whole_by (up_frame case.checked case.number) count (ups_of (peer_of case) c) ≡ []
  none_asked count short = by_test (nat_le asking count)
      (λ whole. let fits : asking ≤ count = leb-true asking count whole in absurd (omega (arith, fits, short)))
      (λ part. ap (λ b. if_whole b (Asks (peer_of case).position) (reports_whole (count - asking))) part)

  new_by : (start : Option ℕ) → IsAsked c.heard asking start
      → NewOf case.checked case.number (peer_of case).position c.reports asking (c.heard + more) start
      (newly (source_of case) (peer_of case) c more)
  new_by None before = by_test (nat_le asking (c.heard + more))
      (λ whole. Command refl (leb-true asking (c.heard + more) whole) (c.heard + more - asking)
      (ap (λ few. drop (length few)
      (whole_by (up_frame case.checked case.number) (c.heard + more) (ups_of (peer_of case) c)))
      (none_asked c.heard before)
      ∙ asked_whole (c.heard + more) (leb-true asking (c.heard + more) whole)
      ∙ ap (λ ups. Asks (peer_of case).position ∷ ups)
      (says_whole case.checked case.number (c.heard + more - asking) c.reports)))
      (λ part. Nothing refl (leb-false asking (c.heard + more) part)
      (ap (λ few. drop (length few)
      (whole_by (up_frame case.checked case.number) (c.heard + more) (ups_of (peer_of case) c)))
      (none_asked c.heard before)
      ∙ none_asked (c.heard + more) (leb-false asking (c.heard + more) part)))
  new_by (Some at) after =
      Statuses at refl (omega (arith, after)) (length (reports_whole (c.heard - asking))) (c.heard + more - asking)
      (ap (λ few. drop (length few)
      (whole_by (up_frame case.checked case.number) (c.heard + more) (ups_of (peer_of case) c)))
      (asked_whole c.heard after)
      ∙ ap (drop (suc (length (reports_whole (c.heard - asking)))))
      (asked_whole (c.heard + more) (omega (arith, after)))
      ∙ ap (drop (length (reports_whole (c.heard - asking))))
      (says_whole case.checked case.number (c.heard + more - asking) c.reports)
      ∙ map_drop Says (length (reports_whole (c.heard - asking)))
      (whole_by (λ status. up_frame case.checked case.number (Says status)) (c.heard + more - asking) c.reports))

  pub what_is_new : IsAsked c.heard asking c.start
      → NewOf case.checked case.number (peer_of case).position c.reports asking (c.heard + more) c.start
      (newly (source_of case) (peer_of case) c more)
  what_is_new asked = new_by c.start asked

-- ---- what all statuses have, some of them have

if_all : (P : Status → Type 0) (whole : Bool) (status : Status) (others : List Status) → P status → All P others
    → All P (if_whole whole status others)
if_all P true status others here later = All-cons P status others here later
if_all P false status others here later = All-nil P

whole_all : (P : Status → Type 0) (frame : Status → Frame) (count : ℕ) (statuses : List Status) → All P statuses
    → All P (whole_by frame count statuses)
whole_all P frame count [] all = All-nil P
whole_all P frame count (status ∷ statuses) all =
    if_all P (nat_le (length (framed (frame status))) count) status
    (whole_by frame (count - length (framed (frame status))) statuses) (All-head P status statuses all)
    (whole_all P frame (count - length (framed (frame status))) statuses (All-tail P status statuses all))

pub some_all : (checked : CheckedOf) (number : ℕ) (P : Status → Type 0) (done count : ℕ) (statuses : List Status)
    → All P statuses → All P (some_of checked number done count statuses)
some_all checked number P done count statuses all =
    All-drop P done (whole_by (λ status. up_frame checked number (Says status)) count statuses)
    (whole_all P (λ status. up_frame checked number (Says status)) count statuses all)

-- ---- what the new frames do

-- how far a status may confirm, before the log's end: up to what was sent, or to where the stream starts now
abbrev pub sent_limit : Option ℕ → ℕ → ℕ → ℕ
sent_limit None position sent = first_sent position
sent_limit (Some start) position sent = sent

start_in_stream : (number : ℕ) (start : Option ℕ) → start_in (stream_of number start) ≡ start
start_in_stream number None = refl
start_in_stream number (Some start) = refl

own_stream : (number : ℕ) (start : Option ℕ) → IsOwn number (stream_of number start)
own_stream number None = tt
own_stream number (Some start) = refl

some_is : (one other : ℕ) → ◌≡◌ {A = Option ℕ} (Some one) (Some other) → one ≡ other
some_is one other e = cc

stream_is : (number : ℕ) (started : Option (ℕ × ℕ)) (start : Option ℕ) → IsOwn number started
    → start_in started ≡ start → started ≡ stream_of number start
stream_is number None None own e = refl
stream_is number None (Some start) own e = absurd cc
stream_is number (Some found) None own e = absurd cc
stream_is number (Some found) (Some start) own e =
    ap (λ (slot : ℕ). Some (slot, found.1)) own ∙ ap (λ (at : ℕ). Some (number, at)) (some_is found.1 start e)

module _ (case : Case) (is : IsCase case) (c : Connection) (commits : ℕ) (h : HearingOf) where
  abbrev pub served_of : ServedFrom
  served_of = record { checked = case.checked; commits = commits }

  pub record Before : Type 0 where
    pub commits_is : commits ≡ length case.world.transactions
    pub started : h.started ≡ stream_of case.number c.start
    pub replies : h.heard.replies ≡ 0
    pub goes_on : is_over h ≡ false
    pub slot : HasSlot h.slots case.number (peer_of case).confirmed (is_some c.start)
    pub asked : IsAsked c.heard (asking_length (source_of case) (peer_of case).position) c.start
    pub starts : c.start ≡ None → (peer_of case).confirmed ≤ (peer_of case).position
    pub low : (limit : ℕ) → sent_limit c.start (peer_of case).position h.sent ≡ limit
        → All (IsWithin (min limit (end_lsn_of commits))) c.reports

  module _ (before : Before) (more : ℕ) where
    abbrev new : List Up
    new = newly (source_of case) (peer_of case) c more

    abbrev heard_now : HearingOf
    heard_now = frames_heard served_of h
        (map (up_frame case.checked case.number) (newly (source_of case) (peer_of case) c more))

    abbrev first_session : Session
    first_session = record { confirmed = (peer_of case).confirmed; start = c.start; moves = c.moves }

    hearing : IsHearing case.number h
    hearing = record {
      own = subst (IsOwn case.number) (sym before.started) (own_stream case.number c.start);
      is_there = slice_get_within h.slots case.number
          (record { confirmed = (peer_of case).confirmed; taken = is_some c.start }) before.slot;
      goes_on = before.goes_on;
    }

    session_before : session_of case.number case.now c.moves h ≡ first_session
    session_before =
        ap (λ (confirmed : ℕ). record {
          confirmed = confirmed;
          start = start_in h.started;
          moves =
              c.moves ++ replicate h.heard.replies (Keep case.now false);
        })
        (confirmed_is h.slots case.number (peer_of case).confirmed (is_some c.start) before.slot)
        ∙ ap (λ (start : Option ℕ). record {
          confirmed = (peer_of case).confirmed;
          start = start;
          moves =
              c.moves ++ replicate h.heard.replies (Keep case.now false);
        })
        (ap start_in before.started ∙ start_in_stream case.number c.start)
        ∙ ap (λ (moves : List Move). record { confirmed = (peer_of case).confirmed; start = c.start; moves = moves })
        (ap (λ n. c.moves ++ replicate n (Keep case.now false)) before.replies ∙ append-nil c.moves)

    -- the result of the new frames, if they are these
    record Comes (ups : List Up) (last : HearingOf) : Type 0 where
      hears : IsHearing case.number last
      session_is : session_of case.number case.now c.moves last ≡ fold (hear_up case.now) first_session ups
      others : (other : ℕ) → other ≢ case.number → slice_get last.slots other ≡ slice_get h.slots other
      taken : HasSlotBy last.slots case.number (is_some (start_in last.started))

    nothing_comes : Comes [] h
    nothing_comes = record {
      hears = hearing;
      session_is = session_before;
      others = λ other apart. refl;
      taken = record {
        confirmed = (peer_of case).confirmed;
        has = subst (λ start. HasSlot h.slots case.number (peer_of case).confirmed (is_some start))
            (sym (ap start_in before.started ∙ start_in_stream case.number c.start)) before.slot;
      };
    }

    start_stays_so : (statuses : List Status) (session : Session)
        → (fold (hear_up case.now) session (map Says statuses)).start ≡ session.start
    start_stays_so [] session = refl
    start_stays_so (status ∷ statuses) session = start_stays_so statuses (hear_up case.now session (Says status))

    statuses_come : (at : ℕ) → c.start ≡ Some at → (statuses : List Status)
        → All (IsWithin (min h.sent (end_lsn_of commits))) statuses
        → Comes (map Says statuses)
        (frames_heard served_of h (map (up_frame case.checked case.number) (map Says statuses)))
    statuses_come at start statuses within =
        let started : h.started ≡ Some (case.number, at) = before.started ∙ ap (stream_of case.number) start in
        let last = frames_heard served_of h (map (up_frame case.checked case.number) (map Says statuses)) in
        let heard = statuses_are_heard served_of case.number at case.now c.moves statuses h hearing started within in
        let goes = statuses_go served_of case.number at case.now c.moves statuses h hearing started within in
        let still : start_in last.started ≡ c.start =
        ap (λ (session : Session). session.start) heard.session_is
        ∙ start_stays_so statuses (session_of case.number case.now c.moves h)
        ∙ ap (λ (session : Session). session.start) session_before in
        record {
          hears = heard.hearing;
          session_is = heard.session_is
              ∙ ap (λ session. fold (hear_up case.now) session (map Says statuses)) session_before;
          others = goes.others;
          taken = subst (λ start. HasSlotBy last.slots case.number (is_some start)) (sym still)
              (goes.own (peer_of case).confirmed (is_some c.start) before.slot);
        }

    free : c.start ≡ None → start_fault h.slots (end_lsn_of commits) case.number (peer_of case).position ≡ None
    free none =
        ap (λ found. slot_fault found (end_lsn_of commits) (peer_of case).position) before.slot
        ∙ ap (λ start. slot_fault (Some (record { confirmed = (peer_of case).confirmed; taken = is_some start }))
        (end_lsn_of commits) (peer_of case).position) none
        ∙ ap (λ b. if b then Some Ahead else None) (le-ltb (end_lsn_of commits) (peer_of case).position
        (omega (arith, (case_good case is).follows.within, before.commits_is)))

    command_comes : c.start ≡ None → (statuses : List Status)
        → All (IsWithin (min (first_sent (peer_of case).position) (end_lsn_of commits))) statuses
        → Comes (Asks (peer_of case).position ∷ map Says statuses)
        (frames_heard served_of h
        (map (up_frame case.checked case.number) (Asks (peer_of case).position ∷ map Says statuses)))
    unfolding frames_heard
    command_comes none statuses within =
        let position = (peer_of case).position in
        let idle : h.started ≡ None = before.started ∙ ap (stream_of case.number) none in
        let begun_at : max position (confirmed_at h.slots case.number) ≡ position =
        ap (max position) (confirmed_is h.slots case.number (peer_of case).confirmed (is_some c.start) before.slot)
        ∙ greater position (peer_of case).confirmed (before.starts none) in
        let first = frame_heard served_of h (up_frame case.checked case.number (Asks position)) in
        let step : first ≡ begun (Begins case.number position) h =
        start_step served_of case.number position (case_asks case is).subscription h (case_asks case is).asks
        (opened_small case is) (free none) before.goes_on idle
        ∙ ap (λ at. begun (Begins case.number at) h) begun_at in
        let one = starts_are_heard served_of case.number position case.now (case_asks case is).subscription c.moves h
        (case_asks case is).asks (opened_small case is) (free none) hearing idle in
        let started : first.started ≡ Some (case.number, position) = ap (λ (its : HearingOf). its.started) step in
        let sent : first.sent ≡ first_sent position = ap (λ (its : HearingOf). its.sent) step in
        let slots : first.slots ≡ change_at h.slots case.number (with_stream true) =
        ap (λ (its : HearingOf). its.slots) step in
        let low : All (IsWithin (min first.sent (end_lsn_of commits))) statuses =
        subst (λ n. All (IsWithin (min n (end_lsn_of commits))) statuses) (sym sent) within in
        let heard = statuses_are_heard served_of case.number position case.now c.moves statuses first one.0.hearing
        started low in
        let goes = statuses_go served_of case.number position case.now c.moves statuses first one.0.hearing started
        low in
        let last = frames_heard served_of first (map (up_frame case.checked case.number) (map Says statuses)) in
        let same_session : fold (hear_up case.now) (session_of case.number case.now c.moves first) (map Says statuses)
        ≡ fold (hear_up case.now) first_session (Asks position ∷ map Says statuses) =
        ap (λ session. fold (hear_up case.now) session (map Says statuses))
        (one.0.session_is ∙ ap (λ session. hear_up case.now session (Asks position)) session_before) in
        let has_start : start_in last.started ≡ Some position =
        ap (λ (session : Session). session.start) heard.session_is
        ∙ start_stays_so statuses (session_of case.number case.now c.moves first) ∙ ap start_in started in
        record {
          hears = heard.hearing;
          session_is = heard.session_is ∙ same_session;
          others = λ other apart. goes.others other apart ∙ ap (λ its. slice_get its other) slots
              ∙ others_stay h.slots case.number other (with_stream true) apart;
          taken = subst (λ start. HasSlotBy last.slots case.number (is_some start)) (sym has_start)
              (goes.own (peer_of case).confirmed true
              (subst (λ its. HasSlot its case.number (peer_of case).confirmed true) (sym slots)
              (streams_slot h.slots case.number (peer_of case).confirmed (is_some c.start) true before.slot)));
        }
      where
        greater : (a b : ℕ) → b ≤ a → max a b ≡ a
        greater a b h = omega (arith, h)

    some_within : (done count limit : ℕ) → All (IsWithin limit) c.reports
        → All (IsWithin limit) (some_of case.checked case.number done count c.reports)
    some_within done count limit all = some_all case.checked case.number (IsWithin limit) done count c.reports all

    comes_by : (ups : List Up) → newly (source_of case) (peer_of case) c more ≡ ups
        → Comes ups (frames_heard served_of h (map (up_frame case.checked case.number) ups))
        → Comes (newly (source_of case) (peer_of case) c more) heard_now
    comes_by ups e comes =
        subst (λ its. Comes its (frames_heard served_of h (map (up_frame case.checked case.number) its))) (sym e)
        comes

    new_comes : NewOf case.checked case.number (peer_of case).position c.reports
        (asking_length (source_of case) (peer_of case).position) (c.heard + more) c.start
        (newly (source_of case) (peer_of case) c more)
        → Comes (newly (source_of case) (peer_of case) c more) heard_now
    unfolding frames_heard
    new_comes (Nothing none short e) = comes_by [] e nothing_comes
    new_comes (Command none long count e) =
        comes_by (Asks (peer_of case).position ∷ map Says (some_of case.checked case.number 0 count c.reports)) e
        (command_comes none (some_of case.checked case.number 0 count c.reports)
        (some_within 0 count (min (first_sent (peer_of case).position) (end_lsn_of commits))
        (before.low (first_sent (peer_of case).position)
        (ap (λ start. sent_limit start (peer_of case).position h.sent) none))))
    new_comes (Statuses at start long done count e) =
        comes_by (map Says (some_of case.checked case.number done count c.reports)) e
        (statuses_come at start (some_of case.checked case.number done count c.reports)
        (some_within done count (min h.sent (end_lsn_of commits))
        (before.low h.sent (ap (λ start. sent_limit start (peer_of case).position h.sent) start))))

    -- what was heard is as in the world
    pub record After : Type 0 where
      pub hears : IsHearing case.number heard_now
      pub session_is : session_of case.number case.now c.moves heard_now
          ≡ heard_of (source_of case) case.now (peer_of case) c more
      pub others : (other : ℕ) → other ≢ case.number → slice_get heard_now.slots other ≡ slice_get h.slots other
      pub started : heard_now.started
          ≡ stream_of case.number (heard_of (source_of case) case.now (peer_of case) c more).start
      pub slot : HasSlot heard_now.slots case.number
          (heard_of (source_of case) case.now (peer_of case) c more).confirmed
          (is_some (heard_of (source_of case) case.now (peer_of case) c more).start)
      pub moves_are : (heard_of (source_of case) case.now (peer_of case) c more).moves ≡ c.moves
          ++ replicate heard_now.heard.replies (Keep case.now false)

    pub heard_after : After
    heard_after =
        let comes = new_comes (what_is_new case c more before.asked) in
        let start : start_in heard_now.started ≡ (heard_of (source_of case) case.now (peer_of case) c more).start =
        ap (λ (session : Session). session.start) comes.session_is in
        let confirmed : comes.taken.confirmed ≡ (heard_of (source_of case) case.now (peer_of case) c more).confirmed =
        sym (confirmed_is heard_now.slots case.number comes.taken.confirmed (is_some (start_in heard_now.started))
        comes.taken.has) ∙ ap (λ (session : Session). session.confirmed) comes.session_is in
        record {
          hears = comes.hears;
          session_is = comes.session_is;
          others = comes.others;
          started = stream_is case.number heard_now.started
              (heard_of (source_of case) case.now (peer_of case) c more).start comes.hears.own start;
          slot = subst (λ n. HasSlot heard_now.slots case.number n
              (is_some (heard_of (source_of case) case.now (peer_of case) c more).start)) confirmed
              (subst (λ its. HasSlot heard_now.slots case.number comes.taken.confirmed (is_some its)) start
              comes.taken.has);
          moves_are = sym (ap (λ (session : Session). session.moves) comes.session_is);
        }
