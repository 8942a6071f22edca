-- A piece that a subscriber sent is heard at the publisher's end of the connection as in the world.
use Rattle.std.proofs.Common.{◌≡◌, ℕ, ◌+◌, ◌≤◌, min, List, [], ◌++◌, drop, length, map, take, refl, sym, ap, subst, ◌∙◌, arith, length-drop}
use Rattle.std.specs.Prelude.{Option, Some, None, Ok, fold, is_some, slice_get, unwrap_or}
use Rattle.std.proofs.lemmas.List.{drop-drop, length-take-le}
use Rattle.tables_log.specs.BookView.{book_log, book_slots}
use Rattle.tables_log.specs.Lsn.{end_lsn_of}
use Rattle.tables_log.specs.declared.book.Book.{Book}
use Rattle.copy_frames.specs.Frames.{Rest, cut, after_frames, cut_fault, frames_of, rest_of}
use Rattle.copy_frames.specs.Inboxes.{Inbox}
use Rattle.copy_frames.proofs.PieceLemmas.{frames_before, no_fault_after, rest_after}
use Rattle.copy_both.specs.Ears.{HearLeaves, HearsPiece, Holds, ear_phase, hear_answer, answer_in}
use Rattle.copy_both.specs.Hearing.{HearingOf, answer_of, reported_heard, bytes_heard, frames_heard, then_fault}
use Rattle.copy_both.specs.LinkLaws.{IsStreaming}
use Rattle.copy_both.specs.Links.{HearSays, link_ear, link_heard, link_sent}
use Rattle.copy_both.specs.Listening.{Leaves, fed, resting, silence}
use Rattle.copy_both.specs.Phases.{IsReady, phase_after, phase_by}
use Rattle.copy_both.specs.Sessions.{hearing_view, served_by}
use Rattle.copy_both.specs.Voices.{sent_of}
use Rattle.copy_both.specs.declared.heard.Heard.{Heard}
use Rattle.copy_both.specs.declared.link.Link.{Link}
use Rattle.copy_both.specs.declared.phase.Phase.TheVariants as phase
use Rattle.test_subscriber.specs.Feeding.{limit}
use Rattle.test_subscriber.specs.Frames.{hear_cut}
use Rattle.test_subscriber.specs.Machine.{opened}
use Rattle.test_subscriber.specs.Subscribers.{sub_machine, sub_output, Passes}
use Rattle.test_subscriber.specs.declared.subscriber.Subscriber.{Subscriber}
use Rattle.shard_world.specs.Connections.{HearsOn, HearsStep, front_of}
use Rattle.stream_laws.specs.Cutting.{whole_in}
use Rattle.stream_laws.specs.Following.{position_after}
use Rattle.shard_world.specs.Joined.{AlikeBut, HasSlot, PeerOf, IsAsked, IsLinked, SendsStream, run_of}
use Rattle.shard_world.specs.PeerSteps.{Case, IsCase, HasLog, peer_of, MatchesPeer, source_of}
use Rattle.shard_world.specs.World as w
use Rattle.shard_world.specs.World.{Says, Connection, Session, hear_up, as_many, down_items, heard_of, newly, stream_state, up_frame, ups_of, up_bytes, down_of, asking_length}
use Rattle.shard_world.proofs.WorldSteps.{stays_within}
use Rattle.shard_world.proofs.CaseLemmas.{Open, is_open}
use Rattle.shard_world.proofs.CatchingUpLemmas.{HasStart, start_stays, starts_by}
use Rattle.stream_laws.proofs.CuttingLemmas.{IsPiece, pieces_are_cut}
use Rattle.shard_world.proofs.JoinedFeeding.{Connected, connected}
use Rattle.shard_world.proofs.JoinedHearing.{After, Before, Command, NewOf, Nothing, Statuses, heard_after, sent_limit, some_of, served_of, ups_are_frames, what_is_new}
use Rattle.shard_world.proofs.JoinedSteps.{ok_of, steps_to, still_named}
use Rattle.copy_both.proofs.FrameRuns.{end_over}
use Rattle.shard_world.proofs.HeardStreams.{log_long, reached_small, sent_by, statuses_within, not_over, SpeaksOn, went_on, begins, still_waits}

-- ---- hear

module _ (case : Case) (is : IsCase case) (before after : Book) (old : PeerOf) (link : Link) (count : ℕ)
    (log : HasLog case before)
    (stands : MatchesPeer case (book_slots before) old) (some : old.link ≡ Some link) where
  abbrev here : Open case (book_slots before) link old.subscriber
  here = is_open case (book_slots before) old link stands some

  abbrev pub connection : Connection
  connection = (is_open case (book_slots before) old link stands some).c

  pub linked : IsLinked (source_of case) (book_slots before) link old.subscriber (peer_of case) connection
  linked = (is_open case (book_slots before) old link stands some).linked

  abbrev pub ups : List ℕ
  ups = up_bytes (source_of case) (peer_of case) connection

  abbrev pub more : ℕ
  more = as_many count (length ups) connection.heard

  abbrev pub piece : List ℕ
  piece = front_of count (sub_output old.subscriber)

  pub within : connection.heard + more ≤ length ups
  within = stays_within count (length ups) connection.heard linked.heard

  pub piece_is : piece ≡ take more (drop connection.heard ups)
  piece_is = ap (front_of count) linked.sends
      ∙ ap (λ n. take (min count n) (drop connection.heard ups)) (length-drop connection.heard ups)

  piece_long : length piece ≡ more
  piece_long = length-take-le (min count (length (sub_output old.subscriber))) (sub_output old.subscriber) (omega arith)
      ∙ ap (λ bytes. min count (length bytes)) linked.sends ∙ ap (min count) (length-drop connection.heard ups)

  pub cuts : IsPiece (up_frame case.checked case.number) 65536 (ups_of (peer_of case) connection) ups connection.heard
      more
  cuts = pieces_are_cut (up_frame case.checked case.number) 65536 (ups_of (peer_of case) connection) ups
      connection.heard more (ups_are_frames case is connection) refl within

  pub ready : IsReady (link_ear link).frames (link_ear link).session.response.items
  ready = (link_ear link).fits linked.hears.phase_is

  abbrev pub start_view : HearingOf
  start_view = hearing_view (link_ear link).session (silence (link_sent link)) before

  abbrev pub commits : ℕ
  commits = length (book_log before)

  commits_are : commits ≡ length case.world.transactions
  commits_are = ap length log.log_is ∙ log_long case

  at : Connected case connection
  at = connected case is connection here.some

  sent_is : (begin : ℕ) → connection.start ≡ Some begin
      → link_sent link ≡ (stream_state (source_of case) begin connection.moves).sent
  sent_is begin e =
      let streams : IsStreaming link (run_of (source_of case) begin connection.moves connection.delivered)
      (stream_state (source_of case) begin connection.moves) =
      subst (SendsStream (source_of case) link connection.moves connection.delivered) e linked.speaks in
      ap (λ stage. unwrap_or (sent_of stage) 0) streams.stage_is

  pub heard_before : Before case is connection commits start_view
  heard_before = record {
    commits_is = commits_are;
    started = linked.hears.started;
    replies = refl;
    goes_on = refl;
    slot = linked.slot;
    asked = linked.hears.asked;
    starts = λ none. subst (λ n. (peer_of case).confirmed ≤ n) (unstarted none) at.is.confirmed_is;
    low = λ limit e. statuses_within case is connection here.some (min limit (end_lsn_of commits)) at.reached
        (reached_small case is connection here.some at)
        (subst (λ n. at.reached ≤ min n (end_lsn_of commits)) e
        (subst (λ n. at.reached ≤ min (sent_limit connection.start (peer_of case).position (link_sent link))
        (end_lsn_of n)) (sym commits_are)
        (sent_by case is connection here.some at connection.start (link_sent link) refl sent_is)))
        connection.reports at.is.reports linked.hears.statuses;
  }
    where
      unstarted : connection.start ≡ None → at.reached ≡ (peer_of case).position
      unstarted none = sym at.is.reached_is
          ∙ ap (λ start. position_after (peer_of case).position
          (whole_in connection.delivered (down_items (source_of case) start connection.moves))) none

  abbrev pub heard_all : HearingOf
  heard_all = frames_heard (served_of case is connection commits start_view) start_view
      (map (up_frame case.checked case.number) (newly (source_of case) (peer_of case) connection more))

  -- all bytes are these frames, without a fault
  pub heard_is : link_heard link before piece ≡ heard_all
  heard_is =
      let bytes = take more (drop connection.heard ups) in
      let served_is : served_by (link_ear link).session before ≡ served_of case is connection commits start_view =
      ap (λ checked. record { checked = checked; commits = commits }) linked.hears.checked_is in
      let cut_is : cut (link_ear link).frames.limit ((link_ear link).frames.bytes ++ piece)
      ≡ after_frames (map (up_frame case.checked case.number)
      (newly (source_of case) (peer_of case) connection more)) (Rest cuts.rest) =
      ap (λ limit. cut limit ((link_ear link).frames.bytes ++ piece)) ready.limit
      ∙ ap (λ held. cut 65536 (held ++ piece)) linked.hears.held
      ∙ ap (λ its. cut 65536 (rest_of (cut 65536 (take connection.heard ups)) ++ its)) piece_is ∙ cuts.cuts in
      let frames = map (up_frame case.checked case.number) (newly (source_of case) (peer_of case) connection more) in
      ap (λ served. bytes_heard served (link_ear link).frames.limit ((link_ear link).frames.bytes ++ piece)
      start_view) served_is
      ∙ ap (λ its. then_fault (cut_fault its)
      (frames_heard (served_of case is connection commits start_view) start_view (frames_of its))) cut_is
      ∙ ap (λ fault. then_fault fault
      (frames_heard (served_of case is connection commits start_view) start_view
      (frames_of (after_frames frames (Rest cuts.rest))))) (no_fault_after frames cuts.rest)
      ∙ ap (frames_heard (served_of case is connection commits start_view) start_view) (frames_before frames cuts.rest)

  -- a stream that has started stays so, and one starts when the command is heard
  start_kept : (start : ℕ) → connection.start ≡ Some start
      → (heard_of (source_of case) case.now (peer_of case) connection more).start ≡ Some start
  start_kept start e = start_stays case.now start (newly (source_of case) (peer_of case) connection more)
      (record { confirmed = (peer_of case).confirmed; start = connection.start; moves = connection.moves }) e

  nothing_heard : newly (source_of case) (peer_of case) connection more ≡ [] → heard_all.heard.replies ≡ 0
  unfolding frames_heard
  nothing_heard e = ap (λ new.
      (frames_heard (served_of case is connection commits start_view) start_view
      (map (up_frame case.checked case.number) new)).heard.replies) e

  asked_then : IsAsked (connection.heard + more) (asking_length (source_of case) (peer_of case).position)
      (heard_of (source_of case) case.now (peer_of case) connection more).start
  asked_then = by_new (what_is_new case connection more linked.hears.asked)
    where
      some_start : (start : Option ℕ) → HasStart start
          → (asking_length (source_of case) (peer_of case).position) ≤ connection.heard + more
          → IsAsked (connection.heard + more) (asking_length (source_of case) (peer_of case).position) start
      some_start start has long =
          subst (IsAsked (connection.heard + more) (asking_length (source_of case) (peer_of case).position))
          (sym has.is) long

      by_new : NewOf case.checked case.number (peer_of case).position connection.reports
          (asking_length (source_of case) (peer_of case).position) (connection.heard + more) connection.start
          (newly (source_of case) (peer_of case) connection more)
          → IsAsked (connection.heard + more) (asking_length (source_of case) (peer_of case).position)
          (heard_of (source_of case) case.now (peer_of case) connection more).start
      by_new (Nothing none short e) =
          subst (IsAsked (connection.heard + more) (asking_length (source_of case) (peer_of case).position))
          (sym (ap (λ new. (fold (hear_up case.now)
          (record { confirmed = (peer_of case).confirmed; start = connection.start; moves = connection.moves })
          new).start) e ∙ none)) short
      by_new (Command none long count e) =
          some_start (heard_of (source_of case) case.now (peer_of case) connection more).start
          (subst (λ new. HasStart
          (fold (hear_up case.now)
          (record { confirmed = (peer_of case).confirmed; start = connection.start; moves = connection.moves })
          new).start) (sym e)
          (starts_by case.now (peer_of case).position
          (map Says (some_of case.checked case.number 0 count connection.reports))
          (record { confirmed = (peer_of case).confirmed; start = connection.start; moves = connection.moves })))
          long
      by_new (Statuses begin start long done count e) =
          subst (IsAsked (connection.heard + more) (asking_length (source_of case) (peer_of case).position))
          (sym (start_kept begin start)) long

  silent_still : connection.start ≡ None
      → (heard_of (source_of case) case.now (peer_of case) connection more).start ≡ None → heard_all.heard.replies ≡ 0
  silent_still none still = by_new (what_is_new case connection more linked.hears.asked)
    where
      none_some : (n : ℕ) → ◌≡◌ {A = Option ℕ} None (Some n) → ⊥
      none_some n e = cc

      by_new : NewOf case.checked case.number (peer_of case).position connection.reports
          (asking_length (source_of case) (peer_of case).position) (connection.heard + more) connection.start
          (newly (source_of case) (peer_of case) connection more) → heard_all.heard.replies ≡ 0
      by_new (Nothing idle short e) = nothing_heard e
      by_new (Command idle long count e) = absurd (
          let has = starts_by case.now (peer_of case).position
          (map Says (some_of case.checked case.number 0 count connection.reports))
          (record { confirmed = (peer_of case).confirmed; start = connection.start; moves = connection.moves }) in
          let both = sym still ∙ ap
          (λ new. (fold (hear_up case.now)
          (record { confirmed = (peer_of case).confirmed; start = connection.start; moves = connection.moves })
          new).start) e ∙ has.is in
          none_some has.at both)
      by_new (Statuses begin start long done count e) = absurd (none_some begin (sym none ∙ start))

  -- the piece was heard, and answered
  module _ (new : Link) (subscriber : Subscriber) (heard : Heard)
      (answer : Ok heard ≡ hear_answer (link_ear link) before (front_of count (sub_output old.subscriber))
      (link_sent link))
      (leaves : HearLeaves (ear_phase (link_ear link)) (link_ear link) (link_ear new) before after
      (front_of count (sub_output old.subscriber)) (link_sent link) (Ok heard))
      (says : HearSays link new (link_heard link before (front_of count (sub_output old.subscriber))) case.now
      (Ok heard))
      (passes : Passes old.subscriber (length (front_of count (sub_output old.subscriber))) subscriber) where
    known : After case is connection commits start_view heard_before more
    known = heard_after case is connection commits start_view heard_before more

    abbrev session : Session
    session = heard_of (source_of case) case.now (peer_of case) connection more

    goes_on : heard_all.heard.ended ≡ None
    goes_on = end_over heard_all.fault heard_all.heard.ended known.hears.goes_on

    same_heard : heard ≡ reported_heard heard_all.heard
    same_heard = ok_of heard (reported_heard heard_all.heard)
        (answer ∙ ap (λ phase. answer_in phase (link_heard link before piece)) linked.hears.phase_is
        ∙ ap answer_of heard_is ∙ not_over heard_all known.hears.goes_on)

    says_all : HearSays link new heard_all case.now (Ok heard)
    says_all = subst (λ h. HearSays link new h case.now (Ok heard)) heard_is says

    speaks_on : SpeaksOn case new connection session
    speaks_on = by_start connection.start refl session.start refl
      where
        by_start : (start : Option ℕ) → connection.start ≡ start → (then : Option ℕ) → session.start ≡ then
            → SpeaksOn case new connection session
        by_start (Some start) e then f =
            went_on case is (book_slots before) link new old.subscriber connection linked heard_all heard says_all
            goes_on session known.started known.moves_are start e (start_kept start e)
        by_start None e (Some start) f =
            begins case is (book_slots before) link new old.subscriber connection linked heard_all heard says_all
            goes_on session known.started known.moves_are start e f
        by_start None e None f =
            still_waits case is (book_slots before) link new old.subscriber connection linked heard_all heard says_all
            goes_on session known.started known.moves_are e f (silent_still e f)

    ear_leaves : HearsPiece (link_ear link) (link_ear new) before after piece (link_sent link) (Ok heard)
    ear_leaves = subst (λ phase. HearLeaves phase (link_ear link) (link_ear new) before after piece (link_sent link)
        (Ok heard)) linked.hears.phase_is leaves

    left : Leaves (link_ear link).session (link_ear new).session before after heard_all
    left = subst (λ h. Leaves (link_ear link).session (link_ear new).session before after h) heard_is ear_leaves.leaves

    still_open : phase_after (Ok heard) ≡ phase.Open
    still_open = ap (λ its. phase_by its.ended) same_heard ∙ ap phase_by goes_on

    held_is : (link_ear new).frames ≡ resting (fed (link_ear link).frames piece)
    held_is = subst (λ phase. Holds phase (link_ear link) (link_ear new) piece) still_open ear_leaves.holds

    rest_is : rest_of (cut (link_ear link).frames.limit ((link_ear link).frames.bytes ++ piece))
        ≡ rest_of (cut 65536 (take (connection.heard + more) ups))
    rest_is = ap (λ limit. rest_of (cut limit ((link_ear link).frames.bytes ++ piece))) ready.limit
        ∙ ap (λ held. rest_of (cut 65536 (held ++ piece))) linked.hears.held
        ∙ ap (λ its. rest_of (cut 65536 (rest_of (cut 65536 (take connection.heard ups)) ++ its))) piece_is
        ∙ ap rest_of cuts.cuts
        ∙ rest_after (map (up_frame case.checked case.number) (newly (source_of case) (peer_of case) connection more))
        (Rest cuts.rest) ∙ sym cuts.held

    pub hears_on : HearsOn case count (length (front_of count (sub_output old.subscriber))) before after
        (record { link = Some new; subscriber = subscriber })
    hears_on = record {
      steps = steps_to case (w.Hear count) (w.Heard (length piece)) (book_slots after)
          (record { link = Some new; subscriber = subscriber }) (Some connection) here.some
          (ap w.Heard piece_long) (record {
            named = still_named case old.subscriber subscriber stands.named passes.names;
            at = record {
              heard = within;
              delivered = speaks_on.within;
              sends = passes.output ∙ ap (drop (length piece)) linked.sends
                  ∙ ap (λ n. drop n (drop connection.heard ups)) piece_long ∙ drop-drop more connection.heard ups;
              held = passes.held ∙ linked.held ∙ ap (λ bytes. rest_of (cut limit bytes)) (sym speaks_on.same);
              machine = subst (λ bytes. AlikeBut (sub_machine subscriber)
                  (hear_cut (cut limit bytes) (opened (peer_of case).machine)).machine) (sym speaks_on.same)
                  (subst (λ machine. AlikeBut machine
                  (hear_cut (cut limit (take connection.delivered (down_of (source_of case) connection)))
                  (opened (peer_of case).machine)).machine)
                  (sym passes.machine) linked.machine);
              checked_is = says_all.checked ∙ linked.checked_is;
              hears = record {
                checked_is = left.checked ∙ linked.hears.checked_is;
                phase_is = ear_leaves.phase_is ∙ still_open;
                started = left.started ∙ known.started;
                asked = asked_then;
                statuses = linked.hears.statuses;
                held = ap (λ (inbox : Inbox). inbox.bytes) held_is ∙ rest_is;
              };
              speaks = speaks_on.speaks;
              slot = subst (λ slots. HasSlot slots case.number session.confirmed (is_some session.start))
                  (sym left.book.slots_are) known.slot;
            };
          });
      own = record {
        book = record {
          checked = left.book.checked;
          limit = left.book.limit;
          rows = left.book.rows;
          log =
              left.book.log;
          slots_are = refl;
        };
        others = λ other apart. ap (λ slots. slice_get slots other) left.book.slots_are ∙ known.others other apart;
      };
    }

pub hears_step : HearsStep
hears_step case is before after old link count log stands some new subscriber heard answer leaves says passes =
    hears_on case is before after old link count log stands some new subscriber heard answer leaves says passes
