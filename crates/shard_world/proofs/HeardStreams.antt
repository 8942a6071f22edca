-- What a connection has sent when a piece is heard: its stream starts or continues, or it still waits. Statuses report
-- no more than what was sent.
use Rattle.std.proofs.Common.{◌≡◌, ℕ, ◌+◌, ◌<◌, ◌≤◌, ◌^◌, min, false, List, [], ◌∷◌, ◌++◌, length, replicate, take, refl, sym, ap, subst, ◌∙◌, arith, append-nil, length-append}
use Rattle.std.specs.Prelude.{Option, Some, None, Ok, All, slice_get}
use Rattle.std.specs.List.{concat}
use Rattle.std.proofs.lemmas.List.{length-take-le, take_at}
use Rattle.std.proofs.lemmas.List.Elements.{All-nil, All-cons, All-head, All-tail}
use Rattle.shard_checker.specs.CheckedView.{setting_in}
use Rattle.table_changes.specs.Tables.{no_rows}
use Rattle.tables_log.specs.Commits.{CommitOf}
use Rattle.tables_log.specs.Lsn.{end_lsn_of}
use Rattle.tables_log.specs.declared.slots.Slot.{Slot}
use Rattle.copy_frames.specs.declared.status.Status.{Status}
use Rattle.copy_both.specs.Hearing.{HearingOf, answer_by, answer_of, reported_heard, is_over, is_over_by}
use Rattle.copy_both.specs.LinkLaws.{IsStreaming, Goes_on, Starts, with_moves, first_run, started_at}
use Rattle.copy_both.specs.Links.{HearSays, closing, ended_stage, link_checked, link_output, link_stage, frames_said, stage_said, frames_by, stage_by}
use Rattle.copy_both.specs.StreamLaws.{first_state}
use Rattle.copy_both.specs.Streams.{StreamStateOf, Move, Keep, first_sent}
use Rattle.copy_both.specs.Voices as voices
use Rattle.copy_both.specs.declared.heard.Heard.{Heard}
use Rattle.copy_both.specs.declared.link.Link.{Link}
use Rattle.copy_both.specs.declared.link_fault.LinkFault.{LinkFault}
use Rattle.copy_both.proofs.LinkStreams.{hears}
use Rattle.test_subscriber.specs.Feeding.{limit}
use Rattle.test_subscriber.specs.declared.subscriber.Subscriber.{Subscriber}
use Rattle.stream_laws.specs.Cutting.{whole_in}
use Rattle.stream_laws.specs.Following.{position_after}
use Rattle.shard_world.specs.Joined.{IsLinked, IsOneStatus, IsSilent, SendsStream, run_of, stream_of}
use Rattle.shard_world.specs.PeerSteps.{Case, IsCase, peer_of, source_of}
use Rattle.shard_world.specs.SubscriberFrames.{IsWithin}
use Rattle.shard_world.specs.World as w
use Rattle.shard_world.specs.World.{Connection, Session, down_bytes, down_items, stream_state, position_now, down_of, log_in}
use Rattle.shard_world.proofs.CaseLemmas.{case_good, case_published, now_small}
use Rattle.stream_laws.proofs.EntryLemmas.{entry_at, entries_length}
use Rattle.shard_world.proofs.JoinedFeeding.{Connected}
use Rattle.shard_world.proofs.JoinedHearing.{sent_limit}
use Rattle.shard_world.proofs.SentLemmas.{first_reached, reached_is_sent, sent_is_there}
use Rattle.shard_world.proofs.WorldPeers.{IsReported, StartsAt}

-- ---- the log

pub log_long : (case : Case) → length (log_in (source_of case)) ≡ length case.world.transactions
log_long case = entries_length (setting_in case.checked) no_rows 1 case.world.transactions

log_numbered : (case : Case) → IsCase case → (place : ℕ) (commit : CommitOf)
    → slice_get (log_in (source_of case)) place ≡ Some commit → commit.number ≡ 1 + place
log_numbered case is state commit at =
    ap (λ (one : CommitOf). one.number)
    (entry_at (setting_in case.checked) no_rows 1 case.world.transactions state commit
    (case_published case is).accepted at).is

-- ---- statuses report no more than what was sent

module _ (case : Case) (is : IsCase case) (c : Connection) (some : (peer_of case).connection ≡ Some c) where
  pub both : (a b d : ℕ) → a ≤ b → a ≤ d → a ≤ min b d
  both a b d h k = omega (arith, h, k)

  reached_is : (at : Connected case c) → at.reached ≡ position_now (source_of case) (peer_of case)
  reached_is at = sym at.is.reached_is ∙ ap (w.connection_position (source_of case) (peer_of case)) (sym some)

  pub reached_small : (at : Connected case c) → at.reached < 2 ^ 64
  reached_small at = subst (λ n. n < 2 ^ 64) (sym (reached_is at)) (now_small case is)

  -- what was sent, if the stream started, or will be if it starts now
  pub sent_by : (at : Connected case c) (start : Option ℕ) (sent : ℕ) → c.start ≡ start
      → ((begin : ℕ) → start ≡ Some begin → sent ≡ (stream_state (source_of case) begin c.moves).sent)
      → at.reached ≤ min (sent_limit start (peer_of case).position sent) (end_lsn_of (length case.world.transactions))
  sent_by at None sent none is_sent =
      let here : (peer_of case).position ≡ at.reached =
      sym (ap (λ start. position_after (peer_of case).position
      (whole_in c.delivered (down_items (source_of case) start c.moves))) none) ∙ at.is.reached_is in
      subst (λ n. n ≤ min (first_sent (peer_of case).position) (end_lsn_of (length case.world.transactions))) here
      (both (peer_of case).position (first_sent (peer_of case).position) (end_lsn_of (length case.world.transactions))
      (first_reached (peer_of case).position) (omega (arith, (case_good case is).follows.within)))
  sent_by at (Some begin) sent start is_sent =
      let from : begin ≡ (peer_of case).position = subst (StartsAt (peer_of case).position) start at.is.started in
      let log = log_in (source_of case) in
      let there = at.is.there in
      let low : at.reached ≤ (stream_state (source_of case) (peer_of case).position c.moves).sent =
      subst (λ n. n ≤ (stream_state (source_of case) (peer_of case).position c.moves).sent)
      (ap (λ its. position_after (peer_of case).position
      (whole_in c.delivered (down_items (source_of case) its c.moves))) (ap Some (sym from) ∙ sym start)
      ∙ at.is.reached_is)
      (reached_is_sent case.checked log (log_numbered case is) case.number (peer_of case).position c.moves
      c.delivered) in
      let ends = sent_is_there case.checked log (log_numbered case is) case.number (peer_of case).position c.moves there
      (omega (arith, (case_good case is).follows.within, log_long case)) in
      let sent_here : sent ≡ (stream_state (source_of case) (peer_of case).position c.moves).sent =
      is_sent begin refl ∙ ap (λ n. (stream_state (source_of case) n c.moves).sent) from in
      both at.reached sent (end_lsn_of (length case.world.transactions))
      (subst (λ n. at.reached ≤ n) (sym sent_here) low)
      (omega (arith, low, ends, log_long case))

  pub statuses_within : (limit reached : ℕ) → reached < 2 ^ 64 → reached ≤ limit → (statuses : List Status)
      → All (IsReported reached) statuses → All IsOneStatus statuses → All (IsWithin limit) statuses
  statuses_within limit reached small low [] said one = All-nil (IsWithin limit)
  statuses_within limit reached small low (status ∷ statuses) said one =
      let flushed = All-head (IsReported reached) status statuses said in
      let same = All-head IsOneStatus status statuses one in
      All-cons (IsWithin limit) status statuses (record {
        written = omega (arith, same.written, flushed, small);
        flushed = omega (arith, flushed, small);
        applied = omega (arith, same.applied, flushed, small);
        clock = same.timed;
        reached = omega (arith, flushed, low);
      }) (statuses_within limit reached small low statuses (All-tail (IsReported reached) status statuses said)
      (All-tail IsOneStatus status statuses one))

-- ---- what is heard

pub not_over : (h : HearingOf) → is_over h ≡ false → answer_of h ≡ Ok (reported_heard h.heard)
not_over h goes_on = by_both h.fault h.heard.ended goes_on
  where
    by_both : (fault : Option LinkFault) (ended : Option ℕ) → is_over_by fault ended ≡ false
        → answer_by fault (reported_heard h.heard) ≡ Ok (reported_heard h.heard)
    by_both None None e = refl
    by_both None (Some kind) e = absurd cc
    by_both (Some fault) ended e = absurd cc

-- what was sent before, and what is sent then: the stream that starts or continues
pub record SpeaksOn (case : Case) (new : Link) (c : Connection) (session : Session) : Type 0 where
  pub within : c.delivered ≤ length (down_bytes (source_of case) session.start session.moves)
  pub same : take c.delivered (down_bytes (source_of case) session.start session.moves)
      ≡ take c.delivered (down_of (source_of case) c)
  pub speaks : SendsStream (source_of case) new session.moves c.delivered session.start

-- by what was passed on
streams_on : (case : Case) (new : Link) (start : ℕ) (moves extra : List Move) (delivered : ℕ) (passed : List ℕ)
    (state : StreamStateOf) → length passed ≡ delivered
    → IsStreaming new (with_moves (record (run_of (source_of case) start moves delivered) { passed = passed }) extra)
    state
    → (take delivered (down_bytes (source_of case) (Some start) (moves ++ extra)) ≡ passed)
    × SendsStream (source_of case) new (moves ++ extra) delivered (Some start)
streams_on case new start moves extra delivered passed state long streams =
    let first : take delivered (down_bytes (source_of case) (Some start) (moves ++ extra)) ≡ passed =
    ap (take delivered) (sym streams.says.bytes) ∙ take_at passed (link_output new) delivered long in (
      first,
      subst (λ its. IsStreaming new
          (record (run_of (source_of case) start (moves ++ extra) delivered) { passed = its })
          (stream_state (source_of case) start (moves ++ extra)))
          (sym first) (subst (IsStreaming new _) streams.says.at streams),
    )

streams_within : (case : Case) (new : Link) (start : ℕ) (moves extra : List Move) (passed : List ℕ)
    (state : StreamStateOf)
    → IsStreaming new (with_moves (record (run_of (source_of case) start moves 0) { passed = passed }) extra) state
    → length passed ≤ length (down_bytes (source_of case) (Some start) (moves ++ extra))
streams_within case new start moves extra passed state streams =
    subst (λ bytes. length passed ≤ length bytes) streams.says.bytes
    (omega (arith, length-append passed (link_output new)))

-- before the start nothing was delivered
pub none_delivered : (case : Case) (c : Connection) → c.start ≡ None
    → c.delivered ≤ length (down_of (source_of case) c) → c.delivered ≡ 0
none_delivered case c none within =
    zero_of c.delivered (subst (λ start. c.delivered ≤ length (down_bytes (source_of case) start c.moves)) none within)
  where
    zero_of : (n : ℕ) → n ≤ 0 → n ≡ 0
    zero_of n h = omega (arith, h)

module _ (case : Case) (is : IsCase case) (slots : List Slot) (link new : Link) (subscriber : Subscriber)
    (c : Connection)
    (linked : IsLinked (source_of case) slots link subscriber (peer_of case) c) (h : HearingOf) (heard : Heard)
    (says : HearSays link new h case.now (Ok heard)) (goes_on : h.heard.ended ≡ None) (session : Session)
    (started : h.started ≡ stream_of case.number session.start)
    (moves_are : session.moves ≡ c.moves ++ replicate h.heard.replies (Keep case.now false)) where
  -- what holds of a start and moves holds of those of the session
  to_session : (start : Option ℕ) (moves : List Move) → session.start ≡ start → session.moves ≡ moves
      → c.delivered ≤ length (down_bytes (source_of case) start moves)
      → take c.delivered (down_bytes (source_of case) start moves) ≡ take c.delivered (down_of (source_of case) c)
      → SendsStream (source_of case) new moves c.delivered start → SpeaksOn case new c session
  to_session start moves start_is moves_is within same speaks = record {
    within = subst (λ its. c.delivered ≤ length (down_bytes (source_of case) its session.moves)) (sym start_is)
        (subst (λ its. c.delivered ≤ length (down_bytes (source_of case) start its)) (sym moves_is) within);
    same = ap (λ its. take c.delivered (down_bytes (source_of case) its session.moves)) start_is
        ∙ ap (λ its. take c.delivered (down_bytes (source_of case) start its)) moves_is ∙ same;
    speaks = subst (SendsStream (source_of case) new session.moves c.delivered) (sym start_is)
        (subst (λ its. SendsStream (source_of case) new its c.delivered start) (sym moves_is) speaks);
  }

  abbrev kept : List Move
  kept = replicate h.heard.replies (Keep case.now false)

  -- the stream continued
  pub went_on : (start : ℕ) → c.start ≡ Some start → session.start ≡ Some start → SpeaksOn case new c session
  went_on start before after =
      let passed = take c.delivered (down_bytes (source_of case) (Some start) c.moves) in
      let within : c.delivered ≤ length (down_bytes (source_of case) (Some start) c.moves) =
      subst (λ its. c.delivered ≤ length (down_bytes (source_of case) its c.moves)) before linked.delivered in
      let long : length passed ≡ c.delivered =
      length-take-le c.delivered (down_bytes (source_of case) (Some start) c.moves) within in
      let streams : IsStreaming link (run_of (source_of case) start c.moves c.delivered)
      (stream_state (source_of case) start c.moves) =
      subst (SendsStream (source_of case) link c.moves c.delivered) before linked.speaks in
      let next = hears link new (run_of (source_of case) start c.moves c.delivered)
      (stream_state (source_of case) start c.moves) h heard case.now
      (Goes_on streams) goes_on says in
      let on = streams_on case new start c.moves kept c.delivered passed (stream_state (source_of case) start c.moves)
      long next in
      let low = streams_within case new start c.moves kept passed (stream_state (source_of case) start c.moves) next in
      to_session (Some start) (c.moves ++ kept) after moves_are
      (subst (λ n. n ≤ length (down_bytes (source_of case) (Some start) (c.moves ++ kept))) long low)
      (on.0 ∙ ap (λ its. take c.delivered (down_bytes (source_of case) its c.moves)) (sym before)) on.1

  -- the stream starts
  pub begins : (start : ℕ) → c.start ≡ None → session.start ≡ Some start → SpeaksOn case new c session
  begins start before after =
      let silent : IsSilent link c.moves =
      subst (SendsStream (source_of case) link c.moves c.delivered) before linked.speaks in
      let zero_is : c.delivered ≡ 0 = none_delivered case c before linked.delivered in
      let run = first_run case.checked (log_in (source_of case)) (case.number, start) in
      let next = hears link new run (first_state (started_at case.checked (case.number, start))) h heard case.now
      (Starts (case.number, start) (record {
        waits = silent.stage_is;
        silent = silent.output;
        started_is = started ∙ ap (stream_of case.number) after;
        run_is = ap (λ checked. first_run checked (log_in (source_of case)) (case.number, start))
            (sym linked.checked_is);
        state_is = ap (λ checked. first_state (started_at checked (case.number, start))) (sym linked.checked_is);
      })) goes_on says in
      let on = streams_on case new start [] kept 0 [] (first_state (started_at case.checked (case.number, start)))
      refl next in
      to_session (Some start) kept after (moves_are ∙ ap (λ its. its ++ kept) silent.none) (omega (arith, zero_is))
      (ap (λ n. take n (down_bytes (source_of case) (Some start) kept)) zero_is ∙ on.0
      ∙ sym (ap (λ n. take n (down_of (source_of case) c)) zero_is))
      (subst (λ n. SendsStream (source_of case) new kept n (Some start)) (sym zero_is) on.1)

  -- it still waits for the start: nothing was heard
  pub still_waits : c.start ≡ None → session.start ≡ None → h.heard.replies ≡ 0 → SpeaksOn case new c session
  still_waits before after replies =
      let silent : IsSilent link c.moves =
      subst (SendsStream (source_of case) link c.moves c.delivered) before linked.speaks in
      let idle : h.started ≡ None = started ∙ ap (stream_of case.number) after in
      let nothing : concat (frames_said (link_checked link) (link_stage link) h case.now) ≡ [] =
      ap (λ stage. concat (frames_said (link_checked link) stage h case.now)) silent.stage_is
      ∙ ap (λ its. concat (frames_by (link_checked link) voices.NotStarted its h.heard case.now)) idle
      ∙ ap (λ n. concat ([] ∷ (replicate n [] ++ closing voices.NotStarted h.heard.ended ∷ []))) replies
      ∙ ap (λ its. concat ([] ∷ (closing voices.NotStarted its ∷ []))) goes_on in
      let stage : stage_said (link_checked link) (link_stage link) h ≡ voices.NotStarted =
      ap (λ its. stage_said (link_checked link) its h) silent.stage_is
      ∙ ap (λ its. stage_by (link_checked link) voices.NotStarted its h.heard) idle
      ∙ ap (λ its. ended_stage its voices.NotStarted) goes_on in
      to_session None c.moves after
      (moves_are ∙ ap (λ n. c.moves ++ replicate n (Keep case.now false)) replies ∙ append-nil c.moves)
      (subst (λ its. c.delivered ≤ length (down_bytes (source_of case) its c.moves)) before linked.delivered)
      (ap (λ its. take c.delivered (down_bytes (source_of case) its c.moves)) (sym before))
      (record {
        stage_is = says.stage_is ∙ stage;
        output = says.output ∙ ap (λ bytes. link_output link ++ bytes) nothing ∙ append-nil (link_output link)
            ∙ silent.output;
        none = silent.none;
      })
