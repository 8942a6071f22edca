-- If memory is allocated, the step of the world has something to do.
use Rattle.std.proofs.Common.{◌≡◌, ℕ, ◌<◌, min, Bool, List, [], ◌∷◌, length, sym, ap, subst, ◌∙◌, arith, length-drop}
use Rattle.std.specs.Prelude.{Option, Some, None, IsSome, slice_get}
use Rattle.std.proofs.lemmas.List.{length-take-le}
use Rattle.tables_log.specs.Commits.{CommitOf}
use Rattle.tables_log.specs.declared.slots.Slot.{Slot}
use Rattle.pgoutput_msgs.specs.Telling.{messages_for}
use Rattle.pgoutput_msgs.specs.declared.message.Msg.{Msg}
use Rattle.copy_both.specs.Links.{HasNext, link_output, link_stage}
use Rattle.copy_both.specs.Streams.{StreamStateOf}
use Rattle.copy_both.specs.Voices.{IsStarted}
use Rattle.copy_both.specs.declared.link.Link.{Link}
use Rattle.test_subscriber.specs.Subscribers.{sub_output}
use Rattle.shard_world.specs.Connections.{front_of}
use Rattle.shard_world.specs.Joined.{PeerOf, SendsStream}
use Rattle.shard_world.specs.PeerSteps.{Case, MatchesPeer, peer_of, stepped, source_of}
use Rattle.shard_world.specs.World.{AsksMemory, Connection, PeerEvent, Open, Hear, Take, Keep, Deliver, Report, keep_step, peer_step, stream_state, take_step, take_commit, took, log_in, as_many, down_of, up_bytes}
use Rattle.shard_world.proofs.CaseLemmas.{is_open, is_shut}
use Rattle.shard_world.proofs.JoinedFeeding.{output_by}

-- by the connection of the subscriber, if it has one
needs_by : (case : Case) (event : PeerEvent) (connection : Option Connection) → (peer_of case).connection ≡ connection
    → AsksMemory (peer_step (source_of case) case.now event (peer_of case) connection).0
    → AsksMemory (stepped case event).0
needs_by case event connection is needs =
    subst (λ its. AsksMemory (peer_step (source_of case) case.now event (peer_of case) its).0) (sym is) needs

pub open_needs : (case : Case) (slots : List Slot) (old : PeerOf) → MatchesPeer case slots old → old.link ≡ None
    → AsksMemory (stepped case Open).0
open_needs case slots old stands none = needs_by case Open None (is_shut case slots old stands none).none tt

-- how many bytes are in a piece
front_long : (count : ℕ) (bytes : List ℕ) → length (front_of count bytes) ≡ min count (length bytes)
front_long count bytes = length-take-le (min count (length bytes)) bytes (omega arith)

module _ (case : Case) (slots : List Slot) (old : PeerOf) (link : Link) where
  pub heard_long : (count : ℕ) (stands : MatchesPeer case slots old) (some : old.link ≡ Some link)
      → let c = (is_open case slots old link stands some).c in
      length (front_of count (sub_output old.subscriber))
      ≡ as_many count (length (up_bytes (source_of case) (peer_of case) c)) c.heard
  heard_long count stands some =
      let here = is_open case slots old link stands some in
      front_long count (sub_output old.subscriber)
      ∙ ap (λ bytes. min count (length bytes)) here.linked.sends
      ∙ ap (min count) (length-drop here.c.heard (up_bytes (source_of case) (peer_of case) here.c))

  pub delivered_long : (count : ℕ) (stands : MatchesPeer case slots old) (some : old.link ≡ Some link)
      → let c = (is_open case slots old link stands some).c in
      length (front_of count (link_output link)) ≡ as_many count (length (down_of (source_of case) c)) c.delivered
  delivered_long count stands some =
      let here = is_open case slots old link stands some in
      front_long count (link_output link)
      ∙ ap (λ bytes. min count (length bytes))
      (output_by case link here.c.moves here.c.delivered here.c.start here.linked.speaks here.linked.delivered)
      ∙ ap (min count) (length-drop here.c.delivered (down_of (source_of case) here.c))

  pub hear_needs : (count : ℕ) → MatchesPeer case slots old → old.link ≡ Some link
      → 0 < length (front_of count (sub_output old.subscriber)) → AsksMemory (stepped case (Hear count)).0
  hear_needs count stands some more =
      let here = is_open case slots old link stands some in
      needs_by case (Hear count) (Some here.c) here.some (subst (λ n. 0 < n) (heard_long count stands some) more)

  pub deliver_needs : (count : ℕ) → MatchesPeer case slots old → old.link ≡ Some link
      → 0 < length (front_of count (link_output link)) → AsksMemory (stepped case (Deliver count)).0
  deliver_needs count stands some more =
      let here = is_open case slots old link stands some in
      needs_by case (Deliver count) (Some here.c) here.some (subst (λ n. 0 < n) (delivered_long count stands some) more)

  pub report_needs : (want : Bool) → MatchesPeer case slots old → old.link ≡ Some link
      → AsksMemory (stepped case (Report want)).0
  report_needs want stands some = let here = is_open case slots old link stands some in
      needs_by case (Report want) (Some here.c) here.some tt

  pub keep_needs : (want : Bool) → MatchesPeer case slots old → old.link ≡ Some link → IsStarted (link_stage link)
      → AsksMemory (stepped case (Keep want)).0
  keep_needs want stands some started =
      let here = is_open case slots old link stands some in
      needs_by case (Keep want) (Some here.c) here.some (by_start here.c here.c.start here.linked.speaks)
    where
      by_start : (c : Connection) (start : Option ℕ) → SendsStream (source_of case) link c.moves c.delivered start
          → AsksMemory (keep_step case.now want (peer_of case) c start).0
      by_start c None silent = absurd (subst IsStarted silent.stage_is started)
      by_start c (Some start) streams = tt

  pub take_needs : MatchesPeer case slots old → old.link ≡ Some link
      → HasNext (link_stage link) (log_in (source_of case)) → AsksMemory (stepped case Take).0
  take_needs stands some next =
      let here = is_open case slots old link stands some in
      needs_by case Take (Some here.c) here.some (by_start here.c here.c.start here.linked.speaks)
    where
      took_asks : (number : ℕ) (messages : List Msg) → AsksMemory (took number messages)
      took_asks number [] = tt
      took_asks number (message ∷ messages) = tt

      found : (c : Connection) (state : StreamStateOf) (its : Option CommitOf) → IsSome its
          → AsksMemory (take_commit case.checked case.now (peer_of case) c state its).0
      found c state None there = absurd cc
      found c state (Some commit) there =
          took_asks commit.number (messages_for case.checked state.slot state.relation_sent commit)

      by_start : (c : Connection) (start : Option ℕ) → SendsStream (source_of case) link c.moves c.delivered start
          → AsksMemory (take_step (source_of case) case.now (peer_of case) c start).0
      by_start c None silent = absurd (subst (λ stage. HasNext stage (log_in (source_of case))) silent.stage_is next)
      by_start c (Some start) streams =
          let state = stream_state (source_of case) start c.moves in
          found c state (slice_get (log_in (source_of case)) state.done)
          (subst (λ stage. HasNext stage (log_in (source_of case))) streams.stage_is next)
