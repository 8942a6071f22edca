-- A subscriber is fed what is delivered to it as in the world.
use Rattle.std.proofs.Common.{◌≡◌, ℕ, zero, suc, ◌+◌, ◌-◌, ◌≤◌, List, [], ◌++◌, drop, length, take, refl, sym, ap, subst, ◌∙◌, arith, length-drop}
use Rattle.std.specs.Prelude.{Option, Some, None, min}
use Rattle.std.proofs.Math.Seq.{take-add}
use Rattle.std.proofs.lemmas.List.{length-take-le, drop_at}
use Rattle.copy_frames.specs.Frames.{FrameCut, cut, cut_fault, rest_of}
use Rattle.copy_frames.proofs.PieceLemmas.{rest_with_more}
use Rattle.copy_both.specs.LinkLaws.{IsStreaming}
use Rattle.copy_both.specs.Links.{LinkPasses, link_output}
use Rattle.copy_both.specs.Streams.{frame_in, Move}
use Rattle.copy_both.specs.declared.link.Link.{Link}
use Rattle.copy_both.proofs.LinkStreams.{passes_on}
use Rattle.test_subscriber.specs.Feeding.{limit}
use Rattle.test_subscriber.specs.Frames.{MachineHeard, hear_cut}
use Rattle.test_subscriber.specs.Machine.{Alike, opened}
use Rattle.test_subscriber.specs.Subscribers.{sub_held, sub_machine, fed_cut, fed_heard}
use Rattle.test_subscriber.specs.declared.subscriber.Subscriber.{Subscriber}
use Rattle.test_subscriber.proofs.FeedingLemmas.{while_open, hears_open, hears_no_fault, hears_more}
use Rattle.shard_world.specs.Connections.{DeliversStep, front_of}
use Rattle.shard_world.specs.Joined.{AlikeBut, SendsStream, run_of}
use Rattle.shard_world.specs.PeerSteps.{Case, IsCase, peer_of, source_of}
use Rattle.shard_world.specs.World as w
use Rattle.shard_world.specs.World.{Connection, as_many, down_items, down_bytes, stream_state, down_of}
use Rattle.shard_world.proofs.WorldSteps.{stays_within}
use Rattle.shard_world.proofs.CaseLemmas.{case_good, case_published, case_sayable, is_open}
use Rattle.stream_laws.proofs.CuttingLemmas.{IsPiece, pieces_are_cut}
use Rattle.stream_laws.proofs.FollowingBytesLemmas.{item_frames}
use Rattle.shard_world.proofs.JoinedSteps.{steps_to, still_named}
use Rattle.shard_world.proofs.WantsLemmas.{HeardBut, cut_but}
use Rattle.shard_world.proofs.WorldPeers.{IsConnected, IsConnectedAt, down_sent, delivered_followed}

-- ---- what waits at the publisher's end

pub output_by : (case : Case) (link : Link) (moves : List Move) (delivered : ℕ) (start : Option ℕ)
    → SendsStream (source_of case) link moves delivered start
    → delivered ≤ length (down_bytes (source_of case) start moves)
    → link_output link ≡ drop delivered (down_bytes (source_of case) start moves)
output_by case link moves delivered None silent within = silent.output ∙ nothing delivered within
  where
    nothing : (n : ℕ) → n ≤ 0 → ◌≡◌ {A = List ℕ} [] (drop n [])
    nothing zero h = refl
    nothing (suc n) h = refl
output_by case link moves delivered (Some start) streams within =
    let all = down_bytes (source_of case) (Some start) moves in
    sym (drop_at (take delivered all) (link_output link) delivered (length-take-le delivered all within))
    ∙ ap (drop delivered) streams.says.bytes

-- ---- what a piece does

-- a connection of the subscriber in its world
pub record Connected (case : Case) (c : Connection) : Type 0 where
  pub reached : ℕ
  pub is : IsConnected (source_of case) (peer_of case).position (peer_of case).confirmed reached c

pub connected : (case : Case) → IsCase case → (c : Connection) → (peer_of case).connection ≡ Some c → Connected case c
connected case is c some =
    let at : IsConnectedAt (source_of case) (peer_of case) (Some c) =
    subst (IsConnectedAt (source_of case) (peer_of case)) some (case_good case is).connected in
    record { reached = at.0; is = at.1 }

module _ (case : Case) (is : IsCase case) (c : Connection) (some : (peer_of case).connection ≡ Some c) where
  abbrev downs : List ℕ
  downs = down_of (source_of case) c

  -- what is delivered is heard with no fault
  pub fine : (delivered : ℕ) → delivered ≤ length downs
      → (hear_cut (cut limit (take delivered downs)) (opened (peer_of case).machine)).fault ≡ None
  fine delivered within =
      let c_is = connected case is c some in
      (delivered_followed (source_of case) (case_published case is) (case_sayable case is) (peer_of case).position
      (peer_of case).machine (case_good case is).follows c.start c_is.is.started
      c.moves c_is.is.clocked delivered within).no_fault

  pub down_piece : (more : ℕ) → c.delivered + more ≤ length downs
      → IsPiece frame_in limit (down_items (source_of case) c.start c.moves) downs c.delivered more
  down_piece more within =
      let c_is = connected case is c some in
      pieces_are_cut frame_in limit (down_items (source_of case) c.start c.moves) downs c.delivered more
      (item_frames (down_items (source_of case) c.start c.moves)
      (down_sent (source_of case) (case_published case is) (case_sayable case is) (peer_of case).position
      (peer_of case).machine (case_good case is).follows c.start c_is.is.started c.moves c_is.is.clocked))
      refl within

  -- what a subscriber does with a piece that comes after what was delivered
  pub record Makes (more : ℕ) (subscriber : Subscriber) (heard : MachineHeard) : Type 0 where
    pub fault : heard.fault ≡ None
    pub machine : AlikeBut heard.machine
        (hear_cut (cut limit (take (c.delivered + more) downs)) (opened (peer_of case).machine)).machine
    pub held : rest_of (cut limit (sub_held subscriber ++ take more (drop c.delivered downs)))
        ≡ rest_of (cut limit (take (c.delivered + more) downs))

  module _ (more : ℕ) (within : c.delivered + more ≤ length downs) where
    abbrev whole : FrameCut
    whole = cut limit (take c.delivered downs)

    abbrev piece : List ℕ
    piece = take more (drop c.delivered downs)

    good : cut_fault (cut limit (take c.delivered downs)) ≡ None
    good = hears_no_fault (cut limit (take c.delivered downs)) (opened (peer_of case).machine)
        (fine c.delivered (omega (arith, within)))

    -- all that came is heard as the piece is heard after what came before
    on : hear_cut (cut limit (take (c.delivered + more) downs)) (opened (peer_of case).machine)
        ≡ hear_cut (cut limit (rest_of whole ++ piece)) (hear_cut whole (opened (peer_of case).machine)).machine
    on = ap (λ all. hear_cut all (opened (peer_of case).machine)) (down_piece more within).all_cut
        ∙ hears_more piece (cut limit (take c.delivered downs)) (opened (peer_of case).machine)
        (fine c.delivered (omega (arith, within)))

    pub makes : (subscriber : Subscriber) → sub_held subscriber ≡ rest_of whole
        → AlikeBut (sub_machine subscriber) (hear_cut whole (opened (peer_of case).machine)).machine
        → Makes more subscriber (hear_cut (cut limit (sub_held subscriber ++ piece)) (sub_machine subscriber))
    makes subscriber held alike =
        let same : HeardBut (hear_cut (cut limit (sub_held subscriber ++ piece)) (sub_machine subscriber))
        (hear_cut (cut limit (take (c.delivered + more) downs)) (opened (peer_of case).machine)) =
        subst (HeardBut (hear_cut (cut limit (sub_held subscriber ++ piece)) (sub_machine subscriber))) (sym on)
        (subst (λ bytes. HeardBut (hear_cut (cut limit (bytes ++ piece)) (sub_machine subscriber))
        (hear_cut (cut limit (rest_of whole ++ piece)) (hear_cut whole (opened (peer_of case).machine)).machine))
        (sym held)
        (cut_but (cut limit (rest_of whole ++ piece)) (sub_machine subscriber)
        (hear_cut whole (opened (peer_of case).machine)).machine alike)) in
        record {
          fault = same.fault ∙ fine (c.delivered + more) within;
          machine = same.machine;
          held = ap (λ bytes. rest_of (cut limit (bytes ++ piece))) held
              ∙ sym (rest_with_more limit piece (cut limit (take c.delivered downs)) good)
              ∙ sym (ap rest_of (down_piece more within).all_cut);
        }

-- ---- deliver

-- how many bytes are passed on
count_is : (count all done : ℕ) → done ≤ all → min count (all - done) ≡ as_many count all done
count_is count all done h = refl

pub delivers_on : DeliversStep
delivers_on case is slots old link new after count stands some feeds passes =
    let here = is_open case slots old link stands some in
    let c = here.c in
    let linked = here.linked in
    let downs = down_of (source_of case) c in
    let more = as_many count (length downs) c.delivered in
    let within : c.delivered + more ≤ length downs = stays_within count (length downs) c.delivered linked.delivered in
    let out : link_output link ≡ drop c.delivered downs =
    output_by case link c.moves c.delivered c.start linked.speaks linked.delivered in
    let waits : length (link_output link) ≡ length downs - c.delivered = ap length out
    ∙ length-drop c.delivered downs in
    let piece_is : front_of count (link_output link) ≡ take more (drop c.delivered downs) =
    ap (front_of count) out ∙ ap (λ n. take (min count n) (drop c.delivered downs)) (length-drop c.delivered downs) in
    let long : length (front_of count (link_output link)) ≡ more =
    length-take-le (min count (length (link_output link))) (link_output link) (omega arith) ∙ ap (min count) waits in
    let fed = makes case is c here.some more within old.subscriber linked.held linked.machine in
    let is_heard : fed_heard old.subscriber (front_of count (link_output link))
    ≡ hear_cut (cut limit (sub_held old.subscriber ++ take more (drop c.delivered downs)))
    (sub_machine old.subscriber) =
    hears_open (sub_machine old.subscriber).phase (fed_cut old.subscriber (front_of count (link_output link)))
    (sub_machine old.subscriber)
    (while_open (sub_machine old.subscriber).phase (fed_cut old.subscriber (front_of count (link_output link)))
    (sub_machine old.subscriber) feeds.fault)
    ∙ ap (λ bytes. hear_cut (cut limit (sub_held old.subscriber ++ bytes)) (sub_machine old.subscriber)) piece_is in
    steps_to case (w.Deliver count) (w.Delivered (length (front_of count (link_output link)))) slots
    (record { link = Some new; subscriber = after }) (Some c) here.some
    (ap w.Delivered long) (record {
      named = still_named case old.subscriber after stands.named feeds.names;
      at = record {
        heard = linked.heard;
        delivered = within;
        sends = feeds.output ∙ linked.sends;
        held = feeds.held ∙ ap (λ bytes. rest_of (cut limit (sub_held old.subscriber ++ bytes))) piece_is ∙ fed.held;
        machine =
            let alike = subst (λ heard. Alike (sub_machine after) heard.machine) is_heard feeds.machine in record {
              phase = alike.phase ∙ fed.machine.phase;
              position = alike.position ∙ fed.machine.position;
              kept = λ oid. alike.kept oid ∙ fed.machine.kept oid;
              known = λ oid. alike.known oid ∙ fed.machine.known oid;
              rows = λ oid key. alike.rows oid key ∙ fed.machine.rows oid key;
              work = λ oid key. alike.work oid key ∙ fed.machine.work oid key;
            };
        checked_is = passes.voice.checked ∙ linked.checked_is;
        hears = record {
          checked_is = passes.ear.checked ∙ linked.hears.checked_is;
          phase_is = passes.ear.phase_is ∙ linked.hears.phase_is;
          started = passes.ear.started ∙ linked.hears.started;
          asked = linked.hears.asked;
          statuses = linked.hears.statuses;
          held = passes.ear.held ∙ linked.hears.held;
        };
        speaks = passes_by case link new c.moves c.delivered more c.start (subst (LinkPasses link new) long passes)
            out linked.speaks;
        slot = linked.slot;
      };
    })
  where
    passes_by : (case : Case) (link new : Link) (moves : List Move) (delivered more : ℕ) (start : Option ℕ)
        → LinkPasses link new more
        → link_output link ≡ drop delivered (down_bytes (source_of case) start moves)
        → SendsStream (source_of case) link moves delivered start
        → SendsStream (source_of case) new moves (delivered + more) start
    passes_by case link new moves delivered more None passes out silent = record {
      stage_is = passes.voice.stage_is ∙ silent.stage_is;
      output = passes.voice.output ∙ ap (drop more) silent.output ∙ nothing more;
      none = silent.none;
    }
      where
        nothing : (n : ℕ) → ◌≡◌ {A = List ℕ} (drop n []) []
        nothing zero = refl
        nothing (suc n) = refl
    passes_by case link new moves delivered more (Some start) passes out streams =
        subst (λ passed. IsStreaming new (record (run_of (source_of case) start moves delivered) { passed = passed })
        (stream_state (source_of case) start moves))
        (ap (λ bytes. take delivered (down_bytes (source_of case) (Some start) moves) ++ take more bytes) out
        ∙ sym (take-add delivered more (down_bytes (source_of case) (Some start) moves)))
        (passes_on link new (run_of (source_of case) start moves delivered) (stream_state (source_of case) start moves)
        more streams passes)
