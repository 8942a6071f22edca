-- A subscriber that runs out of memory when it is fed is as in the world after some of the bytes.
use Rattle.std.proofs.Common.{◌≡◌, ℕ, ◌+◌, ◌≤◌, List, [], ◌∷◌, ◌++◌, drop, length, map, take, refl, sym, ap, subst, ◌∙◌, arith, length-drop}
use Rattle.std.specs.Prelude.{Option, Some, None, Ok, Err, min}
use Rattle.std.proofs.lemmas.List.{take_at}
use Rattle.tables_log.specs.declared.slots.Slot.{Slot}
use Rattle.copy_frames.specs.Frames.{FrameCut, Rest, cut, after_frames}
use Rattle.copy_frames.specs.declared.frame.Frame.{Frame}
use Rattle.copy_both.specs.Streams.{StreamItem, frame_in}
use Rattle.copy_both.specs.Links.{link_output}
use Rattle.copy_both.specs.declared.link.Link.{Link}
use Rattle.test_subscriber.specs.Copies.{sub_fault}
use Rattle.test_subscriber.specs.Feeding.{limit, hear_frames, next_heard, StaysOf, StopsFor}
use Rattle.test_subscriber.specs.Frames.{MachineHeard, hear_cut, hear_frame, heard_then}
use Rattle.test_subscriber.specs.Hearing.{MachineResult}
use Rattle.test_subscriber.specs.Machine.{Alike, Machine, stopped}
use Rattle.test_subscriber.specs.Subscribers.{SameNames, fed_cut, fed_heard, sub_held, sub_machine}
use Rattle.test_subscriber.specs.declared.fault.SubFault.{SubFault}
use Rattle.test_subscriber.specs.declared.subscriber.Subscriber.{Subscriber}
use Rattle.test_subscriber.proofs.FeedingLemmas.{hears_open}
use Rattle.shard_world.specs.Connections.{front_of}
use Rattle.shard_world.specs.Joined.{IsLinked, PeerOf}
use Rattle.shard_world.specs.PeerSteps.{Case, Halts, HasStreamBy, IsCase, IsHalf, MatchesPeer, peer_of, source_of}
use Rattle.shard_world.specs.Refusals.{DeliverHalts, DeliversAreAnswered}
use Rattle.shard_world.specs.World as w
use Rattle.shard_world.specs.World.{Connection, as_many, delivers, down_items, down_of}
use Rattle.shard_world.proofs.WorldSteps.{stays_within}
use Rattle.shard_world.proofs.CaseLemmas.{is_open}
use Rattle.stream_laws.proofs.FollowingBytesLemmas.{FirstFrames, first_frames}
use Rattle.shard_world.proofs.JoinedFeeding.{down_piece, makes, output_by}
use Rattle.shard_world.proofs.JoinedSteps.{still_named}
use Rattle.shard_world.proofs.PrefixLemmas.{first_part, new_in}
use Rattle.shard_world.proofs.RefusedAnswers.{linked_open}
use Rattle.shard_world.proofs.RefusedSteps.{halts_with, stream_stays}

-- ---- a machine that stopped after frames

stays_on : (machine new : Machine) (outcome : MachineResult) (frames : List Frame) (more : FrameCut)
    → ((next : Machine) → StaysOf (hear_frames frames next) new → Alike new (stopped (hear_cut more next).machine))
    → StaysOf (next_heard outcome (hear_frames frames)) new
    → Alike new (stopped (heard_then machine outcome (hear_cut more)).machine)
stays_on machine new (Ok next) frames more later stays = later next stays
stays_on machine new (Err fault) frames more later stays = absurd stays

stays_after : (frames : List Frame) (rest : List ℕ) (machine new : Machine) → StaysOf (hear_frames frames machine) new
    → Alike new (stopped (hear_cut (after_frames frames (Rest rest)) machine).machine)
stays_after [] rest machine new stays = stays
stays_after (frame ∷ frames) rest machine new stays =
    stays_on machine new (hear_frame frame machine) frames (after_frames frames (Rest rest))
    (λ next later. stays_after frames rest next new later) stays

-- ---- deliver

pub as_part : (some count all done : ℕ) → some ≤ as_many count all done → as_many (min some count) all done ≡ some
as_part some count all done h = omega (arith, h)

module _ (case : Case) (is : IsCase case) (slots : List Slot) (old : PeerOf) (link : Link) (count : ℕ)
    (stands : MatchesPeer case slots old) (some : old.link ≡ Some link) where
  abbrev c : Connection
  c = (is_open case slots old link stands some).c

  is_there : (peer_of case).connection ≡ Some c
  is_there = (is_open case slots old link stands some).some

  linked : IsLinked (source_of case) slots link old.subscriber (peer_of case) c
  linked = (is_open case slots old link stands some).linked

  abbrev downs : List ℕ
  downs = down_of (source_of case) c

  abbrev items : List StreamItem
  items = down_items (source_of case) c.start c.moves

  abbrev more : ℕ
  more = as_many count (length downs) c.delivered

  within : c.delivered + more ≤ length downs
  within = stays_within count (length downs) c.delivered linked.delivered

  piece_is : front_of count (link_output link) ≡ take more (drop c.delivered downs)
  piece_is = ap (front_of count) (output_by case link c.moves c.delivered c.start linked.speaks linked.delivered)
      ∙ ap (λ n. take (min count n) (drop c.delivered downs)) (length-drop c.delivered downs)

  no_fault : (fed_heard old.subscriber (front_of count (link_output link))).fault ≡ None
  no_fault =
      ap (λ (heard : MachineHeard). heard.fault)
      (hears_open (sub_machine old.subscriber).phase (fed_cut old.subscriber (front_of count (link_output link)))
      (sub_machine old.subscriber)
      (linked_open case slots link old.subscriber c linked))
      ∙ ap (λ bytes. (hear_cut (cut limit (sub_held old.subscriber ++ bytes)) (sub_machine old.subscriber)).fault)
      piece_is
      ∙ (makes case is c is_there more within old.subscriber linked.held linked.machine).fault

  -- the frames of a part of the piece
  cuts : (some : ℕ) (inside : c.delivered + some ≤ length downs)
      → cut limit (sub_held old.subscriber ++ take some (drop c.delivered downs))
      ≡ after_frames (map frame_in (new_in frame_in items c.delivered some))
      (Rest (down_piece case is c is_there some inside).rest)
  cuts some inside = ap (λ held. cut limit (held ++ take some (drop c.delivered downs))) linked.held
      ∙ (down_piece case is c is_there some inside).cuts

  halted : (after : Subscriber) → SameNames old.subscriber after
      → (frames : List Frame) (first : FirstFrames frames (new_in frame_in items c.delivered more))
      → StaysOf (hear_frames frames (sub_machine old.subscriber)) (sub_machine after)
      → Halts case (w.Deliver count) slots (record { link = old.link; subscriber = after })
  halted after names frames first stays =
      let part = first_part frame_in items c.delivered more (length first.items) in
      let inside : c.delivered + part.some ≤ length downs = omega (arith, within, part.within) in
      let part_is : new_in frame_in items c.delivered part.some ≡ first.items =
      part.new_is ∙ ap (take (length first.items)) (sym first.is)
      ∙ take_at first.items first.others (length first.items) refl in
      let made = makes case is c is_there part.some inside old.subscriber linked.held linked.machine in
      let all_cut = cuts part.some inside
      ∙ ap (λ its. after_frames (map frame_in its) (Rest (down_piece case is c is_there part.some inside).rest))
      part_is in
      let alike : Alike (sub_machine after)
      (stopped (hear_cut (cut limit (sub_held old.subscriber ++ take part.some (drop c.delivered downs)))
      (sub_machine old.subscriber)).machine) =
      subst (λ all. Alike (sub_machine after) (stopped (hear_cut all (sub_machine old.subscriber)).machine))
      (sym all_cut)
      (stays_after (map frame_in first.items) (down_piece case is c is_there part.some inside).rest
      (sub_machine old.subscriber) (sub_machine after)
      (subst (λ its. StaysOf (hear_frames its (sub_machine old.subscriber)) (sub_machine after)) first.frames_are
      stays)) in
      halts_with case (w.Deliver count) slots (record { link = old.link; subscriber = after }) c part.some is_there
      (subst (λ n. IsHalf case slots old.link after (delivers (peer_of case) c n))
      (sym (as_part part.some count (length downs) c.delivered part.within)) (record {
        named = still_named case old.subscriber after stands.named names;
        machine = record {
          position = alike.position ∙ made.machine.position;
          kept = λ oid. alike.kept oid ∙ made.machine.kept oid;
          rows = λ oid key. alike.rows oid key ∙ made.machine.rows oid key;
        };
        stream = subst (HasStreamBy slots case.number (peer_of case).confirmed) (sym some)
            (stream_stays case slots link old.subscriber c linked);
      }))

  stopped_by : (after : Subscriber) → SameNames old.subscriber after → (fault : Option SubFault)
      → StopsFor fault (fed_heard old.subscriber (front_of count (link_output link)))
      (fed_cut old.subscriber (front_of count (link_output link))) (sub_machine old.subscriber)
      (sub_machine after)
      → Halts case (w.Deliver count) slots (record { link = old.link; subscriber = after })
  stopped_by after names (Some fault) stops = absurd (
      let none : (fed_heard old.subscriber (front_of count (link_output link))).fault ≡ None = no_fault in
      let one : (fed_heard old.subscriber (front_of count (link_output link))).fault ≡ Some fault = stops.fault_is in
      cc)
  stopped_by after names None stops =
      halted after names stops.frames
      (first_frames stops.frames stops.rest (new_in frame_in items c.delivered more)
      (down_piece case is c is_there more within).rest
      (stops.first ∙ ap (λ bytes. cut limit (sub_held old.subscriber ++ bytes)) piece_is ∙ cuts more within))
      stops.stays

pub deliver_halts : DeliverHalts
deliver_halts case is slots old link after count error stands some stops =
    stopped_by case is slots old link count stands some after stops.cleared.names (sub_fault error) stops.machine

pub delivers_are_answered : DeliversAreAnswered
delivers_are_answered case is slots old link count stands some = no_fault case is slots old link count stands some
