-- The publisher's end of a connection that runs out of memory when it hears a piece has heard some of the bytes, as in
-- the world.
use Rattle.std.proofs.Common.{◌≡◌, ℕ, ◌≤◌, false, List, [], ◌∷◌, ◌++◌, length, map, replicate, take, refl, sym, ap, subst, ◌∙◌, append_assoc, append-nil}
use Rattle.std.specs.Prelude.{Option, Some, None, Err, is_some, slice_get}
use Rattle.std.proofs.lemmas.List.{take-append-le, take-map}
use Rattle.tables_log.specs.BookView.{book_slots}
use Rattle.tables_log.specs.declared.book.Book.{Book}
use Rattle.copy_frames.specs.Frames.{cut, frames_of, rest_of}
use Rattle.copy_frames.proofs.PieceLemmas.{frames_before}
use Rattle.copy_both.specs.Ears.{HearLeaves, HearsPiece, ear_phase}
use Rattle.copy_both.specs.Hearing.{HearingOf, frames_heard}
use Rattle.copy_both.specs.Links.{link_ear, link_sent}
use Rattle.copy_both.specs.Listening.{Leaves, fed, held_frames, part_heard}
use Rattle.copy_both.specs.Sessions.{served_by}
use Rattle.copy_both.specs.Streams.{Move, Keep}
use Rattle.copy_both.specs.declared.link.Link.{Link}
use Rattle.copy_both.specs.declared.link_fault.LinkFault.{LinkFault}
use Rattle.copy_both.specs.declared.link_fault.LinkFault.TheVariants.{OutOfMemory}
use Rattle.copy_both.specs.declared.phase.Phase.TheVariants as phase
use Rattle.test_subscriber.specs.Feeding.{limit}
use Rattle.test_subscriber.specs.Frames.{hear_cut}
use Rattle.test_subscriber.specs.Machine.{opened}
use Rattle.test_subscriber.specs.Subscribers.{sub_machine, sub_output}
use Rattle.shard_world.specs.Connections.{front_of}
use Rattle.shard_world.specs.Joined.{HasSlot, PeerOf, StaysAlike}
use Rattle.shard_world.specs.PeerSteps.{Case, HasLog, IsCase, IsHalf, MatchesPeer, peer_of, source_of}
use Rattle.shard_world.specs.Refusals.{HaltsOn, HearHalts}
use Rattle.shard_world.specs.World as w
use Rattle.shard_world.specs.World.{Connection, Session, down_bytes, heard_of, hears, newly, up_frame, ups_of, down_of}
use Rattle.shard_world.proofs.CaseLemmas.{is_open}
use Rattle.shard_world.proofs.CatchingUpLemmas.{start_stays}
use Rattle.shard_world.proofs.JoinedPieces as ear
use Rattle.shard_world.proofs.HeardStreams.{none_delivered}
use Rattle.shard_world.proofs.JoinedHearing.{After, heard_after, served_of}
use Rattle.shard_world.proofs.JoinedSteps.{GrowsBy, stream_grows}
use Rattle.shard_world.proofs.PrefixLemmas.{IsPart, first_part}
use Rattle.shard_world.proofs.RefusedAnswers.{hears_are_answered, only_memory}
use Rattle.shard_world.proofs.RefusedFeeding.{as_part}
use Rattle.shard_world.proofs.RefusedSteps.{closed_apart, halts_with, has_stream}

-- ---- what was delivered is as before

streams_grow : (case : Case) (start : Option ℕ) (moves extra : List Move)
    → GrowsBy (down_bytes (source_of case) start moves) (down_bytes (source_of case) start (moves ++ extra))
streams_grow case start moves [] = record {
  more = [];
  is = ap (down_bytes (source_of case) start) (append-nil moves)
      ∙ sym (append-nil (down_bytes (source_of case) start moves));
}
streams_grow case start moves (move ∷ extra) =
    let first = stream_grows case start moves move in
    let later = streams_grow case start (moves ++ move ∷ []) extra in
    record {
      more = first.more ++ later.more;
      is = ap (down_bytes (source_of case) start) (sym (append_assoc moves (move ∷ []) extra)) ∙ later.is
          ∙ ap (λ bytes. bytes ++ later.more) first.is
          ∙ append_assoc (down_bytes (source_of case) start moves) first.more later.more;
    }

-- if the stream continues, or starts
same_down : (case : Case) (c : Connection) (session : Session) (extra : List Move)
    → c.delivered ≤ length (down_of (source_of case) c)
    → ((start : ℕ) → c.start ≡ Some start → session.start ≡ Some start) → session.moves ≡ c.moves ++ extra
    → take c.delivered (down_bytes (source_of case) session.start session.moves)
    ≡ take c.delivered (down_of (source_of case) c)
same_down case c session extra within goes_on moves_are = by_start c.start refl
  where
    by_start : (start : Option ℕ) → c.start ≡ start
        → take c.delivered (down_bytes (source_of case) session.start session.moves)
        ≡ take c.delivered (down_of (source_of case) c)
    by_start None e =
        let zero_is : c.delivered ≡ 0 = none_delivered case c e within in
        ap (λ n. take n (down_bytes (source_of case) session.start session.moves)) zero_is
        ∙ sym (ap (λ n. take n (down_of (source_of case) c)) zero_is)
    by_start (Some start) e =
        let grown = streams_grow case (Some start) c.moves extra in
        ap (λ its. take c.delivered (down_bytes (source_of case) its session.moves)) (goes_on start e)
        ∙ ap (λ its. take c.delivered (down_bytes (source_of case) (Some start) its)) moves_are
        ∙ ap (take c.delivered) grown.is
        ∙ take-append-le c.delivered (down_bytes (source_of case) (Some start) c.moves) grown.more
        (subst (λ its. c.delivered ≤ length (down_bytes (source_of case) its c.moves)) e within)
        ∙ ap (λ its. take c.delivered (down_bytes (source_of case) its c.moves)) (sym e)

-- ---- hear

module _ (case : Case) (is : IsCase case) (before after : Book) (old : PeerOf) (link : Link) (count : ℕ)
    (log : HasLog case before)
    (stands : MatchesPeer case (book_slots before) old) (some : old.link ≡ Some link) where
  abbrev c : Connection
  c = ear.connection case is before after old link count log stands some

  abbrev more : ℕ
  more = ear.more case is before after old link count log stands some

  abbrev piece : List ℕ
  piece = front_of count (sub_output old.subscriber)

  abbrev start_view : HearingOf
  start_view = ear.start_view case is before after old link count log stands some

  abbrev commits : ℕ
  commits = ear.commits case is before after old link count log stands some

  frames_are : held_frames (fed (link_ear link).frames piece)
      ≡ map (up_frame case.checked case.number) (newly (source_of case) (peer_of case) c more)
  frames_are =
      let linked = ear.linked case is before after old link count log stands some in
      let cuts = ear.cuts case is before after old link count log stands some in
      ap (λ limit. frames_of (cut limit ((link_ear link).frames.bytes ++ piece)))
      (ear.ready case is before after old link count log stands some).limit
      ∙ ap (λ held. frames_of (cut 65536 (held ++ piece))) linked.hears.held
      ∙ ap (λ its. frames_of
      (cut 65536 (rest_of (cut 65536 (take c.heard (ear.ups case is before after old link count log stands some)))
      ++ its)))
      (ear.piece_is case is before after old link count log stands some)
      ∙ ap frames_of cuts.cuts
      ∙ frames_before (map (up_frame case.checked case.number) (newly (source_of case) (peer_of case) c more))
      cuts.rest

  -- this number of the first frames are those of a number of bytes
  part : (frames : ℕ) → IsPart (up_frame case.checked case.number) (ups_of (peer_of case) c) c.heard more frames
  part frames = first_part (up_frame case.checked case.number) (ups_of (peer_of case) c) c.heard more frames

  abbrev part_all : ℕ → HearingOf
  part_all bytes = frames_heard (served_of case is c commits start_view) start_view
      (map (up_frame case.checked case.number) (newly (source_of case) (peer_of case) c bytes))

  part_is : (frames : ℕ)
      → part_heard frames (link_ear link).session before (link_ear link).frames piece (link_sent link)
      ≡ part_all (part frames).some
  part_is frames =
      let linked = ear.linked case is before after old link count log stands some in
      let served_is : served_by (link_ear link).session before ≡ served_of case is c commits start_view =
      ap (λ checked. record { checked = checked; commits = commits }) linked.hears.checked_is in
      ap (λ served. frames_heard served start_view (take frames (held_frames (fed (link_ear link).frames piece))))
      served_is
      ∙ ap (λ its. frames_heard (served_of case is c commits start_view) start_view (take frames its)) frames_are
      ∙ ap (frames_heard (served_of case is c commits start_view) start_view)
      (take-map (up_frame case.checked case.number) frames (newly (source_of case) (peer_of case) c more))
      ∙ ap (λ ups. frames_heard (served_of case is c commits start_view) start_view
      (map (up_frame case.checked case.number) ups)) (sym (part frames).new_is)

  known : (bytes : ℕ) → After case is c commits start_view
      (ear.heard_before case is before after old link count log stands some) bytes
  known bytes = heard_after case is c commits start_view
      (ear.heard_before case is before after old link count log stands some) bytes

  module _ (new : Link)
      (leaves : HearsPiece (link_ear link) (link_ear new) before after piece (link_sent link) (Err OutOfMemory)) where
    abbrev some_heard : ℕ
    some_heard = (part leaves.leaves.0).some

    abbrev session : Session
    session = heard_of (source_of case) case.now (peer_of case) c some_heard

    left : Leaves (link_ear link).session (link_ear new).session before after (part_all some_heard)
    left = subst (λ h. Leaves (link_ear link).session (link_ear new).session before after h) (part_is leaves.leaves.0)
        leaves.leaves.1

    same : take c.delivered (down_bytes (source_of case) session.start session.moves)
        ≡ take c.delivered (down_of (source_of case) c)
    same = same_down case c session (replicate (part_all some_heard).heard.replies (Keep case.now false))
        (ear.linked case is before after old link count log stands some).delivered
        (λ start e. start_stays case.now start (newly (source_of case) (peer_of case) c some_heard)
        (record { confirmed = (peer_of case).confirmed; start = c.start; moves = c.moves }) e)
        (known some_heard).moves_are

    half : IsHalf case (book_slots after) (Some new) old.subscriber
        (hears (source_of case) case.now (peer_of case) c some_heard)
    half = record {
      named = stands.named;
      machine =
          let alike = (ear.linked case is before after old link count log stands some).machine in
          subst (λ bytes. StaysAlike (sub_machine old.subscriber)
          (hear_cut (cut limit bytes) (opened (peer_of case).machine)).machine) (sym same)
          (record { position = alike.position; kept = alike.kept; rows = alike.rows });
      stream = has_stream (book_slots after) case.number session.confirmed new session.start phase.Closed
          (left.started ∙ (known some_heard).started) leaves.phase_is closed_apart
          (subst (λ slots. HasSlot slots case.number session.confirmed (is_some session.start))
          (sym left.book.slots_are) (known some_heard).slot);
    }

    pub heard_halts : HaltsOn case (w.Hear count) before after (record { link = Some new; subscriber = old.subscriber })
    heard_halts = record {
      halts = halts_with case (w.Hear count) (book_slots after)
          (record { link = Some new; subscriber = old.subscriber }) c some_heard
          (is_open case (book_slots before) old link stands some).some
          (subst (λ n. IsHalf case (book_slots after) (Some new) old.subscriber
          (hears (source_of case) case.now (peer_of case) c n))
          (sym (as_part some_heard count (length (ear.ups case is before after old link count log stands some))
          c.heard (part leaves.leaves.0).within)) half);
      own = record {
        book = record {
          checked = left.book.checked;
          limit = left.book.limit;
          rows = left.book.rows;
          log =
              left.book.log;
          slots_are = refl;
        };
        others = λ other apart. ap (λ slots. slice_get slots other) left.book.slots_are
            ∙ (known some_heard).others other apart;
      };
    }

pub hear_halts : HearHalts
hear_halts case is before after old link count log stands some new error tells leaves =
    let memory : error ≡ OutOfMemory =
    only_memory error _ tells (hears_are_answered case is before old link count log stands some) in
    let linked = ear.linked case is before after old link count log stands some in
    heard_halts case is before after old link count log stands some new
    (subst (λ phase. HearLeaves phase (link_ear link) (link_ear new) before after
    (front_of count (sub_output old.subscriber)) (link_sent link) (Err OutOfMemory)) linked.hears.phase_is
    (subst (λ (its : LinkFault). HearLeaves (ear_phase (link_ear link)) (link_ear link) (link_ear new) before after
    (front_of count (sub_output old.subscriber)) (link_sent link) (Err its)) memory leaves))
