-- A subscriber follows its stream however the bytes are cut into pieces.
use Rattle.std.proofs.Common.{◌≡◌, ℕ, ◌+◌, ◌-◌, ◌≤◌, Bool, true, false, ◌&&◌, List, [], ◌∷◌, ◌++◌, length, map, take, drop, refl, sym, ◌∙◌, ap, subst, arith, append_assoc, length-append}
use Rattle.std.specs.Prelude.{Option, Some, None, Ok, Err, All, nat_le}
use Rattle.std.specs.Result.{IsOkAnd}
use Rattle.std.proofs.lemmas.List.{take-append-le, length-map}
use Rattle.std.proofs.lemmas.List.Elements.{All-head, All-tail}
use Rattle.filter_tree.specs.Datum.{Datum}
use Rattle.table_changes.specs.Keys.{key_at}
use Rattle.table_changes.specs.Tables.{is_row, found_at, no_rows}
use Rattle.shard_checker.specs.CheckedView.{CheckedOf, setting_in}
use Rattle.tables_log.specs.Lsn.{commits_before}
use Rattle.tables_log.specs.StandsFor.{Transaction, after}
use Rattle.pgoutput_msgs.specs.Telling.{oid_of}
use Rattle.copy_both.specs.Streams.{StreamItem, Response, Carries, Alive, frame_in, spelled, Move}
use Rattle.copy_frames.specs.FrameLaws.{AreFrames}
use Rattle.copy_frames.specs.Frames.{IsFrame, FrameCut, Rest, Then, cut, after_frames, frames_of, rest_of}
use Rattle.copy_frames.specs.declared.frame.Frame.{Frame}
use Rattle.test_subscriber.specs.Copies.{sub_fault}
use Rattle.test_subscriber.specs.Feeding.{limit, hear_while, next_heard, hear_frames, StaysOf, StopsFor}
use Rattle.test_subscriber.specs.FeedingLaws.{StopsBeyond}
use Rattle.test_subscriber.specs.Frames.{MachineHeard, hear_frame, hear_cut, heard_then}
use Rattle.test_subscriber.specs.Hearing.{MachineResult}
use Rattle.test_subscriber.specs.Machine.{Machine, Alike, opened}
use Rattle.test_subscriber.specs.Subscribers.{sub_machine, fed_cut, fed_heard, Opens}
use Rattle.test_subscriber.proofs.AlikeLemmas.{alike_itself}
use Rattle.test_subscriber.proofs.FeedingLemmas.{first_pieces_stay, stops_come_at_once}
use Rattle.test_subscriber.specs.declared.fault.SubFault.{SubFault}
use Rattle.test_subscriber.specs.declared.subscriber.Subscriber.{Subscriber}
use Rattle.stream_laws.specs.Cutting.{if_whole, whole_in, IsCutAt}
use Rattle.stream_laws.specs.ShardRows.{in_shard}
use Rattle.stream_laws.specs.Following.{position_after, own_key, HasShard, Follows, IsPublished, items_from, IsSentItem}
use Rattle.stream_laws.specs.FollowingBytes.{AreFirst, position_after_bytes, IsFollowed, BytesAreFollowed, SubFollows, FedFollow, NothingIsFed, StopsFollowing, StoppedFollow, LostFollow, FirstFollows, FollowsLonger}
use Rattle.stream_laws.proofs.CommandSteps.{finds_none}
use Rattle.stream_laws.proofs.CuttingLemmas.{first_parts_are_cut, whole_more_by}
use Rattle.stream_laws.proofs.FollowingLemmas.{IsOpened, first_safe, stream_safe, same_item, same_items}
use Rattle.stream_laws.proofs.StreamSteps.{has_rows}
use Rattle.copy_frames.proofs.PieceLemmas.{frames_before}

-- ---- frames of items

item_frame : (item : StreamItem) → IsSentItem item → IsFrame limit (frame_in item)
item_frame Response sent = record { within = omega arith; signed = omega arith }
item_frame (Carries head message) sent = record {
  within = omega (arith, sent.1.short);
  signed = omega (arith, sent.1.short);
}
item_frame (Alive keepalive) sent = record { within = omega arith; signed = omega arith }

pub item_frames : (items : List StreamItem) → All IsSentItem items → AreFrames limit (map frame_in items)
item_frames [] sent = tt
item_frames (item ∷ items) sent =
    (item_frame item (All-head IsSentItem item items sent), item_frames items (All-tail IsSentItem item items sent))

-- ---- items that are whole are the first ones

record Begins (items all : List StreamItem) : Type 0 where
  others : List StreamItem
  is : items ++ others ≡ all

begin_with : (whole : Bool) (item : StreamItem) (whole_items items : List StreamItem) → Begins whole_items items
    → Begins (if_whole whole item whole_items) (item ∷ items)
begin_with true item whole_items items later = record { others = later.others; is = ap (λ rest. item ∷ rest) later.is }
begin_with false item whole_items items later = record { others = item ∷ items; is = refl }

whole_begin : (count : ℕ) (items : List StreamItem) → Begins (whole_in count items) items
whole_begin count [] = record { others = []; is = refl }
whole_begin count (item ∷ items) =
    begin_with (nat_le (length (spelled item)) count) item (whole_in (count - length (spelled item)) items) items
    (whole_begin (count - length (spelled item)) items)

-- ---- what is heard of bytes that were cut

-- it has no fault, and this holds of the machine
abbrev IsHeard : MachineHeard → (Machine → Type 0) → Type 0
IsHeard heard P = (heard.fault ≡ None) × P heard.machine

heard_on : (outcome : MachineResult) (frames : List Frame) (more : FrameCut) (machine : Machine) (P : Machine → Type 0)
    → ((next : Machine) → IsOkAnd (hear_frames frames next) P → IsHeard (hear_cut more next) P)
    → IsOkAnd (next_heard outcome (hear_frames frames)) P → IsHeard (heard_then machine outcome (hear_cut more)) P
heard_on (Ok next) frames more machine P later h = later next h
heard_on (Err fault) frames more machine P later h = absurd h

-- frames without a fault, and then a rest
cut_heard : (frames : List Frame) (rest : List ℕ) (machine : Machine) (P : Machine → Type 0)
    → IsOkAnd (hear_frames frames machine) P
    → IsHeard (hear_cut (after_frames frames (Rest rest)) machine) P
cut_heard [] rest machine P h = (refl, h)
cut_heard (frame ∷ frames) rest machine P h =
    heard_on (hear_frame frame machine) frames (after_frames frames (Rest rest)) machine P
    (λ next later. cut_heard frames rest next P later) h

-- ---- a machine with the same position, rows and Relations

pub follows_alike : (checked : CheckedOf) (transactions : List Transaction) (number position : ℕ)
    (one other : Machine) → Follows checked transactions number position one
    → other.position ≡ one.position → ((oid : ℕ) (key : List Datum) → other.rows oid key ≡ one.rows oid key)
    → ((oid : ℕ) → other.kept oid ≡ one.kept oid)
    → Follows checked transactions number position other
follows_alike checked transactions number position one other follows at rows kept = record {
  position_is = at ∙ follows.position_is;
  within = follows.within;
  rows = has_rows checked number one.rows other.rows
      (after (setting_in checked) (take (commits_before position) transactions)) (λ oid key. sym (rows oid key))
      follows.rows;
  relations = λ table known shape there h. follows.relations table known shape there (sym (kept (oid_of table)) ∙ h);
}

-- ---- bytes

module _ (checked : CheckedOf) (transactions : List Transaction) (published : IsPublished checked transactions)
    (subscriber : ℕ) (machine : Machine) (at_start : IsOpened machine)
    (position : ℕ) (follows : Follows checked transactions subscriber position machine) (moves : List Move)
    (sent : All IsSentItem (items_from checked transactions subscriber position moves)) (bytes others : List ℕ)
    (first : AreFirst checked transactions subscriber position moves bytes others) where
  whole : List StreamItem
  whole = whole_in (length bytes) (items_from checked transactions subscriber position moves)

  pub cuts : IsCutAt limit (items_from checked transactions subscriber position moves) bytes
  cuts = first_parts_are_cut limit (items_from checked transactions subscriber position moves) bytes others
      (item_frames (items_from checked transactions subscriber position moves) sent) first

  pub opened_followed : IsFollowed checked transactions subscriber
      (position_after_bytes checked transactions subscriber position moves bytes) (hear_cut (cut limit bytes) machine)
  opened_followed =
      let items = items_from checked transactions subscriber position moves in
      let begin = whole_begin (length bytes) items in
      let at = cuts in
      let heard = cut_heard (map frame_in (whole_in (length bytes) items)) at.rest machine
      (Follows checked transactions subscriber (position_after position (whole_in (length bytes) items)))
      (first_safe checked transactions subscriber (whole_in (length bytes) items) begin.others items position machine
      begin.is
      (stream_safe checked transactions published subscriber machine at_start position follows moves sent)) in
      record {
        no_fault = ap (λ all. (hear_cut all machine).fault) at.cuts ∙ heard.0;
        follows = subst (λ all. Follows checked transactions subscriber
            (position_after position (whole_in (length bytes) items)) (hear_cut all machine).machine) (sym at.cuts)
            heard.1;
      }

pub bytes_are_followed : BytesAreFollowed
bytes_are_followed checked transactions published subscriber machine follows moves sent bytes others first =
    opened_followed checked transactions published subscriber (opened machine)
    (record { waits = refl; known = λ oid. refl; work_is = λ oid key. refl }) machine.position
    (follows_alike checked transactions subscriber machine.position machine (opened machine) follows refl
    (λ oid key. refl) (λ oid. refl)) moves sent bytes others first

-- ---- subscribers

sub_opened : (old new : Subscriber) → Opens old new → IsOpened (sub_machine new)
sub_opened old new opens = record {
  waits = opens.machine.phase;
  known = λ oid. opens.machine.known oid;
  work_is = λ oid key. opens.machine.work oid key ∙ sym (opens.machine.rows oid key);
}

sub_follows : (checked : CheckedOf) (transactions : List Transaction) (number : ℕ) (old new : Subscriber)
    → SubFollows checked transactions number old → Opens old new
    → Follows checked transactions number (sub_machine old).position (sub_machine new)
sub_follows checked transactions number old new follows opens =
    follows_alike checked transactions number (sub_machine old).position (sub_machine old) (sub_machine new) follows
    opens.machine.position opens.machine.rows opens.machine.kept

heard_is : (old new : Subscriber) (bytes : List ℕ) → Opens old new
    → fed_heard new bytes ≡ hear_cut (cut limit bytes) (sub_machine new)
heard_is old new bytes opens =
    ap (λ phase. hear_while phase (fed_cut new bytes) (sub_machine new)) opens.machine.phase
    ∙ ap (λ held. hear_cut (cut limit (held ++ bytes)) (sub_machine new)) opens.held

fed_followed : (checked : CheckedOf) (transactions : List Transaction) → IsPublished checked transactions
    → (number : ℕ) (old between : Subscriber) → SubFollows checked transactions number old
    → Opens old between → (moves : List Move)
    → All IsSentItem (items_from checked transactions number (sub_machine old).position moves)
    → (bytes others : List ℕ) → AreFirst checked transactions number (sub_machine old).position moves bytes others
    → IsFollowed checked transactions number
    (position_after_bytes checked transactions number (sub_machine old).position moves bytes) (fed_heard between bytes)
fed_followed checked transactions published number old between follows opens moves sent bytes others first =
    subst (IsFollowed checked transactions number
    (position_after_bytes checked transactions number (sub_machine old).position moves bytes))
    (sym (heard_is old between bytes opens))
    (opened_followed checked transactions published number (sub_machine between) (sub_opened old between opens)
    (sub_machine old).position
    (sub_follows checked transactions number old between follows opens) moves sent bytes others first)

pub fed_follow : FedFollow
fed_follow checked transactions published number old between new follows opens moves sent bytes others first feeds =
    let followed = fed_followed checked transactions published number old between follows opens moves sent bytes
    others first in
    follows_alike checked transactions number
    (position_after_bytes checked transactions number (sub_machine old).position moves bytes)
    (fed_heard between bytes).machine (sub_machine new)
    followed.follows feeds.machine.position feeds.machine.rows feeds.machine.kept

-- ---- when it stops

-- the first frames of items are the frames of the first items
pub record FirstFrames (frames : List Frame) (all : List StreamItem) : Type 0 where
  pub items : List StreamItem
  pub others : List StreamItem
  pub is : items ++ others ≡ all
  pub frames_are : frames ≡ map frame_in items

same_frame : (one other : Frame) (more rest : FrameCut) → Then one more ≡ Then other rest → one ≡ other
same_frame one other more rest h = cc

same_more : (one other : Frame) (more rest : FrameCut) → Then one more ≡ Then other rest → more ≡ rest
same_more one other more rest h = cc

pub first_frames : (frames : List Frame) (more : FrameCut) (all : List StreamItem) (rest : List ℕ)
    → after_frames frames more ≡ after_frames (map frame_in all) (Rest rest) → FirstFrames frames all
first_frames [] more all rest h = record { items = []; others = all; is = refl; frames_are = refl }
first_frames (frame ∷ frames) more [] rest h = absurd cc
first_frames (frame ∷ frames) more (item ∷ all) rest h =
    let later = first_frames frames more all rest
    (same_more frame (frame_in item) (after_frames frames more) (after_frames (map frame_in all) (Rest rest)) h)
    in
    let same = same_frame frame (frame_in item) (after_frames frames more)
    (after_frames (map frame_in all) (Rest rest)) h in
    record {
      items = item ∷ later.items;
      others = later.others;
      is = ap (λ items. item ∷ items) later.is;
      frames_are = ap (λ first. first ∷ frames) same ∙ ap (λ others. frame_in item ∷ others) later.frames_are;
    }

stays_following : (checked : CheckedOf) (transactions : List Transaction) (number position : ℕ)
    (outcome : MachineResult) (new : Machine)
    → IsOkAnd outcome (Follows checked transactions number position) → StaysOf outcome new
    → Follows checked transactions number position new
stays_following checked transactions number position (Ok reached) new follows stays =
    follows_alike checked transactions number position reached new follows stays.position stays.rows stays.kept
stays_following checked transactions number position (Err fault) new follows stays = absurd follows

pub nothing_is_fed : NothingIsFed
unfolding cut
nothing_is_fed old between opens = record {
  fault = ap (λ (heard : MachineHeard). heard.fault) nothing;
  machine = subst (λ (heard : MachineHeard). Alike (sub_machine between) heard.machine) (sym nothing)
      (alike_itself (sub_machine between));
  held = opens.held ∙ sym (ap (λ held. rest_of (cut limit (held ++ []))) opens.held);
  output = refl;
  names = record { slot = refl; publications = refl };
}
  where
    nothing : fed_heard between [] ≡ record { machine = sub_machine between; fault = None }
    nothing = heard_is old between [] opens

-- of two first parts of a list, the longer one begins with the other
record GoesOn (short long : List StreamItem) : Type 0 where
  more : List StreamItem
  is : long ≡ short ++ more

goes_on : (short long after rest : List StreamItem) → short ++ after ≡ long ++ rest → length short ≤ length long
    → GoesOn short long
goes_on [] long after rest same less = record { more = long; is = refl }
goes_on (item ∷ short) [] after rest same less = absurd (omega (arith, less))
goes_on (item ∷ short) (other ∷ long) after rest same less =
    let later = goes_on short long after rest (same_items item other (short ++ after) (long ++ rest) same)
    (omega (arith, less)) in
    record {
      more = later.more;
      is =
          ap (λ first. first ∷ long) (sym (same_item item other (short ++ after) (long ++ rest) same))
          ∙ ap (λ items. item ∷ items) later.is;
    }

module _ (checked : CheckedOf) (transactions : List Transaction) (published : IsPublished checked transactions)
    (number : ℕ) (old between middle new : Subscriber)
    (follows : SubFollows checked transactions number old) (opens : Opens old between) (moves : List Move)
    (sent : All IsSentItem (items_from checked transactions number (sub_machine old).position moves))
    (bytes piece others : List ℕ)
    (first : AreFirst checked transactions number (sub_machine old).position moves (bytes ++ piece) others) where
  abbrev all : List StreamItem
  all = items_from checked transactions number (sub_machine old).position moves

  abbrev before : List StreamItem
  before = whole_in (length bytes) all

  abbrev fed : List StreamItem
  fed = whole_in (length (bytes ++ piece)) all

  follows_there : Follows checked transactions number (sub_machine old).position (sub_machine between)
  follows_there = sub_follows checked transactions number old between follows opens

  frames_are : frames_of (fed_cut between bytes) ≡ map frame_in before
  frames_are =
      let at = cuts checked transactions published number (sub_machine between) (sub_opened old between opens)
      (sub_machine old).position follows_there moves sent bytes (piece ++ others)
      (sym (append_assoc bytes piece others) ∙ first) in
      ap (λ held. frames_of (cut limit (held ++ bytes))) opens.held ∙ ap frames_of at.cuts
      ∙ frames_before (map frame_in before) at.rest

  stopped_beyond : StopsBeyond between bytes piece new
      → StopsFollowing checked transactions number (sub_machine old).position before fed new
  stopped_beyond stop =
      let start = sub_opened old between opens in
      let at = cuts checked transactions published number (sub_machine between) start (sub_machine old).position
      follows_there moves sent (bytes ++ piece) others first in
      let held_is : fed_cut between (bytes ++ piece) ≡ cut limit (bytes ++ piece) =
      ap (λ held. cut limit (held ++ (bytes ++ piece))) opens.held in
      let frames : List Frame = frames_of (fed_cut between bytes) ++ stop.more in
      let some = first_frames frames stop.rest fed at.rest (stop.among ∙ held_is ∙ at.cuts) in
      let less : length before ≤ length some.items =
      let one : length frames ≡ length (frames_of (fed_cut between bytes)) + length stop.more =
      length-append (frames_of (fed_cut between bytes)) stop.more in
      let two : length (frames_of (fed_cut between bytes)) ≡ length before = ap length frames_are
      ∙ length-map before frame_in in
      let three : length frames ≡ length some.items = ap length some.frames_are ∙ length-map some.items frame_in in
      omega (arith, one, two, three) in
      let both = whole_both in
      let on = goes_on before some.items both.others some.others (both.is ∙ sym some.is) less in
      let begin = whole_begin (length (bytes ++ piece)) all in
      let together : some.items ++ (some.others ++ begin.others) ≡ all =
      sym (append_assoc some.items some.others begin.others) ∙ ap (λ front. front ++ begin.others) some.is ∙ begin.is in
      record {
        more = on.more;
        others = some.others;
        among = ap (λ items. items ++ some.others) (sym on.is) ∙ some.is;
        follows = subst (λ items. Follows checked transactions number
            (position_after (sub_machine old).position items) (sub_machine new)) on.is
            (stays_following checked transactions number (position_after (sub_machine old).position some.items)
            (hear_frames (map frame_in some.items) (sub_machine between)) (sub_machine new)
            (first_safe checked transactions number some.items (some.others ++ begin.others) all
            (sub_machine old).position (sub_machine between) together
            (stream_safe checked transactions published number (sub_machine between) start (sub_machine old).position
            follows_there moves sent))
            (subst (λ its. StaysOf (hear_frames its (sub_machine between)) (sub_machine new)) some.frames_are
            stop.stays));
      }
    where
      -- what is whole in more bytes begins with what is whole in fewer
      whole_both : Begins before fed
      whole_both = record {
        others = drop (length before) (whole_in (length bytes + length piece) all);
        is = whole_more_by frame_in (length bytes) (length piece) all
            ∙ ap (λ n. whole_in n all) (sym (length-append bytes piece));
      }

pub stopped_follow : StoppedFollow
stopped_follow checked transactions published number old between middle new follows opens moves sent bytes piece
    others error first feeds stops =
    by_fault (sub_fault error) refl (stops_come_at_once between middle new bytes piece error feeds stops).machine
  where
    by_fault : (fault : Option SubFault) → sub_fault error ≡ fault
        → StopsFor fault (fed_heard between (bytes ++ piece)) (fed_cut between (bytes ++ piece)) (sub_machine between)
        (sub_machine new)
        → (sub_fault error ≡ None) × StopsFollowing checked transactions number (sub_machine old).position
        (whole_in (length bytes) (items_from checked transactions number (sub_machine old).position moves))
        (whole_in (length (bytes ++ piece)) (items_from checked transactions number (sub_machine old).position moves))
        new
    by_fault (Some fault) e stop = absurd (
        let followed = fed_followed checked transactions published number old between follows opens moves sent
        (bytes ++ piece) others first in
        let none : (fed_heard between (bytes ++ piece)).fault ≡ None = followed.no_fault in
        let some : (fed_heard between (bytes ++ piece)).fault ≡ Some fault = stop.fault_is in
        cc)
    by_fault None e stop = (
      e,
      stopped_beyond checked transactions published number old between middle new follows opens moves sent bytes piece
          others first
          (first_pieces_stay between middle new bytes piece error feeds stops e),
    )

-- ---- from connection to connection

pub lost_follow : LostFollow
lost_follow checked transactions number old new follows loses =
    subst (λ position. Follows checked transactions number position (sub_machine new)) (sym loses.machine.position)
    (follows_alike checked transactions number (sub_machine old).position (sub_machine old) (sub_machine new) follows
    loses.machine.position loses.machine.rows loses.machine.kept)

none_found : (key : Option (List Datum)) (row : List Datum)
    → is_row (found_at (λ (value : List Datum). None) key) row ≡ false
none_found None row = refl
none_found (Some value) row = refl

pub first_follows : FirstFollows
first_follows checked transactions number = record {
  position_is = refl;
  within = omega arith;
  rows = λ table. finds_none (own_key checked table) (λ key. None)
      (in_shard (setting_in checked) number no_rows table) (λ key. refl)
      (λ row. ap (λ b. b && (setting_in checked).passes number table row)
      (none_found (key_at (setting_in checked).keys table 0 row) row));
  relations = λ table known shape there h. absurd cc;
}

pub follows_longer : FollowsLonger
follows_longer checked transactions more number position machine follows = record {
  position_is = follows.position_is;
  within = omega (arith, follows.within, length-append transactions more);
  rows = subst (λ taken. HasShard checked number machine (after (setting_in checked) taken))
      (sym (take-append-le (commits_before position) transactions more follows.within)) follows.rows;
  relations = follows.relations;
}
