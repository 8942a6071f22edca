-- Bytes that come in two pieces are heard as if they had come at once.
use Rattle.std.proofs.Common.{◌≡◌, ℕ, List, [], ◌∷◌, ◌++◌, length, refl, sym, ap, subst, ◌∙◌, append_assoc}
use Rattle.std.specs.Prelude.{Option, Some, None, Result, Ok, Err, ◌==◌, slice_index}
use Rattle.std.specs.Str.{bytes_eq}
use Rattle.copy_frames.specs.Contents.{xlog_data_in, keepalive_in}
use Rattle.copy_frames.specs.declared.frame.Frame.{Frame}
use Rattle.copy_frames.specs.declared.keepalive.Keepalive.{Keepalive}
use Rattle.copy_frames.specs.declared.xlog_data.XLogData.{XLogData}
use Rattle.copy_frames.specs.Frames.{FrameCut, Rest, Bad, Then, cut, cut_fault, frames_of, rest_of, after_frames}
use Rattle.copy_frames.proofs.PieceLemmas.{with_more, cut_more, rest_with_more, more_after, after_append}
use Rattle.pgoutput_msgs.specs.Reading.{decoded}
use Rattle.pgoutput_msgs.specs.declared.error.MsgError.{MsgError}
use Rattle.pgoutput_msgs.specs.declared.message.Msg.{Msg}
use Rattle.pgoutput_msgs.specs.declared.message.Msg.TheVariants as m
use Rattle.pgoutput_msgs.specs.declared.relation.Relation.{Relation}
use Rattle.test_subscriber.specs.Answers.{SameOutcome}
use Rattle.test_subscriber.specs.Copies.{sub_fault}
use Rattle.test_subscriber.specs.Feeding.{limit, hear_while, next_heard, hear_frames, StaysOf, StopsAmong, StopsFor}
use Rattle.test_subscriber.specs.FeedingLaws.{PiecesAreFedAsOne, StopsComeAtOnce, StopsBeyond, FirstPiecesStay}
use Rattle.test_subscriber.specs.Frames.{MachineHeard, heard_then, hear_start, hear_keepalive, hear_decoded, hear_data, hear_content, hear_stream, hear_frame_in, hear_frame, hear_cut}
use Rattle.test_subscriber.specs.Hearing.{MachineResult, RowsChange, known_shape, changed_rows, staged, without_rows, hear_empty, empty_rest, hear_truncate, learn_new, learn_as, hear_idle, hear_busy, hear_in}
use Rattle.test_subscriber.specs.Machine.{Machine, Alike, stopped}
use Rattle.test_subscriber.specs.RowChanges.{Found, inserted, updated, deleted}
use Rattle.test_subscriber.specs.SameRelation.{same_relation}
use Rattle.test_subscriber.specs.Shapes.{shape_of}
use Rattle.test_subscriber.specs.Subscribers.{sub_machine, sub_held, fed_cut, fed_heard, Feeds, FeedStops}
use Rattle.test_subscriber.specs.declared.fault.SubFault.{SubFault}
use Rattle.test_subscriber.specs.declared.phase.Phase.{Phase}
use Rattle.test_subscriber.specs.declared.phase.Phase.TheVariants.{Shut, Waiting, Idle, Busy}
use Rattle.test_subscriber.specs.declared.shape.TableShape.{TableShape}
use Rattle.test_subscriber.specs.declared.subscriber.Subscriber.{Subscriber}
use Rattle.test_subscriber.proofs.AlikeLemmas.{alike_both}
use Rattle.test_subscriber.proofs.FrameAlikeLemmas.{frame_alike}
use Rattle.filter_tree.proofs.Tests.{by_test}

-- ---- what is heard of them

then_no_fault : (outcome : MachineResult) (others : FrameCut) (machine : Machine)
    → ((next : Machine) → (hear_cut others next).fault ≡ None → cut_fault others ≡ None)
    → (heard_then machine outcome (hear_cut others)).fault ≡ None → cut_fault others ≡ None
then_no_fault (Err fault) others machine later good = absurd cc
then_no_fault (Ok next) others machine later good = later next good

pub hears_no_fault : (whole : FrameCut) (machine : Machine) → (hear_cut whole machine).fault ≡ None
    → cut_fault whole ≡ None
hears_no_fault (Rest bytes) machine good = refl
hears_no_fault (Bad fault bytes) machine good = absurd cc
hears_no_fault (Then frame others) machine good =
    then_no_fault (hear_frame frame machine) others machine (hears_no_fault others) good

abbrev pub HearsMore : List ℕ → FrameCut → Machine → Type 0
HearsMore more whole machine = (hear_cut whole machine).fault ≡ None
    → hear_cut (with_more limit more whole) machine
    ≡ hear_cut (cut limit (rest_of whole ++ more)) (hear_cut whole machine).machine

then_hears_more : (more : List ℕ) (outcome : MachineResult) (others : FrameCut) (machine : Machine)
    → ((next : Machine) → HearsMore more others next)
    → (heard_then machine outcome (hear_cut others)).fault ≡ None
    → heard_then machine outcome (hear_cut (with_more limit more others))
    ≡ hear_cut (cut limit (rest_of others ++ more)) (heard_then machine outcome (hear_cut others)).machine
then_hears_more more (Err fault) others machine later good = absurd cc
then_hears_more more (Ok next) others machine later good = later next good

pub hears_more : (more : List ℕ) (whole : FrameCut) (machine : Machine) → HearsMore more whole machine
hears_more more (Rest bytes) machine good = refl
hears_more more (Bad fault bytes) machine good = absurd cc
hears_more more (Then frame others) machine good =
    then_hears_more more (hear_frame frame machine) others machine (hears_more more others) good

-- machines that are alike hear a cut alike
record AreHeardAlike (one other : MachineHeard) : Type 0 where
  fault : one.fault ≡ other.fault
  machine : Alike one.machine other.machine

then_alike : (others : FrameCut) (first second : MachineResult) (one other : Machine) → Alike one other
    → SameOutcome first second → ((a b : Machine) → Alike a b → AreHeardAlike (hear_cut others a) (hear_cut others b))
    → AreHeardAlike (heard_then one first (hear_cut others)) (heard_then other second (hear_cut others))
then_alike others (Ok first) (Ok second) one other alike same later = later first second same
then_alike others (Err first) (Err second) one other alike same later = record { fault = ap Some same; machine = alike }
then_alike others (Ok first) (Err second) one other alike same later = absurd same
then_alike others (Err first) (Ok second) one other alike same later = absurd same

cut_alike : (whole : FrameCut) (one other : Machine) → Alike one other
    → AreHeardAlike (hear_cut whole one) (hear_cut whole other)
cut_alike (Rest bytes) one other alike = record { fault = refl; machine = alike }
cut_alike (Bad fault bytes) one other alike = record { fault = refl; machine = alike }
cut_alike (Then frame others) one other alike =
    then_alike others (hear_frame frame one) (hear_frame frame other) one other alike
    (frame_alike frame one other alike) (cut_alike others)

-- ---- a connection that is opens

abbrev pub IsOpen : Phase → Type 0
IsOpen Shut = ⊥
IsOpen Waiting = Unit {0}
IsOpen Idle = Unit {0}
IsOpen (Busy begin) = Unit {0}

-- a connection on which a cut is heard without a fault is opens
pub while_open : (phase : Phase) (whole : FrameCut) (machine : Machine) → (hear_while phase whole machine).fault ≡ None
    → IsOpen phase
while_open Shut whole machine good = absurd cc
while_open Waiting whole machine good = tt
while_open Idle whole machine good = tt
while_open (Busy begin) whole machine good = tt

pub hears_open : (phase : Phase) (whole : FrameCut) (machine : Machine) → IsOpen phase
    → hear_while phase whole machine ≡ hear_cut whole machine
hears_open Shut whole machine opens = absurd opens
hears_open Waiting whole machine opens = refl
hears_open Idle whole machine opens = refl
hears_open (Busy begin) whole machine opens = refl

abbrev IsOpenAfter : MachineResult → Type 0
IsOpenAfter (Err fault) = Unit {0}
IsOpenAfter (Ok next) = IsOpen next.phase

change_open : (machine : Machine) (oid : ℕ) (outcome : Result Found SubFault) → IsOpen machine.phase
    → IsOpenAfter (staged machine oid outcome)
change_open machine oid (Err fault) opens = tt
change_open machine oid (Ok found) opens = opens

change_of_open : (table : Option TableShape) (found : Found) (oid : ℕ) (change : RowsChange) (machine : Machine)
    → IsOpen machine.phase
    → IsOpenAfter (changed_rows table found oid change machine)
change_of_open None found oid change machine opens = tt
change_of_open (Some shape) found oid change machine opens = change_open machine oid (change shape found) opens

rest_open : (others : Machine → MachineResult) (outcome : MachineResult)
    → ((next : Machine) → IsOpen next.phase → IsOpenAfter (others next)) → IsOpenAfter outcome
    → IsOpenAfter (empty_rest outcome others)
rest_open others (Err fault) later opens = tt
rest_open others (Ok next) later opens = later next opens

truncate_open : (oids : List ℕ) (machine : Machine) → IsOpen machine.phase → IsOpenAfter (hear_truncate oids machine)
unfolding hear_truncate
truncate_open [] machine opens = opens
truncate_open (oid ∷ oids) machine opens =
    rest_open (hear_truncate oids) (hear_empty oid machine) (truncate_open oids)
    (change_of_open (known_shape machine oid) (machine.work oid) oid without_rows machine opens)

learn_open : (shape : Option TableShape) (oid : ℕ) (machine : Machine) → IsOpen machine.phase
    → IsOpenAfter (learn_new shape oid machine)
learn_open None oid machine opens = tt
learn_open (Some shape) oid machine opens = opens

relation_open : (known : Option TableShape) (relation : Relation) (machine : Machine) → IsOpen machine.phase
    → IsOpenAfter (learn_as known relation machine)
relation_open None relation machine opens = learn_open (shape_of relation) relation.oid machine opens
relation_open (Some shape) relation machine opens =
    by_test (same_relation shape.relation relation) (λ same. rw same opens) (λ other. rw other tt)

idle_open : (message : Msg) (machine : Machine) → IsOpen machine.phase → IsOpenAfter (hear_idle message machine)
idle_open (m.Begin final_lsn time xid) machine opens = tt
idle_open (m.Commit lsn end_lsn time) machine opens = tt
idle_open (m.Relation relation) machine opens = relation_open (machine.kept relation.oid) relation machine opens
idle_open (m.Insert relation new) machine opens = tt
idle_open (m.Update relation old new) machine opens = tt
idle_open (m.Delete relation old) machine opens = tt
idle_open (m.Truncate options relations) machine opens = tt

busy_open : (begin : ℕ) (message : Msg) (machine : Machine) → IsOpen machine.phase
    → IsOpenAfter (hear_busy begin message machine)
busy_open begin (m.Begin final_lsn time xid) machine opens = tt
busy_open begin (m.Commit lsn end_lsn time) machine opens =
    by_test (lsn == begin) (λ same. rw same tt) (λ other. rw other tt)
busy_open begin (m.Relation relation) machine opens = relation_open (machine.kept relation.oid) relation machine opens
busy_open begin (m.Insert relation new) machine opens =
    change_of_open (known_shape machine relation) (machine.work relation) relation
    (λ shape found. inserted shape found new) machine opens
busy_open begin (m.Update relation old new) machine opens =
    change_of_open (known_shape machine relation) (machine.work relation) relation
    (λ shape found. updated shape found old new) machine opens
busy_open begin (m.Delete relation old) machine opens =
    change_of_open (known_shape machine relation) (machine.work relation) relation
    (λ shape found. deleted shape found old) machine opens
busy_open begin (m.Truncate options relations) machine opens = truncate_open relations machine opens

message_open : (phase : Phase) (message : Msg) (machine : Machine) → IsOpen machine.phase
    → IsOpenAfter (hear_in phase message machine)
message_open Shut message machine opens = tt
message_open Waiting message machine opens = tt
message_open Idle message machine opens = idle_open message machine opens
message_open (Busy begin) message machine opens = busy_open begin message machine opens

decoded_open : (read : Result Msg MsgError) (machine : Machine) → IsOpen machine.phase
    → IsOpenAfter (hear_decoded read machine)
decoded_open (Err fault) machine opens = tt
decoded_open (Ok message) machine opens = message_open machine.phase message machine opens

data_open : (found : Option (XLogData × List ℕ)) (machine : Machine) → IsOpen machine.phase
    → IsOpenAfter (hear_data found machine)
data_open None machine opens = tt
data_open (Some read) machine opens = decoded_open (decoded read.1) machine opens

keepalive_open : (found : Option Keepalive) (machine : Machine) → IsOpen machine.phase
    → IsOpenAfter (hear_keepalive found machine)
keepalive_open None machine opens = tt
keepalive_open (Some keepalive) machine opens = opens

content_open : (body : List ℕ) (machine : Machine) → IsOpen machine.phase → IsOpenAfter (hear_content body machine)
content_open body machine opens = by_test (length body == 0)
    (λ empty. rw empty tt)
    (λ some. rw some (by_test (slice_index body 0 == 119)
    (λ is. rw is (data_open (xlog_data_in body) machine opens))
    (λ differs. rw differs (by_test (slice_index body 0 == 107)
    (λ is. rw is (keepalive_open (keepalive_in body) machine opens))
    (λ apart. rw apart tt)))))

stream_open : (frame : Frame) (machine : Machine) → IsOpen machine.phase → IsOpenAfter (hear_stream frame machine)
stream_open frame machine opens =
    by_test (frame.kind == 100) (λ is. rw is (content_open frame.body machine opens)) (λ differs. rw differs tt)

start_open : (frame : Frame) (machine : Machine) → IsOpenAfter (hear_start frame machine)
start_open frame machine = by_test (frame.kind == 87)
    (λ is. rw is (by_test (bytes_eq frame.body (0 ∷ 0 ∷ 0 ∷ [])) (λ same. rw same tt) (λ other. rw other tt)))
    (λ differs. rw differs (by_test (frame.kind == 69) (λ is. rw is tt) (λ apart. rw apart tt)))

phase_open : (phase : Phase) (frame : Frame) (machine : Machine) → IsOpen machine.phase
    → IsOpenAfter (hear_frame_in phase frame machine)
phase_open Shut frame machine opens = tt
phase_open Waiting frame machine opens = start_open frame machine
phase_open Idle frame machine opens = stream_open frame machine opens
phase_open (Busy begin) frame machine opens = stream_open frame machine opens

then_open : (outcome : MachineResult) (others : FrameCut) (machine : Machine) → IsOpen machine.phase
    → IsOpenAfter outcome → ((next : Machine) → IsOpen next.phase → IsOpen (hear_cut others next).machine.phase)
    → IsOpen (heard_then machine outcome (hear_cut others)).machine.phase
then_open (Err fault) others machine opens after later = opens
then_open (Ok next) others machine opens after later = later next after

pub cut_open : (whole : FrameCut) (machine : Machine) → IsOpen machine.phase
    → IsOpen (hear_cut whole machine).machine.phase
cut_open (Rest bytes) machine opens = opens
cut_open (Bad fault bytes) machine opens = opens
cut_open (Then frame others) machine opens =
    then_open (hear_frame frame machine) others machine opens (phase_open machine.phase frame machine opens)
    (cut_open others)

-- ---- frames one after another

abbrev HearsFrames : FrameCut → Machine → Type 0
HearsFrames whole machine = (hear_cut whole machine).fault ≡ None
    → hear_frames (frames_of whole) machine ≡ Ok (hear_cut whole machine).machine

then_hears_frames : (outcome : MachineResult) (others : FrameCut) (machine : Machine)
    → ((next : Machine) → HearsFrames others next)
    → (heard_then machine outcome (hear_cut others)).fault ≡ None
    → next_heard outcome (hear_frames (frames_of others)) ≡ Ok (heard_then machine outcome (hear_cut others)).machine
then_hears_frames (Err fault) others machine later good = absurd cc
then_hears_frames (Ok next) others machine later good = later next good

hears_frames : (whole : FrameCut) (machine : Machine) → HearsFrames whole machine
hears_frames (Rest bytes) machine good = refl
hears_frames (Bad fault bytes) machine good = absurd cc
hears_frames (Then frame others) machine good =
    then_hears_frames (hear_frame frame machine) others machine (hears_frames others) good

next_after : (outcome : MachineResult) (before after : Machine → MachineResult)
    → next_heard (next_heard outcome before) after ≡ next_heard outcome (λ next. next_heard (before next) after)
next_after (Err fault) before after = refl
next_after (Ok next) before after = refl

next_of : (outcome : MachineResult) (one other : Machine → MachineResult) → ((next : Machine) → one next ≡ other next)
    → next_heard outcome one ≡ next_heard outcome other
next_of (Err fault) one other same = refl
next_of (Ok next) one other same = same next

frames_append : (first second : List Frame) (machine : Machine)
    → hear_frames (first ++ second) machine ≡ next_heard (hear_frames first machine) (hear_frames second)
frames_append [] second machine = refl
frames_append (frame ∷ first) second machine =
    next_of (hear_frame frame machine) (hear_frames (first ++ second))
    (λ next. next_heard (hear_frames first next) (hear_frames second)) (frames_append first second)
    ∙ sym (next_after (hear_frame frame machine) (hear_frames first) (hear_frames second))

next_alike : (frames : List Frame) (one other : MachineResult) → SameOutcome one other
    → ((a b : Machine) → Alike a b → SameOutcome (hear_frames frames a) (hear_frames frames b))
    → SameOutcome (next_heard one (hear_frames frames)) (next_heard other (hear_frames frames))
next_alike frames (Ok one) (Ok other) same later = later one other same
next_alike frames (Err one) (Err other) same later = same
next_alike frames (Ok one) (Err other) same later = absurd same
next_alike frames (Err one) (Ok other) same later = absurd same

frames_alike : (frames : List Frame) (one other : Machine) → Alike one other
    → SameOutcome (hear_frames frames one) (hear_frames frames other)
frames_alike [] one other alike = alike
frames_alike (frame ∷ frames) one other alike =
    next_alike frames (hear_frame frame one) (hear_frame frame other) (frame_alike frame one other alike)
    (frames_alike frames)

stopped_alike : (one other : Machine) → Alike one other → Alike (stopped one) (stopped other)
stopped_alike one other alike = record {
  phase = refl;
  position = alike.position;
  wants_reply = alike.wants_reply;
  kept = alike.kept;
  known = λ oid. refl;
  rows = alike.rows;
  work = alike.rows;
}

stays_alike : (one other : MachineResult) (new : Machine) → SameOutcome one other → StaysOf one new → StaysOf other new
stays_alike (Ok one) (Ok other) new same stays =
    alike_both new (stopped one) (stopped other) stays (stopped_alike one other same)
stays_alike (Err one) other new same stays = absurd stays
stays_alike (Ok one) (Err other) new same stays = absurd same

-- ---- both pieces

-- a piece without a fault, and one more
module _ (old between : Subscriber) (first second : List ℕ) (one : Feeds old first between) where
  abbrev whole : FrameCut
  whole = fed_cut old first

  abbrev heard : MachineHeard
  heard = hear_cut whole (sub_machine old)

  abbrev later : FrameCut
  later = cut limit (rest_of whole ++ second)

  old_open : IsOpen (sub_machine old).phase
  old_open = while_open (sub_machine old).phase whole (sub_machine old) one.fault

  first_heard : fed_heard old first ≡ heard
  first_heard = hears_open (sub_machine old).phase whole (sub_machine old) old_open

  good : heard.fault ≡ None
  good = sym (ap (λ (h : MachineHeard). h.fault) first_heard) ∙ one.fault

  machine_alike : Alike (sub_machine between) heard.machine
  machine_alike = subst (λ (h : MachineHeard). Alike (sub_machine between) h.machine) first_heard one.machine

  between_open : IsOpen (sub_machine between).phase
  between_open = subst IsOpen (sym machine_alike.phase) (cut_open whole (sub_machine old) old_open)

  all_cut : fed_cut old (first ++ second) ≡ with_more limit second whole
  all_cut = ap (cut limit) (sym (append_assoc (sub_held old) first second))
      ∙ cut_more limit (sub_held old ++ first) second (hears_no_fault whole (sub_machine old) good)

  next_cut : fed_cut between second ≡ later
  next_cut = ap (λ held. cut limit (held ++ second)) one.held

  next_is_heard : fed_heard between second ≡ hear_cut later (sub_machine between)
  next_is_heard = hears_open (sub_machine between).phase (fed_cut between second) (sub_machine between) between_open
      ∙ ap (λ found. hear_cut found (sub_machine between)) next_cut

  all_heard : fed_heard old (first ++ second) ≡ hear_cut later heard.machine
  all_heard = hears_open (sub_machine old).phase (fed_cut old (first ++ second)) (sub_machine old) old_open
      ∙ ap (λ found. hear_cut found (sub_machine old)) all_cut ∙ hears_more second whole (sub_machine old) good

  heard_alike : AreHeardAlike (fed_heard between second) (fed_heard old (first ++ second))
  heard_alike = subst (AreHeardAlike (fed_heard between second)) (sym all_heard)
      (subst (λ found. AreHeardAlike found (hear_cut later heard.machine)) (sym next_is_heard)
      (cut_alike later (sub_machine between) heard.machine machine_alike))

  fed_as_one : (new : Subscriber) → Feeds between second new → Feeds old (first ++ second) new
  fed_as_one new two = record {
    fault = sym heard_alike.fault ∙ two.fault;
    machine = alike_both (sub_machine new) (fed_heard between second).machine
        (fed_heard old (first ++ second)).machine two.machine heard_alike.machine;
    held = two.held ∙ ap rest_of next_cut
        ∙ sym (rest_with_more limit second whole (hears_no_fault whole (sub_machine old) good))
        ∙ sym (ap rest_of all_cut);
    output = two.output ∙ one.output;
    names = record {
      slot = two.names.slot ∙ one.names.slot;
      publications = two.names.publications
          ∙ one.names.publications;
    };
  }

  beyond : (new : Subscriber) → StopsAmong (fed_cut between second) (sub_machine between) (sub_machine new)
      → StopsBeyond old first second new
  beyond new stops = record {
    more = stops.frames;
    rest = stops.rest;
    among = after_append (frames_of whole) stops.frames stops.rest
        ∙ ap (after_frames (frames_of whole)) (stops.first ∙ next_cut)
        ∙ sym (more_after limit second whole (hears_no_fault whole (sub_machine old) good)) ∙ sym all_cut;
    stays = subst (λ outcome. StaysOf outcome (sub_machine new))
        (sym (frames_append (frames_of whole) stops.frames (sub_machine old)
        ∙ ap (λ outcome. next_heard outcome (hear_frames stops.frames))
        (hears_frames whole (sub_machine old) good)))
        (stays_alike (hear_frames stops.frames (sub_machine between)) (hear_frames stops.frames heard.machine)
        (sub_machine new)
        (frames_alike stops.frames (sub_machine between) heard.machine machine_alike) stops.stays);
  }

  among : (new : Subscriber) → StopsAmong (fed_cut between second) (sub_machine between) (sub_machine new)
      → StopsAmong (fed_cut old (first ++ second)) (sub_machine old) (sub_machine new)
  among new stops = let its = beyond new stops in
      record { frames = frames_of whole ++ its.more; rest = its.rest; first = its.among; stays = its.stays }

  stops_for : (fault : Option SubFault) (new : Subscriber)
      → StopsFor fault (fed_heard between second) (fed_cut between second) (sub_machine between) (sub_machine new)
      → StopsFor fault (fed_heard old (first ++ second)) (fed_cut old (first ++ second)) (sub_machine old)
      (sub_machine new)
  stops_for None new stops = among new stops
  stops_for (Some fault) new stops = record {
    fault_is = sym heard_alike.fault ∙ stops.fault_is;
    stays = alike_both (sub_machine new) (stopped (fed_heard between second).machine)
        (stopped (fed_heard old (first ++ second)).machine) stops.stays
        (stopped_alike (fed_heard between second).machine (fed_heard old (first ++ second)).machine
        heard_alike.machine);
  }

  stop_as_one : (new : Subscriber) (error : SubFault) → FeedStops between second error new
      → FeedStops old (first ++ second) error new
  stop_as_one new error stops = record {
    machine = stops_for (sub_fault error) new stops.machine;
    cleared = record {
      held = stops.cleared.held;
      output = stops.cleared.output;
      names = record {
        slot = stops.cleared.names.slot ∙ one.names.slot;
        publications = stops.cleared.names.publications ∙ one.names.publications;
      };
    };
  }

pub pieces_are_fed_as_one : PiecesAreFedAsOne
pieces_are_fed_as_one old between new first second one two = fed_as_one old between first second one new two

pub stops_come_at_once : StopsComeAtOnce
stops_come_at_once old between new first second error one stops =
    stop_as_one old between first second one new error stops

pub first_pieces_stay : FirstPiecesStay
first_pieces_stay old between new first second error one stops memory = beyond old between first second one new
    (subst (λ fault. StopsFor fault (fed_heard between second) (fed_cut between second) (sub_machine between)
    (sub_machine new)) memory stops.machine)
