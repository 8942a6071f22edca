-- Whether a status is wanted does not affect what a subscriber does with frames.
use Rattle.std.proofs.Common.{◌≡◌, ℕ, Bool, List, [], ◌∷◌, length, refl, sym, ap, ◌∙◌, subst}
use Rattle.std.specs.Prelude.{Option, Some, None, Result, Ok, Err, ◌==◌, slice_index}
use Rattle.std.specs.Str.{bytes_eq}
use Rattle.copy_frames.specs.Contents.{xlog_data_in, keepalive_in}
use Rattle.copy_frames.specs.Frames.{FrameCut, Rest, Bad, Then}
use Rattle.copy_frames.specs.declared.frame.Frame.{Frame}
use Rattle.copy_frames.specs.declared.keepalive.Keepalive.{Keepalive}
use Rattle.copy_frames.specs.declared.xlog_data.XLogData.{XLogData}
use Rattle.pgoutput_msgs.specs.Reading.{decoded}
use Rattle.pgoutput_msgs.specs.declared.error.MsgError.{MsgError}
use Rattle.pgoutput_msgs.specs.declared.message.Msg.{Msg}
use Rattle.pgoutput_msgs.specs.declared.message.Msg.TheVariants as m
use Rattle.pgoutput_msgs.specs.declared.relation.Relation.{Relation}
use Rattle.test_subscriber.specs.Answers.{SameOutcome}
use Rattle.test_subscriber.specs.Frames.{MachineHeard, heard_then, hear_cut, hear_response, hear_start, hear_stream, hear_content, hear_data, hear_decoded, hear_keepalive, hear_frame_in, hear_frame}
use Rattle.test_subscriber.specs.Hearing.{MachineResult, RowsChange, known_shape, changed_rows, change_in, staged, learn_as, learn_new, hear_commit, hear_in, hear, hear_truncate, hear_empty, empty_rest, without_rows}
use Rattle.test_subscriber.specs.Machine.{Machine, Alike}
use Rattle.test_subscriber.specs.RowChanges.{Found}
use Rattle.test_subscriber.specs.SameRelation.{same_relation}
use Rattle.test_subscriber.specs.Shapes.{shape_of}
use Rattle.test_subscriber.specs.declared.fault.SubFault.{SubFault}
use Rattle.test_subscriber.specs.declared.phase.Phase.{Phase}
use Rattle.test_subscriber.specs.declared.phase.Phase.TheVariants.{Shut, Waiting, Idle, Busy}
use Rattle.test_subscriber.specs.declared.shape.TableShape.{TableShape}
use Rattle.test_subscriber.proofs.FrameAlikeLemmas.{frame_alike}
use Rattle.shard_world.specs.Joined.{AlikeBut}
use Rattle.filter_tree.proofs.Tests.{by_test}

abbrev pub with_wants : Bool → Machine → Machine
with_wants wants machine = record machine { wants_reply = wants }

-- ---- messages

abbrev then_wants : Bool → MachineResult → MachineResult
then_wants wants (Ok machine) = Ok (with_wants wants machine)
then_wants wants (Err fault) = Err fault

module _ (wants : Bool) where
  staged_wants : (machine : Machine) (oid : ℕ) (found : Result Found SubFault)
      → staged (with_wants wants machine) oid found ≡ then_wants wants (staged machine oid found)
  staged_wants machine oid (Ok found) = refl
  staged_wants machine oid (Err fault) = refl

  change_of_wants : (shape : Option TableShape) (found : Found) (oid : ℕ) (change : RowsChange) (machine : Machine)
      → changed_rows shape found oid change (with_wants wants machine)
      ≡ then_wants wants (changed_rows shape found oid change machine)
  change_of_wants None found oid change machine = refl
  change_of_wants (Some shape) found oid change machine = staged_wants machine oid (change shape found)

  change_wants : (oid : ℕ) (change : RowsChange) (machine : Machine)
      → change_in oid change (with_wants wants machine) ≡ then_wants wants (change_in oid change machine)
  change_wants oid change machine = change_of_wants (known_shape machine oid) (machine.work oid) oid change machine

  rest_wants : (oids : List ℕ) (outcome : MachineResult)
      → ((machine : Machine)
      → hear_truncate oids (with_wants wants machine) ≡ then_wants wants (hear_truncate oids machine))
      → empty_rest (then_wants wants outcome) (hear_truncate oids)
      ≡ then_wants wants (empty_rest outcome (hear_truncate oids))
  rest_wants oids (Ok machine) later = later machine
  rest_wants oids (Err fault) later = refl

  truncate_wants : (oids : List ℕ) (machine : Machine)
      → hear_truncate oids (with_wants wants machine) ≡ then_wants wants (hear_truncate oids machine)
  unfolding hear_truncate
  truncate_wants [] machine = refl
  truncate_wants (oid ∷ oids) machine =
      ap (λ outcome. empty_rest outcome (hear_truncate oids)) (change_wants oid without_rows machine)
      ∙ rest_wants oids (hear_empty oid machine) (λ next. truncate_wants oids next)

  learn_wants : (shape : Option TableShape) (oid : ℕ) (machine : Machine)
      → learn_new shape oid (with_wants wants machine) ≡ then_wants wants (learn_new shape oid machine)
  learn_wants None oid machine = refl
  learn_wants (Some shape) oid machine = refl

  relation_wants : (kept : Option TableShape) (relation : Relation) (machine : Machine)
      → learn_as kept relation (with_wants wants machine) ≡ then_wants wants (learn_as kept relation machine)
  relation_wants None relation machine = learn_wants (shape_of relation) relation.oid machine
  relation_wants (Some shape) relation machine =
      by_test (same_relation shape.relation relation) (λ same. rw same refl) (λ differs. rw differs refl)

  commit_wants : (begin lsn end_lsn : ℕ) (machine : Machine)
      → hear_commit begin lsn end_lsn (with_wants wants machine)
      ≡ then_wants wants (hear_commit begin lsn end_lsn machine)
  commit_wants begin lsn end_lsn machine = by_test (lsn == begin) (λ same. rw same refl) (λ differs. rw differs refl)

  message_wants : (phase : Phase) (message : Msg) (machine : Machine)
      → hear_in phase message (with_wants wants machine) ≡ then_wants wants (hear_in phase message machine)
  message_wants Shut message machine = refl
  message_wants Waiting message machine = refl
  message_wants Idle (m.Begin final_lsn time xid) machine = refl
  message_wants Idle (m.Commit lsn end_lsn time) machine = refl
  message_wants Idle (m.Relation relation) machine = relation_wants (machine.kept relation.oid) relation machine
  message_wants Idle (m.Insert relation new) machine = refl
  message_wants Idle (m.Update relation old new) machine = refl
  message_wants Idle (m.Delete relation old) machine = refl
  message_wants Idle (m.Truncate options relations) machine = refl
  message_wants (Busy begin) (m.Begin final_lsn time xid) machine = refl
  message_wants (Busy begin) (m.Commit lsn end_lsn time) machine = commit_wants begin lsn end_lsn machine
  message_wants (Busy begin) (m.Relation relation) machine = relation_wants (machine.kept relation.oid) relation machine
  message_wants (Busy begin) (m.Insert relation new) machine = change_wants relation _ machine
  message_wants (Busy begin) (m.Update relation old new) machine = change_wants relation _ machine
  message_wants (Busy begin) (m.Delete relation old) machine = change_wants relation _ machine
  message_wants (Busy begin) (m.Truncate options relations) machine = truncate_wants relations machine

-- ---- outcomes

abbrev pub SameBut : MachineResult → MachineResult → Type 0
SameBut (Ok one) (Ok other) = AlikeBut one other
SameBut (Err one) (Err other) = one ≡ other
SameBut one other = ⊥

alike_self : (machine : Machine) → AlikeBut machine machine
alike_self machine = record {
  phase = refl;
  position = refl;
  kept = λ oid. refl;
  known = λ oid. refl;
  rows = λ oid key. refl;
  work =
      λ oid key. refl;
}

same_wants : (wants : Bool) (outcome : MachineResult) → SameBut (then_wants wants outcome) outcome
same_wants wants (Ok machine) =
    record {
      phase = refl;
      position = refl;
      kept = λ oid. refl;
      known = λ oid. refl;
      rows = λ oid key. refl;
      work =
          λ oid key. refl;
    }
same_wants wants (Err fault) = refl

pub same_then : (one other last : MachineResult) → SameOutcome one other → SameBut other last → SameBut one last
same_then (Ok one) (Ok other) (Ok last) first second = record {
  phase = first.phase ∙ second.phase;
  position = first.position ∙ second.position;
  kept = λ oid. first.kept oid ∙ second.kept oid;
  known = λ oid. first.known oid ∙ second.known oid;
  rows = λ oid key. first.rows oid key ∙ second.rows oid key;
  work = λ oid key. first.work oid key ∙ second.work oid key;
}
same_then (Ok one) (Ok other) (Err last) first second = absurd second
same_then (Err one) (Err other) (Err last) first second = first ∙ second
same_then (Err one) (Err other) (Ok last) first second = absurd second
same_then (Ok one) (Err other) last first second = absurd first
same_then (Err one) (Ok other) last first second = absurd first

-- ---- frames

response_wants : (wants : Bool) (body : List ℕ) (machine : Machine)
    → SameBut (hear_response body (with_wants wants machine)) (hear_response body machine)
response_wants wants body machine =
    by_test (bytes_eq body (0 ∷ 0 ∷ 0 ∷ [])) (λ is. rw is (same_wants wants (Ok _))) (λ differs. rw differs refl)

keepalive_wants : (wants : Bool) (found : Option Keepalive) (machine : Machine)
    → SameBut (hear_keepalive found (with_wants wants machine)) (hear_keepalive found machine)
keepalive_wants wants None machine = refl
keepalive_wants wants (Some keepalive) machine =
    record {
      phase = refl;
      position = refl;
      kept = λ oid. refl;
      known = λ oid. refl;
      rows = λ oid key. refl;
      work =
          λ oid key. refl;
    }

decoded_wants : (wants : Bool) (read : Result Msg MsgError) (machine : Machine)
    → SameBut (hear_decoded read (with_wants wants machine)) (hear_decoded read machine)
decoded_wants wants (Err fault) machine = refl
decoded_wants wants (Ok message) machine =
    subst (λ outcome. SameBut outcome (hear message machine))
    (sym (message_wants wants machine.phase message machine)) (same_wants wants (hear message machine))

data_wants : (wants : Bool) (found : Option (XLogData × List ℕ)) (machine : Machine)
    → SameBut (hear_data found (with_wants wants machine)) (hear_data found machine)
data_wants wants None machine = refl
data_wants wants (Some read) machine = decoded_wants wants (decoded read.1) machine

content_wants : (wants : Bool) (body : List ℕ) (machine : Machine)
    → SameBut (hear_content body (with_wants wants machine)) (hear_content body machine)
content_wants wants body machine = by_test (length body == 0)
    (λ empty. rw empty refl)
    (λ some. rw some (by_test (slice_index body 0 == 119)
    (λ is. rw is (data_wants wants (xlog_data_in body) machine))
    (λ differs. rw differs (by_test (slice_index body 0 == 107)
    (λ is. rw is (keepalive_wants wants (keepalive_in body) machine))
    (λ apart. rw apart refl)))))

stream_wants : (wants : Bool) (frame : Frame) (machine : Machine)
    → SameBut (hear_stream frame (with_wants wants machine)) (hear_stream frame machine)
stream_wants wants frame machine =
    by_test (frame.kind == 100) (λ is. rw is (content_wants wants frame.body machine)) (λ differs. rw differs refl)

start_wants : (wants : Bool) (frame : Frame) (machine : Machine)
    → SameBut (hear_start frame (with_wants wants machine)) (hear_start frame machine)
start_wants wants frame machine = by_test (frame.kind == 87)
    (λ is. rw is (response_wants wants frame.body machine))
    (λ differs. rw differs (by_test (frame.kind == 69) (λ is. rw is refl) (λ apart. rw apart refl)))

in_wants : (wants : Bool) (phase : Phase) (frame : Frame) (machine : Machine)
    → SameBut (hear_frame_in phase frame (with_wants wants machine)) (hear_frame_in phase frame machine)
in_wants wants Shut frame machine = refl
in_wants wants Waiting frame machine = start_wants wants frame machine
in_wants wants Idle frame machine = stream_wants wants frame machine
in_wants wants (Busy begin) frame machine = stream_wants wants frame machine

as_other : (one other : Machine) → AlikeBut one other → Alike one (with_wants one.wants_reply other)
as_other one other alike =
    record {
      phase = alike.phase;
      position = alike.position;
      wants_reply = refl;
      kept = alike.kept;
      known =
          alike.known;
      rows = alike.rows;
      work = alike.work;
    }

pub frame_but : (frame : Frame) (one other : Machine) → AlikeBut one other
    → SameBut (hear_frame frame one) (hear_frame frame other)
frame_but frame one other alike =
    same_then (hear_frame frame one) (hear_frame frame (with_wants one.wants_reply other)) (hear_frame frame other)
    (frame_alike frame one (with_wants one.wants_reply other) (as_other one other alike))
    (in_wants one.wants_reply other.phase frame other)

-- ---- bytes that are cut into frames

pub record HeardBut (one other : MachineHeard) : Type 0 where
  pub fault : one.fault ≡ other.fault
  pub machine : AlikeBut one.machine other.machine

then_but : (one other : Machine) (left right : MachineResult) (more : Machine → MachineHeard) → AlikeBut one other
    → SameBut left right
    → ((a b : Machine) → AlikeBut a b → HeardBut (more a) (more b))
    → HeardBut (heard_then one left more) (heard_then other right more)
then_but one other (Ok left) (Ok right) more alike same later = later left right same
then_but one other (Err left) (Err right) more alike same later = record { fault = ap Some same; machine = alike }
then_but one other (Ok left) (Err right) more alike same later = absurd same
then_but one other (Err left) (Ok right) more alike same later = absurd same

pub cut_but : (cut : FrameCut) (one other : Machine) → AlikeBut one other
    → HeardBut (hear_cut cut one) (hear_cut cut other)
cut_but (Rest bytes) one other alike = record { fault = refl; machine = alike }
cut_but (Bad fault bytes) one other alike = record { fault = refl; machine = alike }
cut_but (Then frame more) one other alike =
    then_but one other (hear_frame frame one) (hear_frame frame other) (hear_cut more) alike
    (frame_but frame one other alike) (λ a b h. cut_but more a b h)
