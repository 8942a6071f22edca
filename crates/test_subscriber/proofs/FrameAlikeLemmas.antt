-- Machines that are alike hear a frame alike.
use Rattle.std.proofs.Common.{ℕ, List, [], ◌∷◌, length, refl, ap, subst, ◌∙◌}
use Rattle.std.specs.Prelude.{Option, Some, None, Result, Ok, Err, ◌==◌, ◌||◌, slice_index}
use Rattle.std.specs.Str.{bytes_eq}
use Rattle.copy_frames.specs.Contents.{xlog_data_in, keepalive_in}
use Rattle.copy_frames.specs.declared.frame.Frame.{Frame}
use Rattle.copy_frames.specs.declared.keepalive.Keepalive.{Keepalive}
use Rattle.copy_frames.specs.declared.xlog_data.XLogData.{XLogData}
use Rattle.pgoutput_msgs.specs.Reading.{decoded}
use Rattle.pgoutput_msgs.specs.declared.error.MsgError.{MsgError}
use Rattle.pgoutput_msgs.specs.declared.message.Msg.{Msg}
use Rattle.test_subscriber.specs.Answers.{SameOutcome}
use Rattle.test_subscriber.specs.Frames.{hear_response, hear_start, hear_stream, hear_content, hear_data, hear_decoded, hear_keepalive, hear_frame_in, hear_frame, raised}
use Rattle.test_subscriber.specs.Machine.{Machine, Alike}
use Rattle.test_subscriber.specs.declared.phase.Phase.{Phase}
use Rattle.test_subscriber.specs.declared.phase.Phase.TheVariants.{Shut, Waiting, Idle, Busy}
use Rattle.test_subscriber.proofs.HearAlikeLemmas.{hear_alike}
use Rattle.filter_tree.proofs.Tests.{by_test}

response_alike : (body : List ℕ) (one other : Machine) → Alike one other
    → SameOutcome (hear_response body one) (hear_response body other)
response_alike body one other alike = by_test (bytes_eq body (0 ∷ 0 ∷ 0 ∷ []))
    (λ is. rw is (record {
      phase = refl;
      position = alike.position;
      wants_reply = alike.wants_reply;
      kept = alike.kept;
      known = alike.known;
      rows = alike.rows;
      work = alike.work;
    }))
    (λ differs. rw differs refl)

start_alike : (frame : Frame) (one other : Machine) → Alike one other
    → SameOutcome (hear_start frame one) (hear_start frame other)
start_alike frame one other alike = by_test (frame.kind == 87)
    (λ is. rw is (response_alike frame.body one other alike))
    (λ differs. rw differs (by_test (frame.kind == 69) (λ is. rw is refl) (λ apart. rw apart refl)))

keepalive_alike : (found : Option Keepalive) (one other : Machine) → Alike one other
    → SameOutcome (hear_keepalive found one) (hear_keepalive found other)
keepalive_alike None one other alike = refl
keepalive_alike (Some keepalive) one other alike = record {
  phase = alike.phase;
  position = ap (λ phase. raised phase keepalive.position one.position) alike.phase
      ∙ ap (raised other.phase keepalive.position) alike.position;
  wants_reply = ap (λ wants. wants || keepalive.wants_reply) alike.wants_reply;
  kept = alike.kept;
  known = alike.known;
  rows = alike.rows;
  work = alike.work;
}

decoded_alike : (read : Result Msg MsgError) (one other : Machine) → Alike one other
    → SameOutcome (hear_decoded read one) (hear_decoded read other)
decoded_alike (Err fault) one other alike = refl
decoded_alike (Ok message) one other alike = hear_alike message one other alike

data_alike : (found : Option (XLogData × List ℕ)) (one other : Machine) → Alike one other
    → SameOutcome (hear_data found one) (hear_data found other)
data_alike None one other alike = refl
data_alike (Some read) one other alike = decoded_alike (decoded read.1) one other alike

content_alike : (body : List ℕ) (one other : Machine) → Alike one other
    → SameOutcome (hear_content body one) (hear_content body other)
content_alike body one other alike = by_test (length body == 0)
    (λ empty. rw empty refl)
    (λ some. rw some (by_test (slice_index body 0 == 119)
    (λ is. rw is (data_alike (xlog_data_in body) one other alike))
    (λ differs. rw differs (by_test (slice_index body 0 == 107)
    (λ is. rw is (keepalive_alike (keepalive_in body) one other alike))
    (λ apart. rw apart refl)))))

stream_alike : (frame : Frame) (one other : Machine) → Alike one other
    → SameOutcome (hear_stream frame one) (hear_stream frame other)
stream_alike frame one other alike = by_test (frame.kind == 100)
    (λ is. rw is (content_alike frame.body one other alike))
    (λ differs. rw differs refl)

phase_alike : (phase : Phase) (frame : Frame) (one other : Machine) → Alike one other
    → SameOutcome (hear_frame_in phase frame one) (hear_frame_in phase frame other)
phase_alike Shut frame one other alike = refl
phase_alike Waiting frame one other alike = start_alike frame one other alike
phase_alike Idle frame one other alike = stream_alike frame one other alike
phase_alike (Busy begin) frame one other alike = stream_alike frame one other alike

pub frame_alike : (frame : Frame) (one other : Machine) → Alike one other
    → SameOutcome (hear_frame frame one) (hear_frame frame other)
frame_alike frame one other alike =
    subst (λ phase. SameOutcome (hear_frame_in one.phase frame one) (hear_frame_in phase frame other)) alike.phase
    (phase_alike one.phase frame one other alike)
