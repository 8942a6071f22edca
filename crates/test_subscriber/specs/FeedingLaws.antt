-- That a subscriber does the same with pieces that are fed one after another and with the pieces as one ("55.7. Message
-- Formats").
use Rattle.std.specs.Prelude.{◌≡◌, ℕ, List, ◌++◌, None}
use Rattle.copy_frames.specs.Frames.{FrameCut, after_frames, frames_of}
use Rattle.copy_frames.specs.declared.frame.Frame.{Frame}
use Rattle.test_subscriber.specs.Copies.{sub_fault}
use Rattle.test_subscriber.specs.Feeding.{hear_frames, StaysOf}
use Rattle.test_subscriber.specs.Subscribers.{Feeds, FeedStops, fed_cut, sub_machine}
use Rattle.test_subscriber.specs.declared.fault.SubFault.{SubFault}
use Rattle.test_subscriber.specs.declared.subscriber.Subscriber.{Subscriber}

-- what two pieces without a fault leave is what they leave as one piece
abbrev pub PiecesAreFedAsOne : Type 0
PiecesAreFedAsOne = (old between new : Subscriber) (first second : List ℕ) → Feeds old first between
    → Feeds between second new → Feeds old (first ++ second) new

-- if the second one stops it with an error, both as one piece stop it with that error, and leave the same
abbrev pub StopsComeAtOnce : Type 0
StopsComeAtOnce = (old between new : Subscriber) (first second : List ℕ) (error : SubFault)
    → Feeds old first between → FeedStops between second error new → FeedStops old (first ++ second) error new

-- all whole frames of the first one are heard, and then the first few frames of the second
pub record StopsBeyond (old : Subscriber) (first second : List ℕ) (new : Subscriber) : Type 0 where
  pub more : List Frame
  pub rest : FrameCut
  pub among : after_frames (frames_of (fed_cut old first) ++ more) rest ≡ fed_cut old (first ++ second)
  pub stays : StaysOf (hear_frames (frames_of (fed_cut old first) ++ more) (sub_machine old)) (sub_machine new)

-- if memory is refused for the second one, what is left is the result of these
abbrev pub FirstPiecesStay : Type 0
FirstPiecesStay = (old between new : Subscriber) (first second : List ℕ) (error : SubFault)
    → Feeds old first between → FeedStops between second error new → sub_fault error ≡ None
    → StopsBeyond old first second new
