-- Messages as frames, each in an XLogData with the same head ("55.4. Streaming Replication Protocol").
use Rattle.std.specs.Prelude.{◌≡◌, ℕ, List, [], ◌∷◌, ◌++◌, map}
use Rattle.std.specs.List.{flat_map}
use Rattle.copy_frames.specs.Contents.{xlog_data_body}
use Rattle.copy_frames.specs.declared.xlog_data.XLogData.{XLogData}
use Rattle.pgoutput_msgs.specs.Ranges.{HasTexts}
use Rattle.pgoutput_msgs.specs.declared.message.Msg.{Msg}
use Rattle.copy_both.specs.Streams.{Carries, spelled}
use Rattle.copy_both.specs.declared.frames.Frames.{Frames}

abbrev pub frames_with : XLogData → List Msg → List ℕ
frames_with head messages = flat_map spelled (map (Carries head) messages)

-- a frame without its length and without a message
abbrev pub opening : XLogData → List ℕ
opening head = 100 ∷ 0 ∷ 0 ∷ 0 ∷ 0 ∷ xlog_data_body head []

-- the message is added in a frame with the same head, and its texts are UTF-8
pub record AddsFrame (old new : Frames) (message : Msg) : Type 0 where
  pub head : new.head ≡ old.head
  pub appended : new.bytes.items ≡ old.bytes.items ++ spelled (Carries old.head message)
  pub texts : HasTexts message
