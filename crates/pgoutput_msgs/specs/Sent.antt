-- What is known of each message that reports a commit to a subscriber: that its spelling is read as that message, and
-- its greatest length: PostgreSQL 15, 55.9. Logical Replication Message Formats.
use Rattle.std.specs.Prelude.{◌≡◌, ◌≤◌, List, All, length, Ok}
use Rattle.pgoutput_msgs.specs.Ranges.{IsMessage}
use Rattle.pgoutput_msgs.specs.Reading.{decoded}
use Rattle.pgoutput_msgs.specs.Spelling.{spelling_of}
use Rattle.pgoutput_msgs.specs.declared.message.Msg.{Msg}

-- ---- messages

-- The longest is an Update under FULL of 100 texts of 65,535 bytes: twice 100 values of 65,540 bytes, and 11 bytes.
pub record IsSent (message : Msg) : Type 0 where
  pub read_back : IsMessage message
  pub short : length (spelling_of message) ≤ 13108011

-- ---- laws

-- each of these messages is decoded from its spelling
abbrev pub IsDecoded : Msg → Type 0
IsDecoded message = decoded (spelling_of message) ≡ Ok message

abbrev pub MessagesAreReadBack : Type 0
MessagesAreReadBack = (messages : List Msg) → All IsSent messages → All IsDecoded messages
