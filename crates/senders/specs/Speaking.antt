-- The first and the last that is said on a connection: PostgreSQL 15, 55.4. Streaming Replication Protocol.
use Rattle.std.specs.Prelude.{◌≡◌, ℕ, Bool, true, false, List, [], ◌++◌, Option, Some}
use Rattle.std.specs.Io.KnownBytes.{Appends}
use Rattle.shard_checker.specs.CheckedView.{CheckedOf}
use Rattle.copy_frames.specs.Contents.{copy_both_response, copy_done}
use Rattle.copy_both.specs.Streams.{StreamStateOf}
use Rattle.copy_both.specs.Voices as voices
use Rattle.copy_both.specs.Voices.{voice_checked, voice_output, voice_stage}
use Rattle.copy_both.specs.declared.voice.Voice.{Voice}
use Rattle.senders.specs.Sending.{IsQuiet, started_telling}
use Rattle.senders.specs.declared.listener_end.ListenerEnd.{ListenerEnd}
use Rattle.senders.specs.declared.listener_end.ListenerEnd.TheVariants as listener_end
use Rattle.senders.specs.declared.sender_end.SenderEnd.{SenderEnd}
use Rattle.senders.specs.declared.sender_end.SenderEnd.TheVariants as sender_end

-- It has not started, and has nothing to say.
pub record IsNewVoice (checked : CheckedOf) (voice : Voice) : Type 0 where
  pub checked_is : voice_checked voice ≡ checked
  pub stage_is : voice_stage voice ≡ voices.NotStarted
  pub none : voice_output voice ≡ []

-- CopyBothResponse was written, and the stream continues.
pub record Opens (checked : CheckedOf) (slot start : ℕ) (before after : Option (List ℕ)) (voice : Voice) : Type 0 where
  pub put : Appends before after copy_both_response
  pub quiet : IsQuiet voice (started_telling checked slot start copy_both_response)

-- Some first bytes of it were written.
pub record WritesPart (before after : Option (List ℕ)) (failed : Bool) : Type 0 where
  pub written : List ℕ
  pub rest : List ℕ
  pub bytes : written ++ rest ≡ copy_both_response
  pub put : Appends before after written
  pub fails : failed ≡ true

abbrev pub FailsToOpen : Option (List ℕ) → Option (List ℕ) → Bool → SenderEnd → Type 0
FailsToOpen before after failed sender_end.ConnectionEnded = ⊥
FailsToOpen before after failed sender_end.Finished = ⊥
FailsToOpen before after failed sender_end.WriteFault = WritesPart before after failed
FailsToOpen before after failed sender_end.OutOfMemory = Appends before after []

-- nothing, or CopyDone to a client that sent it
pub data IsSaid (why : Option ListenerEnd) (last : List ℕ) : Type 0 where
  Nothing : last ≡ [] → IsSaid why last
  Done : last ≡ copy_done → why ≡ Some (listener_end.Frame 99) → IsSaid why last

-- a sender that did not fail was refused memory for it, or stays so, and answers CopyDone by CopyDone
pub data IsClosing (was now : SenderEnd) (why : Option ListenerEnd) (last : List ℕ) : Type 0 where
  Refused : now ≡ sender_end.OutOfMemory → IsClosing was now why last
  Answers : now ≡ was → (why ≡ Some (listener_end.Frame 99) → last ≡ copy_done) → IsClosing was now why last

-- Its first bytes were written, all but where the sink failed.
pub record Closes (was now : SenderEnd) (why : Option ListenerEnd) (before after : Option (List ℕ)) (failed : Bool) :
    Type 0 where
  pub last : List ℕ
  pub said : IsSaid why last
  pub closing : IsClosing was now why last
  pub written : List ℕ
  pub rest : List ℕ
  pub bytes : written ++ rest ≡ last
  pub put : Appends before after written
  pub all : failed ≡ false → rest ≡ []

-- nothing was written
pub record SaysNothing (was now : SenderEnd) (before after : Option (List ℕ)) (was_failed failed : Bool) : Type 0 where
  pub now_is : now ≡ was
  pub put : Appends before after []
  pub same : failed ≡ was_failed

-- Nothing waits, and the stream continues.
pub record IsResting (voice : Voice) : Type 0 where
  pub none : voice_output voice ≡ []
  pub state : StreamStateOf
  pub stage_is : voice_stage voice ≡ voices.Started state

-- so it is where the sender did not fail
abbrev pub IsQuietAt : SenderEnd → Voice → Type 0
IsQuietAt sender_end.ConnectionEnded voice = IsResting voice
IsQuietAt sender_end.Finished voice = IsResting voice
IsQuietAt sender_end.WriteFault voice = Unit {0}
IsQuietAt sender_end.OutOfMemory voice = Unit {0}

-- how the sender stopped before, and with what is said last
abbrev pub SaysLast : SenderEnd → SenderEnd → Option ListenerEnd → Option (List ℕ) → Option (List ℕ) → Bool → Bool
    → Type 0
SaysLast sender_end.ConnectionEnded now why before after was_failed failed =
    Closes sender_end.ConnectionEnded now why before after failed
SaysLast sender_end.Finished now why before after was_failed failed =
    Closes sender_end.Finished now why before after failed
SaysLast sender_end.WriteFault now why before after was_failed failed =
    SaysNothing sender_end.WriteFault now before after was_failed failed
SaysLast sender_end.OutOfMemory now why before after was_failed failed =
    SaysNothing sender_end.OutOfMemory now before after was_failed failed
