-- What a sender writes of a stream, and which commits it takes up: PostgreSQL 15, 55.4. Streaming Replication Protocol.
use Rattle.std.specs.Prelude.{◌≡◌, ℕ, suc, List, [], ◌++◌, All, length, slice_get, Option, Some}
use Rattle.std.specs.Io.KnownBytes.{Appends}
use Rattle.shard_checker.specs.CheckedView.{CheckedOf}
use Rattle.tables_log.specs.Commits.{CommitOf}
use Rattle.tables_log.specs.Routes.{ArePassed}
use Rattle.copy_both.specs.LinkLaws.{started_at}
use Rattle.copy_both.specs.Streams.{stream}
use Rattle.copy_both.specs.Tellings.{telling_of}
use Rattle.copy_both.specs.VoiceLaws.{AreAt, Follow, VoiceRun, IsTelling, start_count, takes_in}
use Rattle.copy_both.specs.Voices as voices
use Rattle.copy_both.specs.Voices.{StageOf, voice_output}
use Rattle.copy_both.specs.declared.voice.Voice.{Voice}
use Rattle.publisher_desk.specs.Receipts.{ReceiptOf}
use Rattle.publisher_desk.specs.Viewers.{SeesMore, ViewerOf, log_seen}
use Rattle.stream_laws.specs.LayoutRoom.{IsClocked}
use Rattle.senders.specs.declared.sender_end.SenderEnd.{SenderEnd}
use Rattle.senders.specs.declared.sender_end.SenderEnd.TheVariants as sender_end

-- what was reported of the stream of this slot that starts here, directly after these bytes were passed on
abbrev pub started_telling : CheckedOf → ℕ → ℕ → List ℕ → VoiceRun
started_telling checked slot start passed =
    record { checked = checked; start = started_at checked (slot, start); taken = []; moves = []; passed = passed }

-- What was passed on and what waits are the stream of the moves, and then these bytes.
pub record Spells (told : VoiceRun) (output last : List ℕ) : Type 0 where
  pub follow : Follow (start_count told) told.taken
  pub takes : takes_in told.moves ≡ length told.taken
  pub bytes : (log : List CommitOf) → AreAt log (start_count told) told.taken
      → told.passed ++ output
      ≡ stream (telling_of told.checked) log told.start.slot told.start.tables told.start.position told.moves
      ++ last

-- A voice continues, and nothing waits.
pub record IsQuiet (voice : Voice) (told : VoiceRun) : Type 0 where
  pub tells : IsTelling voice told
  pub none : voice_output voice ≡ []

-- It is of the same stream, took these further commits, and passed these bytes on.
pub record Follows (old new : VoiceRun) (taken : List CommitOf) (bytes : List ℕ) : Type 0 where
  pub checked_is : new.checked ≡ old.checked
  pub start_is : new.start ≡ old.start
  pub taken_is : new.taken ≡ old.taken ++ taken
  pub passed_is : new.passed ≡ old.passed ++ bytes

-- The voice continues its stream, and these bytes were written; others may wait.
pub record TellsOn (before after : Option (List ℕ)) (taken : List CommitOf) (voice : Voice) (told : VoiceRun) :
    Type 0 where
  pub now : VoiceRun
  pub bytes : List ℕ
  pub put : Appends before after bytes
  pub follows : Follows told now taken bytes
  pub clocks : All IsClocked now.moves
  pub tells : IsTelling voice now

-- Whatever it reported and took before, it has taken these commits too, and has written nothing more.
abbrev pub TakesUp : List CommitOf → Voice → Voice → Type 0
TakesUp commits old new = (before after : Option (List ℕ)) (taken : List CommitOf) (told : VoiceRun)
    → TellsOn before after taken old told → TellsOn before after (taken ++ commits) new told

-- They are the next ones of a stream that runs, and its subscriber gets nothing of any.
abbrev pub AreQuietFor : CheckedOf → StageOf → List CommitOf → Type 0
AreQuietFor checked voices.NotStarted commits = Unit {0}
AreQuietFor checked (voices.Started place) commits = ArePassed checked.plan place.slot place.done commits
AreQuietFor checked voices.Closed commits = Unit {0}

-- The voice continues its stream, and these bytes were written, which are all.
pub record GoesOn (before after : Option (List ℕ)) (taken : List CommitOf) (voice : Voice) (told : VoiceRun) :
    Type 0 where
  pub now : VoiceRun
  pub bytes : List ℕ
  pub put : Appends before after bytes
  pub follows : Follows told now taken bytes
  pub clocks : All IsClocked now.moves
  pub quiet : IsQuiet voice now

-- The sender stopped in the midst of it.
pub record Breaks (before after : Option (List ℕ)) (taken : List CommitOf) (voice : Voice) (told : VoiceRun) :
    Type 0 where
  pub now : VoiceRun
  pub bytes : List ℕ
  pub put : Appends before after bytes
  pub follows : Follows told now taken bytes
  pub clocks : All IsClocked now.moves
  pub spells : Spells now (voice_output voice) []

-- Memory was refused, and nothing waits.
pub record Starves (before after : Option (List ℕ)) (taken : List CommitOf) (voice : Voice) (told : VoiceRun) :
    Type 0 where
  pub breaks : Breaks before after taken voice told
  pub none : voice_output voice ≡ []

-- what was reported when a sender stops, of which bytes may wait
abbrev pub TellsAs : SenderEnd → Option (List ℕ) → Option (List ℕ) → List CommitOf → Voice → VoiceRun → Type 0
TellsAs sender_end.ConnectionEnded before after taken voice told = TellsOn before after taken voice told
TellsAs sender_end.Finished before after taken voice told = TellsOn before after taken voice told
TellsAs sender_end.WriteFault before after taken voice told = Breaks before after taken voice told
TellsAs sender_end.OutOfMemory before after taken voice told = Breaks before after taken voice told

-- The log has this commit, at its number.
pub record IsLogged (log : List CommitOf) (commit : CommitOf) : Type 0 where
  pub place : ℕ
  pub number_is : commit.number ≡ suc place
  pub at : slice_get log place ≡ Some commit

-- the log that was seen has these
abbrev pub AreLogged : CheckedOf → List ReceiptOf → List CommitOf → Type 0
AreLogged checked seen commits = All (IsLogged (log_seen checked seen)) commits

-- What was seen before is a beginning of what is seen now, which has the commits that were taken.
pub record TakesLogged (checked : CheckedOf) (was now : ViewerOf) (taken : List CommitOf) : Type 0 where
  pub sees : SeesMore was now
  pub logged : AreLogged checked now.seen taken

-- and what is written then
abbrev pub StopsAs : SenderEnd → Option (List ℕ) → Option (List ℕ) → List CommitOf → Voice → VoiceRun → Type 0
StopsAs sender_end.ConnectionEnded before after taken voice told = GoesOn before after taken voice told
StopsAs sender_end.Finished before after taken voice told = GoesOn before after taken voice told
StopsAs sender_end.WriteFault before after taken voice told = Breaks before after taken voice told
StopsAs sender_end.OutOfMemory before after taken voice told = Starves before after taken voice told
