-- What a voice sends is its stream: what was passed on and what waits are together the stream of what it took and kept
-- alive, in each log that has the commits that it took ("55.4. Streaming Replication Protocol").
use Rattle.std.specs.Prelude.{◌≡◌, ℕ, suc, ◌+◌, Bool, List, [], ◌∷◌, ◌++◌, length, take, slice_get, Some}
use Rattle.shard_checker.specs.CheckedView.{CheckedOf}
use Rattle.tables_log.specs.Commits.{CommitOf}
use Rattle.tables_log.specs.Lsn.{commits_before}
use Rattle.copy_frames.specs.Contents.{copy_both_response}
use Rattle.copy_both.specs.LinkLaws.{started_at}
use Rattle.copy_both.specs.StreamLaws.{Start, HasSent}
use Rattle.copy_both.specs.Streams.{StreamStateOf, Move, Take, Keep, stream}
use Rattle.copy_both.specs.Tellings.{telling_of}
use Rattle.copy_both.specs.Voices as voices
use Rattle.copy_both.specs.Voices.{Sends, Closes, Passes, voice_checked, voice_stage, voice_output, first_stage, entry_bytes, entry_stage, kept_bytes, done_bytes}
use Rattle.copy_both.specs.declared.voice.Voice.{Voice}

-- ---- commits of a log

-- after this number of commits the log has these
abbrev pub AreAt : List CommitOf → ℕ → List CommitOf → Type 0
AreAt log place [] = Unit {0}
AreAt log place (commit ∷ commits) = (slice_get log place ≡ Some commit) × AreAt log (suc place) commits

-- the first of them is the one after this number of others, and they follow one another
abbrev pub Follow : ℕ → List CommitOf → Type 0
Follow count [] = Unit {0}
Follow count (commit ∷ commits) = (commit.number ≡ suc count) × Follow (suc count) commits

-- how many of the moves take a commit
abbrev pub takes_in : List Move → ℕ
takes_in [] = 0
takes_in (Take clock ∷ moves) = suc (takes_in moves)
takes_in (Keep clock want ∷ moves) = takes_in moves

-- ---- a voice

-- the commits that a voice took since its start, the moves that it made, and what was passed on of what it sent
pub record VoiceRun : Type 0 where
  pub checked : CheckedOf
  pub start : Start
  pub taken : List CommitOf
  pub moves : List Move
  pub passed : List ℕ

abbrev pub start_count : VoiceRun → ℕ
start_count run = commits_before run.start.position

-- it streams, and what it sent is the stream of the moves
pub record IsTelling (voice : Voice) (run : VoiceRun) : Type 0 where
  pub checked_is : voice_checked voice ≡ run.checked
  pub state : StreamStateOf
  pub stage_is : voice_stage voice ≡ voices.Started state
  pub slot : state.slot ≡ run.start.slot
  pub done : state.done ≡ start_count run + length run.taken
  pub follow : Follow (start_count run) run.taken
  pub takes : takes_in run.moves ≡ length run.taken
  pub speaks : (log : List CommitOf) → AreAt log (start_count run) run.taken
      → HasSent (telling_of run.checked) log run.start run.moves run.passed (voice_output voice) state

-- it is closed, and these bytes came after the stream
pub record HasStopped (voice : Voice) (run : VoiceRun) (last : List ℕ) : Type 0 where
  pub stage_is : voice_stage voice ≡ voices.Closed
  pub follow : Follow (start_count run) run.taken
  pub takes : takes_in run.moves ≡ length run.taken
  pub bytes : (log : List CommitOf) → AreAt log (start_count run) run.taken
      → run.passed ++ voice_output voice
      ≡ stream (telling_of run.checked) log run.start.slot run.start.tables run.start.position run.moves
      ++ last

-- ---- laws: what each call does

abbrev pub VoiceStarts : Type 0
VoiceStarts = (old new : Voice) (slot position : ℕ) → voice_stage old ≡ voices.NotStarted → voice_output old ≡ []
    → Sends old new copy_both_response (first_stage (voice_checked old) slot position)
    → IsTelling new (record {
      checked = voice_checked old;
      start = started_at (voice_checked old) (slot, position);
      taken = [];
      moves =
          [];
      passed = [];
    })

abbrev pub VoiceTakes : Type 0
VoiceTakes = (old new : Voice) (run : VoiceRun) (commit : CommitOf) (clock : ℕ) → IsTelling old run
    → commit.number ≡ suc (start_count run + length run.taken)
    → Sends old new (entry_bytes (voice_checked old) (voice_stage old) commit clock)
    (entry_stage (voice_checked old) (voice_stage old) commit)
    → IsTelling new (record run { taken = run.taken ++ commit ∷ []; moves = run.moves ++ Take clock ∷ [] })

abbrev pub VoiceKeeps : Type 0
VoiceKeeps = (old new : Voice) (run : VoiceRun) (clock : ℕ) (want : Bool) → IsTelling old run
    → Sends old new (kept_bytes (voice_stage old) clock want) (voice_stage old)
    → IsTelling new (record run { moves = run.moves ++ Keep clock want ∷ [] })

abbrev pub VoicePassesOn : Type 0
VoicePassesOn = (old new : Voice) (run : VoiceRun) (count : ℕ) → IsTelling old run → Passes old new count
    → IsTelling new (record run { passed = run.passed ++ take count (voice_output old) })

-- CopyDone follows the stream
abbrev pub VoiceIsDone : Type 0
VoiceIsDone = (old new : Voice) (run : VoiceRun) → IsTelling old run
    → Sends old new (done_bytes (voice_stage old)) voices.Closed
    → HasStopped new run (done_bytes (voice_stage old))

-- a call that closes it sends nothing
abbrev pub VoiceStops : Type 0
VoiceStops = (old new : Voice) (run : VoiceRun) → IsTelling old run → Closes old new → HasStopped new run []

-- after the end the rest of what waits may be passed on
abbrev pub RestPassesOn : Type 0
RestPassesOn = (old new : Voice) (run : VoiceRun) (last : List ℕ) (count : ℕ) → HasStopped old run last
    → Passes old new count
    → HasStopped new (record run { passed = run.passed ++ take count (voice_output old) }) last
