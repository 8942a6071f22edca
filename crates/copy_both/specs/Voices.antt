-- What a voice is, the half of a connection's end that sends, and what its calls return, send and leave ("55.4.
-- Streaming Replication Protocol"). A voice that is closed sends no more.
use Rattle.std.specs.Prelude.{◌≡◌, ℕ, ◌+◌, Bool, true, false, List, [], ◌∷◌, ◌++◌, All, length, drop, Option, Some, None, Result, Ok, Err}
use Rattle.std.specs.Arc.{arc_value}
use Rattle.row_owners.specs.Owners.{concerns}
use Rattle.shard_checker.specs.CheckedView.{CheckedOf, checked_view}
use Rattle.tables_log.specs.Commits.{CommitOf}
use Rattle.tables_log.specs.Lsn.{end_lsn_of}
use Rattle.pgoutput_msgs.specs.Sent.{IsSent}
use Rattle.pgoutput_msgs.specs.Telling.{messages_for}
use Rattle.pgoutput_msgs.specs.declared.message.Msg.{Msg}
use Rattle.copy_frames.specs.Contents.{copy_done}
use Rattle.copy_both.specs.Streams as streams
use Rattle.copy_both.specs.Streams.{state_at, state_after, take_bytes, keep_bytes}
use Rattle.copy_both.specs.Tellings.{telling_of}
use Rattle.copy_both.specs.declared.link_fault.LinkFault.{LinkFault}
use Rattle.copy_both.specs.declared.link_fault.LinkFault.TheVariants as fault
use Rattle.copy_both.specs.declared.stream_state.StreamState.{StreamState}
use Rattle.copy_both.specs.declared.taken.Taken.{Taken}
use Rattle.copy_both.specs.declared.taken.Taken.TheVariants as taken
use Rattle.copy_both.specs.declared.voice.Stage.{Stage}
use Rattle.copy_both.specs.declared.voice.Stage.TheVariants as stage
use Rattle.copy_both.specs.declared.voice.Voice.{Voice}

pub data StageOf : Type 0 where
  NotStarted : StageOf
  Started : streams.StreamStateOf → StageOf
  Closed : StageOf

-- ---- views

abbrev pub state_view : StreamState → streams.StreamStateOf
state_view state = record {
  slot = state.slot;
  done = state.done;
  relation_sent = state.relation_sent.items;
  sent = state.sent;
}

abbrev pub stage_view : Stage → StageOf
stage_view stage.NotStarted = NotStarted
stage_view (stage.Started state) = Started (state_view state)
stage_view stage.Closed = Closed

abbrev pub voice_checked : Voice → CheckedOf
voice_checked voice = checked_view (arc_value voice.checked)

abbrev pub voice_stage : Voice → StageOf
voice_stage voice = stage_view voice.stage

-- what was sent and not passed on
abbrev pub voice_output : Voice → List ℕ
voice_output voice = voice.out.items

-- how many more bytes the output holds without allocating memory
abbrev pub voice_room : Voice → ℕ
voice_room voice = voice.out.spare

-- the stream runs
abbrev pub IsStarted : StageOf → Type 0
IsStarted NotStarted = ⊥
IsStarted (Started state) = Unit {0}
IsStarted Closed = ⊥

-- ---- what a call leaves

-- these bytes are sent, and the voice is then in this state
pub record Sends (old new : Voice) (bytes : List ℕ) (stage : StageOf) : Type 0 where
  pub checked : voice_checked new ≡ voice_checked old
  pub stage_is : voice_stage new ≡ stage
  pub output : voice_output new ≡ voice_output old ++ bytes

-- nothing is sent, and from now on nothing will be
pub record Closes (old new : Voice) : Type 0 where
  pub checked : voice_checked new ≡ voice_checked old
  pub stage_is : voice_stage new ≡ Closed
  pub output : voice_output new ≡ voice_output old

-- this number of waiting bytes is dropped
pub record Passes (old new : Voice) (count : ℕ) : Type 0 where
  pub checked : voice_checked new ≡ voice_checked old
  pub stage_is : voice_stage new ≡ voice_stage old
  pub output : voice_output new ≡ drop count (voice_output old)

-- if memory is refused, no fault is reported
abbrev pub reported_fault : LinkFault → Option LinkFault
reported_fault fault.OutOfMemory = None
reported_fault other = Some other

-- ---- start: a voice starts once

abbrev pub start_answer : StageOf → Result (Unit {0}) LinkFault
start_answer NotStarted = Ok tt
start_answer (Started state) = Err fault.Closed
start_answer Closed = Err fault.Closed

abbrev pub first_stage : CheckedOf → ℕ → ℕ → StageOf
first_stage checked slot position = Started (state_at slot (length checked.catalog.tables) position)

-- ---- a commit is taken, or nothing is sent

-- a commit without a message for the subscriber is skipped
abbrev pub taken_of : ℕ → List Msg → Taken
taken_of number [] = taken.Skipped number
taken_of number (first ∷ others) = taken.Sent number

abbrev pub entry_answer : CheckedOf → StageOf → CommitOf → Result Taken LinkFault
entry_answer checked NotStarted commit = Ok taken.NotStarted
entry_answer checked (Started state) commit =
    Ok (taken_of commit.number (messages_for checked state.slot state.relation_sent commit))
entry_answer checked Closed commit = Err fault.Closed

abbrev pub entry_bytes : CheckedOf → StageOf → CommitOf → ℕ → List ℕ
entry_bytes checked NotStarted commit clock = []
entry_bytes checked (Started state) commit clock = take_bytes (telling_of checked) state commit clock
entry_bytes checked Closed commit clock = []

abbrev pub entry_stage : CheckedOf → StageOf → CommitOf → StageOf
entry_stage checked NotStarted commit = NotStarted
entry_stage checked (Started state) commit = Started (state_after (telling_of checked) state commit)
entry_stage checked Closed commit = Closed

-- each message of the commit is decoded from its spelling
abbrev pub AreReadBack : CheckedOf → streams.StreamStateOf → CommitOf → Type 0
AreReadBack checked state commit = All IsSent (messages_for checked state.slot state.relation_sent commit)

abbrev pub EntryIsReadBack : CheckedOf → StageOf → CommitOf → Type 0
EntryIsReadBack checked NotStarted commit = Unit {0}
EntryIsReadBack checked (Started state) commit = AreReadBack checked state commit
EntryIsReadBack checked Closed commit = Unit {0}

-- ---- a commit is passed over of which the subscriber of the stream gets nothing

abbrev pub IsQuietFor : CheckedOf → StageOf → CommitOf → Type 0
IsQuietFor checked NotStarted commit = Unit {0}
IsQuietFor checked (Started state) commit = concerns checked.plan commit.changes state.slot ≡ false
IsQuietFor checked Closed commit = Unit {0}

-- where a connection is then that sent nothing of the commit with this number
abbrev pub state_past : streams.StreamStateOf → ℕ → streams.StreamStateOf
state_past state number =
    record { slot = state.slot; done = state.done + 1; relation_sent = state.relation_sent; sent = end_lsn_of number }

-- ---- keepalive

abbrev pub keep_answer : StageOf → Result Bool LinkFault
keep_answer NotStarted = Ok false
keep_answer (Started state) = Ok true
keep_answer Closed = Err fault.Closed

abbrev pub kept_bytes : StageOf → ℕ → Bool → List ℕ
kept_bytes NotStarted clock want = []
kept_bytes (Started state) clock want = keep_bytes state clock want
kept_bytes Closed clock want = []

-- ---- the end: what has started ends with CopyDone

abbrev pub done_answer : StageOf → Result (Unit {0}) LinkFault
done_answer NotStarted = Ok tt
done_answer (Started state) = Ok tt
done_answer Closed = Err fault.Closed

abbrev pub done_bytes : StageOf → List ℕ
done_bytes NotStarted = []
done_bytes (Started state) = copy_done
done_bytes Closed = []

-- ---- queries

-- the number of the commit that it takes next
abbrev pub next_of : StageOf → Option ℕ
next_of NotStarted = None
next_of (Started state) = Some (state.done + 1)
next_of Closed = None

-- the sent position
abbrev pub sent_of : StageOf → Option ℕ
sent_of NotStarted = None
sent_of (Started state) = Some state.sent
sent_of Closed = None
