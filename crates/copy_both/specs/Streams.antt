-- What a connection sends: CopyBothResponse, and then what is taken of the log, commit by commit, and keepalives
-- ("55.4. Streaming Replication Protocol", "55.5. Logical Streaming Replication Protocol").
use Rattle.std.specs.Prelude.{ℕ, ◌+◌, ◌==◌, if◌then◌else◌, Bool, false, List, [], ◌∷◌, ◌++◌, map, replicate, slice_get, Option, Some, None}
use Rattle.std.specs.List.{flat_map}
use Rattle.tables_log.specs.Lsn.{lsn_of, end_lsn_of, commits_before}
use Rattle.copy_frames.specs.Contents.{xlog_data_body, keepalive_body}
use Rattle.copy_frames.specs.Frames.{framed}
use Rattle.copy_frames.specs.declared.frame.Frame.{Frame}
use Rattle.copy_frames.specs.declared.keepalive.Keepalive.{Keepalive}
use Rattle.copy_frames.specs.declared.xlog_data.XLogData.{XLogData}
use Rattle.pgoutput_msgs.specs.Spelling.{spelling_of}
use Rattle.pgoutput_msgs.specs.declared.message.Msg.{Msg}

-- what is sent at once, in a frame
pub data StreamItem : Type 0 where
  Response : StreamItem
  Carries : XLogData → Msg → StreamItem
  Alive : Keepalive → StreamItem

-- its frame: a CopyBothResponse of text without columns, or a CopyData
abbrev pub frame_in : StreamItem → Frame
frame_in Response = record { kind = 87; body = 0 ∷ 0 ∷ 0 ∷ [] }
frame_in (Carries head message) = record { kind = 100; body = xlog_data_body head (spelling_of message) }
frame_in (Alive keepalive) = record { kind = 100; body = keepalive_body keepalive }

abbrev pub spelled : StreamItem → List ℕ
spelled item = framed (frame_in item)

-- what is reported of commits to a subscriber: the number of a commit, from 1; its messages for the subscriber of a
-- slot, if the Relations of these tables were sent; and of which tables they were sent after it
pub record Telling (C : Type 0) : Type 0 where
  pub number : C → ℕ
  pub messages : ℕ → List Bool → C → List Msg
  pub relation_sent_after : ℕ → List Bool → C → List Bool

-- how far a stream has come: its slot, the number of commits that are done, for each table whether its Relation was
-- sent, and the sent position
pub record StreamStateOf : Type 0 where
  pub slot : ℕ
  pub done : ℕ
  pub relation_sent : List Bool
  pub sent : ℕ

-- the sent position of a stream that has sent nothing: where it starts, or where the log begins if that is 0
abbrev pub first_sent : ℕ → ℕ
first_sent start = if start == 0 then lsn_of 1 else start

-- a stream that starts at this position, before any Relation
abbrev pub state_at : ℕ → ℕ → ℕ → StreamStateOf
state_at slot tables position =
    record {
      slot = slot;
      done = commits_before position;
      relation_sent = replicate tables false;
      sent = first_sent position;
    }

-- ---- a commit is taken

-- what comes before each message of the commit with this number
abbrev pub head_of : ℕ → ℕ → XLogData
head_of number clock = record { start = lsn_of number; end = lsn_of number; clock = clock }

-- at the end of the log, nothing is taken
abbrev pub take_items : {C : Type 0} → Telling C → StreamStateOf → Option C → ℕ → List StreamItem
take_items telling state None clock = []
take_items telling state (Some commit) clock =
    map (Carries (head_of (telling.number commit) clock)) (telling.messages state.slot state.relation_sent commit)

abbrev pub take_bytes : {C : Type 0} → Telling C → StreamStateOf → C → ℕ → List ℕ
take_bytes telling state commit clock = flat_map spelled (take_items telling state (Some commit) clock)

abbrev pub state_after : {C : Type 0} → Telling C → StreamStateOf → C → StreamStateOf
state_after telling state commit =
    record {
      slot = state.slot;
      done = state.done + 1;
      relation_sent = telling.relation_sent_after state.slot state.relation_sent commit;
      sent =
          end_lsn_of (telling.number commit);
    }

-- ---- a keepalive carries the sent position

abbrev pub keep_item : StreamStateOf → ℕ → Bool → StreamItem
keep_item state clock want = Alive (record { position = state.sent; clock = clock; wants_reply = want })

abbrev pub keep_bytes : StreamStateOf → ℕ → Bool → List ℕ
keep_bytes state clock want = spelled (keep_item state clock want)

-- ---- moves

-- the next commit is taken at this clock, or a keepalive is sent at this clock, which may request a status
pub data Move : Type 0 where
  Take : ℕ → Move
  Keep : ℕ → Bool → Move

abbrev pub taken_state : {C : Type 0} → Telling C → StreamStateOf → Option C → StreamStateOf
taken_state telling state None = state
taken_state telling state (Some commit) = state_after telling state commit

abbrev pub move_items : {C : Type 0} → Telling C → List C → StreamStateOf → Move → List StreamItem
move_items telling log state (Take clock) = take_items telling state (slice_get log state.done) clock
move_items telling log state (Keep clock want) = keep_item state clock want ∷ []

abbrev pub moved : {C : Type 0} → Telling C → List C → StreamStateOf → Move → StreamStateOf
moved telling log state (Take clock) = taken_state telling state (slice_get log state.done)
moved telling log state (Keep clock want) = state

abbrev pub all_items : {C : Type 0} → Telling C → List C → StreamStateOf → List Move → List StreamItem
all_items telling log state [] = []
all_items telling log state (move ∷ moves) =
    move_items telling log state move ++ all_items telling log (moved telling log state move) moves

abbrev pub all_moved : {C : Type 0} → Telling C → List C → StreamStateOf → List Move → StreamStateOf
all_moved telling log state [] = state
all_moved telling log state (move ∷ moves) = all_moved telling log (moved telling log state move) moves

-- what a connection sends that starts at this position and makes these moves, and its bytes
abbrev pub stream_items : {C : Type 0} → Telling C → List C → ℕ → ℕ → ℕ → List Move → List StreamItem
stream_items telling log slot tables position moves =
    Response ∷ all_items telling log (state_at slot tables position) moves

abbrev pub stream : {C : Type 0} → Telling C → List C → ℕ → ℕ → ℕ → List Move → List ℕ
stream telling log slot tables position moves = flat_map spelled (stream_items telling log slot tables position moves)
