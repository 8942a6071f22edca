-- What a link sends is its stream: what was passed on and what waits are together the stream of what it started, took
-- and kept alive ("55.4. Streaming Replication Protocol").
use Rattle.std.specs.Prelude.{◌≡◌, ℕ, Bool, false, List, [], ◌∷◌, ◌++◌, length, take, replicate, slice_get, Option, Some, None, Ok}
use Rattle.shard_checker.specs.CheckedView.{CheckedOf}
use Rattle.tables_log.specs.Commits.{CommitOf}
use Rattle.copy_both.specs.Hearing.{HearingOf}
use Rattle.copy_both.specs.Links.{link_checked, link_stage, link_output, link_voice, LinkSays, LinkPasses, HearSays, SendsFirst, closing, frames_said, next_bytes, next_stage}
use Rattle.copy_both.specs.StreamLaws.{Start, HasSent, first_state}
use Rattle.copy_both.specs.Streams.{StreamStateOf, Move, Take, Keep, moved, stream}
use Rattle.copy_both.specs.Tellings.{telling_of}
use Rattle.copy_both.specs.Voices as voices
use Rattle.copy_both.specs.Voices.{Closes, kept_bytes}
use Rattle.copy_both.specs.declared.heard.Heard.{Heard}
use Rattle.copy_both.specs.declared.link.Link.{Link}

-- what a connection did: it started here, over this log, made these moves, and passed these bytes on
pub record Run : Type 0 where
  pub checked : CheckedOf
  pub log : List CommitOf
  pub start : Start
  pub moves : List Move
  pub passed : List ℕ

abbrev pub stream_of : Run → List ℕ
stream_of run = stream (telling_of run.checked) run.log run.start.slot run.start.tables run.start.position run.moves

abbrev pub with_moves : Run → List Move → Run
with_moves run more = record run { moves = run.moves ++ more }

-- while it streams, at this place
pub record IsStreaming (link : Link) (run : Run) (state : StreamStateOf) : Type 0 where
  pub checked_is : link_checked link ≡ run.checked
  pub stage_is : link_stage link ≡ voices.Started state
  pub says : HasSent (telling_of run.checked) run.log run.start run.moves run.passed (link_output link) state

-- after the end: these bytes came after the stream
pub record HasStreamed (link : Link) (run : Run) (last : List ℕ) : Type 0 where
  pub stage_is : link_stage link ≡ voices.Closed
  pub bytes : run.passed ++ link_output link ≡ stream_of run ++ last

-- after memory was refused: a first part of that
pub record HasBegun (link : Link) (run : Run) (last : List ℕ) : Type 0 where
  pub stage_is : link_stage link ≡ voices.Closed
  pub others : List ℕ
  pub bytes : (run.passed ++ link_output link) ++ others ≡ stream_of run ++ last

-- ---- laws

-- each requested reply is a keepalive
abbrev pub replied : HearingOf → ℕ → List Move
replied h clock = replicate h.heard.replies (Keep clock false)

abbrev pub started_at : CheckedOf → ℕ × ℕ → Start
started_at checked started = record { slot = started.0; tables = length checked.catalog.tables; position = started.1 }

abbrev pub first_run : CheckedOf → List CommitOf → ℕ × ℕ → Run
first_run checked log started =
    record { checked = checked; log = log; start = started_at checked started; moves = []; passed = [] }

-- the piece starts the stream of a link that has sent nothing
pub record IsStarting (link : Link) (h : HearingOf) (started : ℕ × ℕ) (run : Run) (state : StreamStateOf) : Type 0 where
  pub waits : link_stage link ≡ voices.NotStarted
  pub silent : link_output link ≡ []
  pub started_is : h.started ≡ Some started
  pub run_is : run ≡ first_run (link_checked link) run.log started
  pub state_is : state ≡ first_state (started_at (link_checked link) started)

-- the stream runs, or the piece starts it
pub data Goes (link : Link) (h : HearingOf) (run : Run) (state : StreamStateOf) : Type 0 where
  Goes_on : IsStreaming link run state → Goes link h run state
  Starts : (started : ℕ × ℕ) → IsStarting link h started run state → Goes link h run state

-- a piece is answered, and the stream continues
abbrev pub LinkHears : Type 0
LinkHears = (old new : Link) (run : Run) (state : StreamStateOf) (h : HearingOf) (heard : Heard) (clock : ℕ)
    → Goes old h run state → h.heard.ended ≡ None → HearSays old new h clock (Ok heard)
    → IsStreaming new (with_moves run (replied h clock)) state

-- CopyDone is answered with CopyDone, which comes last
abbrev pub LinkEnds : Type 0
LinkEnds = (old new : Link) (run : Run) (state : StreamStateOf) (h : HearingOf) (heard : Heard) (clock kind : ℕ)
    → Goes old h run state → h.heard.ended ≡ Some kind → HearSays old new h clock (Ok heard)
    → HasStreamed new (with_moves run (replied h clock)) (closing (voices.Started state) (Some kind))

-- memory is refused while a piece is answered
abbrev pub LinkBreaks : Type 0
LinkBreaks = (old new : Link) (run : Run) (state : StreamStateOf) (h : HearingOf) (clock : ℕ) → Goes old h run state
    → SendsFirst (link_voice old) (link_voice new) (frames_said (link_checked old) (link_stage old) h clock)
    → HasBegun new (with_moves run (replied h clock)) (closing (voices.Started state) h.heard.ended)

-- a call that closes it sends nothing
abbrev pub LinkStops : Type 0
LinkStops = (old new : Link) (run : Run) (state : StreamStateOf) → IsStreaming old run state
    → Closes (link_voice old) (link_voice new) → HasStreamed new run []

-- a take at the end of the log is not a move
abbrev pub take_moves : Option CommitOf → ℕ → List Move
take_moves None clock = []
take_moves (Some commit) clock = Take clock ∷ []

abbrev pub LinkTakes : Type 0
LinkTakes = (old new : Link) (run : Run) (state : StreamStateOf) (clock : ℕ) → IsStreaming old run state
    → LinkSays old new (next_bytes (link_checked old) (link_stage old) run.log clock)
    (next_stage (link_checked old) (link_stage old) run.log clock)
    → IsStreaming new (with_moves run (take_moves (slice_get run.log state.done) clock))
    (moved (telling_of run.checked) run.log state (Take clock))

abbrev pub LinkKeeps : Type 0
LinkKeeps = (old new : Link) (run : Run) (state : StreamStateOf) (clock : ℕ) (want : Bool) → IsStreaming old run state
    → LinkSays old new (kept_bytes (link_stage old) clock want) (link_stage old)
    → IsStreaming new (with_moves run (Keep clock want ∷ [])) state

abbrev pub LinkPassesOn : Type 0
LinkPassesOn = (old new : Link) (run : Run) (state : StreamStateOf) (count : ℕ) → IsStreaming old run state
    → LinkPasses old new count
    → IsStreaming new (record run { passed = run.passed ++ take count (link_output old) }) state

-- after the end the rest of what waits may be passed on
abbrev pub LinkRestPassesOn : Type 0
LinkRestPassesOn = (old new : Link) (run : Run) (last : List ℕ) (count : ℕ) → HasStreamed old run last
    → LinkPasses old new count
    → HasStreamed new (record run { passed = run.passed ++ take count (link_output old) }) last

-- and also if memory was refused
abbrev pub LinkFrontPassesOn : Type 0
LinkFrontPassesOn = (old new : Link) (run : Run) (last : List ℕ) (count : ℕ) → HasBegun old run last
    → LinkPasses old new count
    → HasBegun new (record run { passed = run.passed ++ take count (link_output old) }) last

-- a log that grows does not change it
abbrev pub LogGrows : Type 0
LogGrows = (link : Link) (run : Run) (state : StreamStateOf) (more : List CommitOf) → IsStreaming link run state
    → IsStreaming link (record run { log = run.log ++ more }) state
