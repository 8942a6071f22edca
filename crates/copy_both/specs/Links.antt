-- What a link is, the publisher's end of a connection, and what its calls return, send and leave: each consists of the
-- halves' calls, and what is heard is answered at once ("55.4. Streaming Replication Protocol").
use Rattle.std.specs.Prelude.{◌≡◌, ℕ, ◌==◌, if◌then◌else◌, unwrap_or, false, List, [], ◌∷◌, ◌++◌, replicate, slice_get, Option, Some, None, IsSome, Result, Ok, Err}
use Rattle.std.specs.List.{concat, flat_map}
use Rattle.shard_checker.specs.CheckedView.{CheckedOf}
use Rattle.tables_log.specs.Commits.{CommitOf}
use Rattle.tables_log.specs.declared.book.Book.{Book}
use Rattle.pgoutput_msgs.specs.Telling.{messages_for}
use Rattle.copy_frames.specs.Contents.{copy_both_response}
use Rattle.copy_both.specs.Ears.{ear_checked, ear_phase, ear_started, ear_held, ear_refusal, ear_heard, IsSameEar, EarCloses, Loses}
use Rattle.copy_both.specs.Hearing.{HeardOf, HearingOf}
use Rattle.copy_both.specs.Streams as streams
use Rattle.copy_both.specs.Streams.{Take, spelled, move_items, moved}
use Rattle.copy_both.specs.Tellings.{telling_of}
use Rattle.copy_both.specs.Voices as voices
use Rattle.copy_both.specs.Voices.{StageOf, AreReadBack, Sends, Closes, Passes, voice_checked, voice_stage, voice_output, voice_room, first_stage, taken_of, kept_bytes, done_bytes, sent_of}
use Rattle.copy_both.specs.declared.ear.Ear.{Ear}
use Rattle.copy_both.specs.declared.heard.Heard.{Heard}
use Rattle.copy_both.specs.declared.link.Link.{Link}
use Rattle.copy_both.specs.declared.link_fault.LinkFault.{LinkFault}
use Rattle.copy_both.specs.declared.link_fault.LinkFault.TheVariants as fault
use Rattle.copy_both.specs.declared.phase.Phase.TheVariants as phase
use Rattle.copy_both.specs.declared.taken.Taken.{Taken}
use Rattle.copy_both.specs.declared.taken.Taken.TheVariants as taken
use Rattle.copy_both.specs.declared.voice.Voice.{Voice}

-- ---- views

abbrev pub link_ear : Link → Ear
link_ear link = link.ear

abbrev pub link_voice : Link → Voice
link_voice link = link.voice

abbrev pub link_checked : Link → CheckedOf
link_checked link = voice_checked link.voice

-- before the start, at a place in the log, or after the end
abbrev pub link_stage : Link → StageOf
link_stage link = voice_stage link.voice

-- what was sent and not passed on
abbrev pub link_output : Link → List ℕ
link_output link = voice_output link.voice

-- how many more bytes the output holds without allocating memory
abbrev pub link_room : Link → ℕ
link_room link = voice_room link.voice

-- before the first byte
pub record IsNewLink (link : Link) (checked : CheckedOf) : Type 0 where
  pub checked_is : link_checked link ≡ checked
  pub heard_by : ear_checked (link_ear link) ≡ checked
  pub phase_is : ear_phase (link_ear link) ≡ phase.Open
  pub started : ear_started (link_ear link) ≡ None
  pub refusal : ear_refusal (link_ear link) ≡ []
  pub held : ear_held (link_ear link) ≡ []
  pub stage_is : link_stage link ≡ voices.NotStarted
  pub output : link_output link ≡ []

-- ---- what a call leaves

-- these bytes are sent, the link is then in this state, and nothing is heard
pub record LinkSays (old new : Link) (bytes : List ℕ) (stage : StageOf) : Type 0 where
  pub ear : IsSameEar (link_ear old) (link_ear new)
  pub voice : Sends (link_voice old) (link_voice new) bytes stage

-- nothing is sent, and from now on nothing is heard or sent
pub record LinkCloses (old new : Link) : Type 0 where
  pub ear : EarCloses (link_ear old) (link_ear new)
  pub voice : Closes (link_voice old) (link_voice new)

pub record LinkPasses (old new : Link) (count : ℕ) : Type 0 where
  pub ear : IsSameEar (link_ear old) (link_ear new)
  pub voice : Passes (link_voice old) (link_voice new) count
  pub room : link_output new ≡ [] → link_room new ≡ 0

-- nothing more is sent, and the first loss releases the slot
pub record LinkLoses (old new : Link) (before after : Book) : Type 0 where
  pub ear : Loses (link_ear old) (link_ear new) before after
  pub voice : Closes (link_voice old) (link_voice new)

-- ---- hear: the answers to what was heard

-- CopyBothResponse, if a stream starts
abbrev pub opening : StageOf → Option (ℕ × ℕ) → List ℕ
opening voices.NotStarted None = []
opening voices.NotStarted (Some started) = copy_both_response
opening (voices.Started state) started = []
opening voices.Closed started = []

abbrev pub begun_stage : CheckedOf → StageOf → Option (ℕ × ℕ) → StageOf
begun_stage checked voices.NotStarted None = voices.NotStarted
begun_stage checked voices.NotStarted (Some started) = first_stage checked started.0 started.1
begun_stage checked (voices.Started state) started = voices.Started state
begun_stage checked voices.Closed started = voices.Closed

-- a keepalive that requests no status, for each status that requests a reply
abbrev pub replies : StageOf → ℕ → ℕ → List (List ℕ)
replies stage count clock = replicate count (kept_bytes stage clock false)

-- CopyDone, if the client ends the stream with CopyDone, `c`
abbrev pub closing : StageOf → Option ℕ → List ℕ
closing stage None = []
closing stage (Some kind) = if kind == 99 then done_bytes stage else []

abbrev pub ended_stage : Option ℕ → StageOf → StageOf
ended_stage None stage = stage
ended_stage (Some kind) stage = voices.Closed

-- all of it, frame by frame, and the state of the link then; what is not sent is an empty frame
abbrev pub frames_after : StageOf → StageOf → Option (ℕ × ℕ) → HeardOf → ℕ → List (List ℕ)
frames_after stage begun started heard clock =
    opening stage started ∷ (replies begun heard.replies clock ++ closing begun heard.ended ∷ [])

abbrev pub frames_by : CheckedOf → StageOf → Option (ℕ × ℕ) → HeardOf → ℕ → List (List ℕ)
frames_by checked stage started heard clock = frames_after stage (begun_stage checked stage started) started heard clock

abbrev pub stage_by : CheckedOf → StageOf → Option (ℕ × ℕ) → HeardOf → StageOf
stage_by checked stage started heard = ended_stage heard.ended (begun_stage checked stage started)

abbrev pub frames_said : CheckedOf → StageOf → HearingOf → ℕ → List (List ℕ)
frames_said checked stage h clock = frames_by checked stage h.started h.heard clock

abbrev pub stage_said : CheckedOf → StageOf → HearingOf → StageOf
stage_said checked stage h = stage_by checked stage h.started h.heard

-- the first few of the frames are sent, and from now on nothing will be
pub record SendsFirst (old new : Voice) (frames : List (List ℕ)) : Type 0 where
  pub said : List (List ℕ)
  pub others : List (List ℕ)
  pub all : said ++ others ≡ frames
  pub says : Sends old new (concat said) voices.Closed

-- a start that is refused is answered with its response, and another fault with nothing; if memory is refused, the
-- first few frames are sent
abbrev pub HearSays : Link → Link → HearingOf → ℕ → Result Heard LinkFault → Type 0
HearSays old new h clock (Ok heard) =
    Sends (link_voice old) (link_voice new) (concat (frames_said (link_checked old) (link_stage old) h clock))
    (stage_said (link_checked old) (link_stage old) h)
HearSays old new h clock (Err (fault.BadStart state)) = Sends (link_voice old) (link_voice new) h.response voices.Closed
HearSays old new h clock (Err fault.OutOfMemory) =
    SendsFirst (link_voice old) (link_voice new) (frames_said (link_checked old) (link_stage old) h clock)
HearSays old new h clock (Err other) = Closes (link_voice old) (link_voice new)

-- the sent position; 0 for a link that has not started
abbrev pub link_sent : Link → ℕ
link_sent link = unwrap_or (sent_of (link_stage link)) 0

-- the result of all frames of a piece
abbrev pub link_heard : Link → Book → List ℕ → HearingOf
link_heard link book piece = ear_heard (link_ear link) book piece (link_sent link)

-- ---- take: the next commit of the log, if there is one

abbrev pub found_answer : CheckedOf → streams.StreamStateOf → Option CommitOf → Result Taken LinkFault
found_answer checked state None = Ok taken.Idle
found_answer checked state (Some commit) =
    Ok (taken_of commit.number (messages_for checked state.slot state.relation_sent commit))

abbrev pub next_answer : CheckedOf → StageOf → List CommitOf → Result Taken LinkFault
next_answer checked voices.NotStarted log = Ok taken.NotStarted
next_answer checked (voices.Started state) log = found_answer checked state (slice_get log state.done)
next_answer checked voices.Closed log = Err fault.Closed

-- the stream runs, and the log has a commit that was not taken
abbrev pub HasNext : StageOf → List CommitOf → Type 0
HasNext voices.NotStarted log = ⊥
HasNext (voices.Started state) log = IsSome (slice_get log state.done)
HasNext voices.Closed log = ⊥

abbrev pub next_bytes : CheckedOf → StageOf → List CommitOf → ℕ → List ℕ
next_bytes checked voices.NotStarted log clock = []
next_bytes checked (voices.Started state) log clock =
    flat_map spelled (move_items (telling_of checked) log state (Take clock))
next_bytes checked voices.Closed log clock = []

abbrev pub next_stage : CheckedOf → StageOf → List CommitOf → ℕ → StageOf
next_stage checked voices.NotStarted log clock = voices.NotStarted
next_stage checked (voices.Started state) log clock = voices.Started (moved (telling_of checked) log state (Take clock))
next_stage checked voices.Closed log clock = voices.Closed

abbrev pub FoundIsReadBack : CheckedOf → streams.StreamStateOf → Option CommitOf → Type 0
FoundIsReadBack checked state None = Unit {0}
FoundIsReadBack checked state (Some commit) = AreReadBack checked state commit

-- each message of the next commit of the log, if there is one, is decoded from its spelling
abbrev pub NextIsReadBack : CheckedOf → StageOf → List CommitOf → Type 0
NextIsReadBack checked voices.NotStarted log = Unit {0}
NextIsReadBack checked (voices.Started state) log = FoundIsReadBack checked state (slice_get log state.done)
NextIsReadBack checked voices.Closed log = Unit {0}
