-- The states of the halves of a connection's end, the one that hears and the one that sends: both are in the same state
-- ("55.4. Streaming Replication Protocol").
use Rattle.std.specs.Prelude.{ℕ, Option, Some, None}
use Rattle.copy_both.specs.Voices as voices
use Rattle.copy_both.specs.Voices.{StageOf}
use Rattle.copy_both.specs.declared.phase.Phase.{Phase}
use Rattle.copy_both.specs.declared.phase.Phase.TheVariants as phase

-- before the start, while the slot with this number streams, and after the end
pub data StateOf : Type 0 where
  Waits : StateOf
  Streams : ℕ → StateOf
  IsOver : StateOf

abbrev pub streams_by : Option (ℕ × ℕ) → StateOf
streams_by None = Waits
streams_by (Some started) = Streams started.0

-- that of the half that hears, by what was started
abbrev pub heard_state : Phase → Option (ℕ × ℕ) → StateOf
heard_state phase.Open started = streams_by started
heard_state phase.Closed started = IsOver
heard_state phase.Lost started = IsOver

-- that of the half that sends
abbrev pub said_state : StageOf → StateOf
said_state voices.NotStarted = Waits
said_state (voices.Started state) = Streams state.slot
said_state voices.Closed = IsOver
