-- The state of an ear, the half of a connection's end that hears, and what holds of one that hears ("55.4. Streaming
-- Replication Protocol").
use Rattle.std.specs.Prelude.{◌≡◌, ℕ, List, [], Option, Some, None, Result, Ok, Err}
use Rattle.copy_frames.specs.Inboxes.{Inbox}
use Rattle.copy_both.specs.declared.heard.Heard.{Heard}
use Rattle.copy_both.specs.declared.link_fault.LinkFault.{LinkFault}
use Rattle.copy_both.specs.declared.phase.Phase.{Phase}
use Rattle.copy_both.specs.declared.phase.Phase.TheVariants as phase

-- ---- the state after a call

-- a fault or an end closes it
abbrev pub phase_by : Option ℕ → Phase
phase_by None = phase.Open
phase_by (Some kind) = phase.Closed

abbrev pub phase_after : Result Heard LinkFault → Phase
phase_after (Ok heard) = phase_by heard.ended
phase_after (Err fault) = phase.Closed

-- what is lost stays so
abbrev pub phase_closed : Phase → Phase
phase_closed phase.Open = phase.Closed
phase_closed phase.Closed = phase.Closed
phase_closed phase.Lost = phase.Lost

-- ---- an ear that hears

-- it has met no fault and refused no start; the length of a frame towards the publisher is at most 65,536
pub record IsReady (inbox : Inbox) (refusal : List ℕ) : Type 0 where
  pub limit : inbox.limit ≡ 65536
  pub fault : inbox.fault ≡ None
  pub silent : refusal ≡ []

abbrev pub FitsPhase : Phase → Inbox → List ℕ → Type 0
FitsPhase now inbox refusal = now ≡ phase.Open → IsReady inbox refusal
