-- Up to where the client of a stream confirmed the log, by all of its frames that were heard: PostgreSQL 15, 55.4.
-- Streaming Replication Protocol, and 55.7. Message Formats.
use Rattle.std.specs.Prelude.{◌≡◌, ◌≢◌, ◌+◌, ℕ, max, true, List, [], ◌∷◌, ◌++◌, Option, Some, None, Result, Err}
use Rattle.copy_frames.specs.Frames.{fault_in}
use Rattle.copy_frames.specs.declared.frame.Frame.{Frame}
use Rattle.copy_both.specs.ConfirmedFrames.{AreStatuses, HasConfirmed, StopsAt, confirmed_in}
use Rattle.copy_both.specs.HeardFrames.{frames_in}
use Rattle.copy_both.specs.Hearing.{first_sent}
use Rattle.copy_both.specs.declared.heard.Heard.{Heard}
use Rattle.copy_both.specs.declared.link_fault.LinkFault.{LinkFault}
use Rattle.copy_both.specs.declared.link_fault.LinkFault.TheVariants as fault
use Rattle.publisher_desk.specs.SlotEvents.{KeepSlot, acquisitions, advanced_after}
use Rattle.publisher_desk.specs.declared.slot_event.Acquisition.{Acquisition}
use Rattle.publisher_desk.specs.declared.slot_event.Confirmation.{Confirmation}
use Rattle.publisher_desk.specs.declared.slot_event.SlotEvent.{SlotEvent}
use Rattle.publisher_desk.specs.declared.slot_event.SlotEvent.TheVariants.{Acquired, Confirmed}
use Rattle.senders.specs.declared.end.End.{End}
use Rattle.senders.specs.declared.end.End.TheVariants as end

-- After these events the stream whose acquisition has this number still has the slot.
pub record HasItStill (slot number : ℕ) (events : List SlotEvent) : Type 0 where
  pub first : List SlotEvent
  pub acquisition : Acquisition
  pub between : List SlotEvent
  pub events_are : events ≡ first ++ Acquired acquisition ∷ between
  pub slot_is : acquisition.slot ≡ slot
  pub number_is : number ≡ acquisitions first + 1
  pub keep : KeepSlot slot between

-- In these events a status of the client was refused, on the stream whose acquisition has this number. By then the
-- client had been sent the log up to this position, or it is the first one of the stream.
pub record IsRefusedAt (started : ℕ × ℕ) (number : ℕ) (events : List SlotEvent) (sent : ℕ) : Type 0 where
  pub before : List SlotEvent
  pub one : Confirmation
  pub after : List SlotEvent
  pub events_are : events ≡ before ++ Confirmed one ∷ after
  pub ahead : one.is_ahead ≡ true
  pub slot_is : one.slot ≡ started.0
  pub own : HasItStill started.0 number before
  pub sent_is : sent ≡ max (first_sent started.1) (advanced_after before started.0)

-- A client with this fault, or none, was heard up to these frames. A status that was ahead is after this position. If
-- memory was refused, these may be any frames.
abbrev pub StopsFor : Option LinkFault → ℕ → List Frame → Type 0
StopsFor (Some fault.OutOfMemory) sent rest = Unit {0}
StopsFor other sent rest = StopsAt other sent rest

-- The frames after the first one that were heard are statuses, and this is the greatest position that they confirm. A
-- status that was ahead is after what its client had been sent when it was refused. If all were heard without a fault,
-- no length has one either.
pub record HasReported (bytes : List ℕ) (started : ℕ × ℕ) (number : ℕ) (events : List SlotEvent)
    (found : Option LinkFault) (confirmed : ℕ) : Type 0 where
  pub first : Frame
  pub front : List Frame
  pub rest : List Frame
  pub frames_are : frames_in bytes ≡ first ∷ front ++ rest
  pub statuses : AreStatuses front
  pub confirmed_is : confirmed ≡ confirmed_in front
  pub sent : ℕ
  pub refused : found ≡ Some fault.StatusAhead → IsRefusedAt started number events sent
  pub stops : StopsFor found sent rest
  pub whole : rest ≡ [] → found ≡ None → fault_in 65536 bytes ≡ None

-- without a stream nothing is confirmed
abbrev pub ReportsIf : Option (ℕ × ℕ) → ℕ → List SlotEvent → List ℕ → Option LinkFault → ℕ → Type 0
ReportsIf None number events bytes found confirmed = confirmed ≡ 0
ReportsIf (Some started) number events bytes found confirmed =
    HasReported bytes started number events found confirmed

-- A fault that is reported as the end, other than out of memory, is that of what the client sent. Its fault is out of
-- memory only if this is the end, which may also be because its sender was refused memory.
abbrev pub FitsEnd : End → Option LinkFault → Type 0
FitsEnd (end.Link fault.OutOfMemory) found = Unit {0}
FitsEnd (end.Link f) found = found ≡ Some f
FitsEnd other found = found ≢ Some fault.OutOfMemory

-- after a piece, by what was heard
pub record ConfirmsFrom (started : ℕ × ℕ) (number : ℕ) (events : List SlotEvent) (frames : List Frame)
    (heard : Result Heard LinkFault) (confirmed : ℕ) : Type 0 where
  pub sent : ℕ
  pub refused : heard ≡ Err fault.StatusAhead → IsRefusedAt started number events sent
  pub has : HasConfirmed frames sent heard confirmed

abbrev pub ConfirmsBy : Option (ℕ × ℕ) → ℕ → List SlotEvent → List Frame → Result Heard LinkFault → ℕ → Type 0
ConfirmsBy None number events frames heard confirmed = confirmed ≡ 0
ConfirmsBy (Some started) number events frames heard confirmed =
    ConfirmsFrom started number events frames heard confirmed
