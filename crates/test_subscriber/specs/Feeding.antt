-- What a subscriber does with bytes that come in pieces, which are cut into frames, and what stays when it stops:
-- PostgreSQL 15, 55.7. Message Formats.
use Rattle.std.specs.Prelude.{◌≡◌, ℕ, List, [], ◌∷◌, Option, Some, None, Ok, Err}
use Rattle.std.specs.Option.{option_map}
use Rattle.copy_frames.specs.Frames.{FrameCut, after_frames, cut_fault}
use Rattle.copy_frames.specs.declared.frame.Frame.{Frame}
use Rattle.test_subscriber.specs.Frames.{MachineHeard, hear_frame, hear_cut}
use Rattle.test_subscriber.specs.Hearing.{MachineResult}
use Rattle.test_subscriber.specs.Machine.{Machine, Alike, stopped}
use Rattle.test_subscriber.specs.declared.fault.SubFault.{SubFault}
use Rattle.test_subscriber.specs.declared.fault.SubFault.TheVariants as f
use Rattle.test_subscriber.specs.declared.phase.Phase.{Phase}
use Rattle.test_subscriber.specs.declared.phase.Phase.TheVariants.{Shut, Waiting, Idle, Busy}

-- the greatest length of a frame, which counts itself and not the kind
abbrev pub limit : ℕ
limit = 16777216

-- the fault of a length, which comes after the frames before it
abbrev pub length_fault : FrameCut → Option SubFault
length_fault cut = option_map f.Frame (cut_fault cut)

-- what was cut is heard, if there is a connection
abbrev pub hear_while : Phase → FrameCut → Machine → MachineHeard
hear_while Shut cut machine = record { machine = machine; fault = Some f.Closed }
hear_while Waiting cut machine = hear_cut cut machine
hear_while Idle cut machine = hear_cut cut machine
hear_while (Busy begin) cut machine = hear_cut cut machine

-- ---- when it stops

abbrev pub next_heard : MachineResult → (Machine → MachineResult) → MachineResult
next_heard (Err fault) more = Err fault
next_heard (Ok machine) more = more machine

-- frames one after another
abbrev pub hear_frames : List Frame → Machine → MachineResult
hear_frames [] machine = Ok machine
hear_frames (frame ∷ frames) machine = next_heard (hear_frame frame machine) (hear_frames frames)

-- what stays of a machine in this state
abbrev pub StaysOf : MachineResult → Machine → Type 0
StaysOf (Ok reached) new = Alike new (stopped reached)
StaysOf (Err fault) new = ⊥

-- at the first fault of what was cut
pub record StopsBy (fault : SubFault) (heard : MachineHeard) (new : Machine) : Type 0 where
  pub fault_is : heard.fault ≡ Some fault
  pub stays : Alike new (stopped heard.machine)

-- after the first few of the frames that were cut, none of which has a fault
pub record StopsAmong (cut : FrameCut) (old new : Machine) : Type 0 where
  pub frames : List Frame
  pub rest : FrameCut
  pub first : after_frames frames rest ≡ cut
  pub stays : StaysOf (hear_frames frames old) new

-- at the fault that is reported, and, if memory was refused, anywhere among the frames
abbrev pub StopsFor : Option SubFault → MachineHeard → FrameCut → Machine → Machine → Type 0
StopsFor None heard cut old new = StopsAmong cut old new
StopsFor (Some fault) heard cut old new = StopsBy fault heard new
