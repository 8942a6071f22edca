-- What is left when a deframer accepts a piece, and when what it holds is heard: PostgreSQL 15, 55.7. Message Formats.
use Rattle.std.specs.Prelude.{◌≡◌, List, ℕ, ◌++◌, Option, None}
use Rattle.copy_frames.specs.Frames.{FrameCut, fault_in, rest_of}
use Rattle.copy_frames.specs.Inboxes.{Inbox, with_piece}
use Rattle.copy_frames.specs.declared.fault.FrameFault.{FrameFault}
use Rattle.test_subscriber.specs.Feeding.{length_fault}
use Rattle.test_subscriber.specs.Frames.{MachineHeard}
use Rattle.test_subscriber.specs.Machine.{Machine, Alike}

-- the piece is held, and its fault is that of the first length that no frame may have
pub record TakesPiece (old : Inbox) (piece : List ℕ) (new : Inbox) (fault : Option FrameFault) : Type 0 where
  pub inbox : new ≡ with_piece old piece
  pub fault_is : fault ≡ fault_in old.limit (old.bytes ++ piece)

-- all is heard that was cut, up to the fault of a length, and what comes after the frames is held
pub record HearsHeld (cut : FrameCut) (heard : MachineHeard) (old new : Inbox) (machine : Machine) : Type 0 where
  pub fault : heard.fault ≡ length_fault cut
  pub reached : Alike machine heard.machine
  pub held : new.bytes ≡ rest_of cut
  pub limit : new.limit ≡ old.limit
  pub inbox_fault : new.fault ≡ old.fault

-- the same if there is no fault
pub record HearsPiece (cut : FrameCut) (heard : MachineHeard) (old new : Inbox) (machine : Machine) : Type 0 where
  pub fault : heard.fault ≡ None
  pub reached : Alike machine heard.machine
  pub held : new.bytes ≡ rest_of cut
  pub limit : new.limit ≡ old.limit
  pub inbox_fault : new.fault ≡ None
