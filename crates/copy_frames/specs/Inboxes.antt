-- What a deframer keeps of the bytes that it was fed, and what it returns. The frames are those of "55.7. Message
-- Formats".
use Rattle.std.specs.Prelude.{◌≡◌, ℕ, Bool, true, false, List, [], ◌++◌, Option, Some, None, Result, Ok, Err}
use Rattle.copy_frames.specs.declared.fault.FrameFault.{FrameFault}
use Rattle.copy_frames.specs.declared.fault.FrameFault.TheVariants.{BadLength, FrameTooLong, OutOfMemory}
use Rattle.copy_frames.specs.declared.frame.Frame.{Frame}
use Rattle.copy_frames.specs.Frames.{framed, IsFrame, FrameCut, Rest, Bad, Then, cut, fault_in}

-- the limit on a frame's length, the bytes that were fed and not returned, and the fault that was returned
pub record Inbox : Type 0 where
  pub limit : ℕ
  pub bytes : List ℕ
  pub fault : Option FrameFault

-- before it was fed
abbrev pub empty_inbox : ℕ → Inbox
empty_inbox limit = record { limit = limit; bytes = []; fault = None }

-- an inbox that had no fault, after it was fed: the fault is that of the first length that no frame may have
abbrev pub with_piece : Inbox → List ℕ → Inbox
with_piece inbox piece =
    record { limit = inbox.limit; bytes = inbox.bytes ++ piece; fault = fault_in inbox.limit (inbox.bytes ++ piece) }

-- if memory was refused, nothing is kept of the piece
abbrev pub without_memory : Inbox → Inbox
without_memory inbox = record { limit = inbox.limit; bytes = inbox.bytes; fault = Some OutOfMemory }

-- what feeding returns
abbrev pub answer_of : Option FrameFault → Result (Unit {0}) FrameFault
answer_of None = Ok tt
answer_of (Some fault) = Err fault

-- what feeding leaves, by the faults before and after it: after a fault nothing changes; before one the piece is
-- kept, or memory was refused
abbrev pub TakesPiece : Option FrameFault → Option FrameFault → Inbox → List ℕ → Inbox → Type 0
TakesPiece (Some fault) after old piece new = new ≡ old
TakesPiece None (Some OutOfMemory) old piece new = new ≡ without_memory old
TakesPiece None (Some BadLength) old piece new = new ≡ with_piece old piece
TakesPiece None (Some FrameTooLong) old piece new = new ≡ with_piece old piece
TakesPiece None None old piece new = new ≡ with_piece old piece

abbrev pub IsFed : Inbox → List ℕ → Inbox → Type 0
IsFed old piece new = TakesPiece old.fault new.fault old piece new

-- the first frame that was held is returned, and the rest is held, however the stream continues
pub record GivesFrame (old : Inbox) (frame : Frame) (new : Inbox) : Type 0 where
  pub spelled : old.bytes ≡ framed frame ++ new.bytes
  pub allowed : IsFrame old.limit frame
  pub cuts : (more : List ℕ) → cut old.limit (old.bytes ++ more) ≡ Then frame (cut old.limit (new.bytes ++ more))
  pub limit : new.limit ≡ old.limit
  pub fault : new.fault ≡ old.fault

abbrev pub has_frame : FrameCut → Bool
has_frame (Rest bytes) = false
has_frame (Bad fault bytes) = false
has_frame (Then frame more) = true

-- a whole frame is returned if one is held
abbrev pub Gives : Inbox → Option Frame → Inbox → Type 0
Gives old (Some frame) new = GivesFrame old frame new
Gives old None new = (new ≡ old) × (has_frame (cut old.limit old.bytes) ≡ false)
