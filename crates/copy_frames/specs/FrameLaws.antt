-- How the frames that bytes are cut into make up the bytes, and what a deframer returns over many calls ("55.7. Message
-- Formats").
use Rattle.std.specs.Prelude.{◌≡◌, ℕ, ◌<◌, List, [], ◌∷◌, ◌++◌, slice_index}
use Rattle.std.specs.List.{flat_map}
use Rattle.copy_frames.specs.declared.frame.Frame.{Frame}
use Rattle.copy_frames.specs.declared.front.Front.TheVariants.{Part, Faulty}
use Rattle.copy_frames.specs.Frames.{framed, IsFrame, front, FrameCut, Rest, Bad, Then, cut, bytes_of, after_frames, fault_in}
use Rattle.copy_frames.specs.Inboxes.{Inbox, empty_inbox, with_piece, GivesFrame}

-- ---- bytes

abbrev pub AreBytes : List ℕ → Type 0
AreBytes bytes = (i : ℕ) → slice_index bytes i < 256

abbrev pub CutsAreSpelled : Type 0
CutsAreSpelled = (limit : ℕ) (bytes : List ℕ) → AreBytes bytes → bytes_of (cut limit bytes) ≡ bytes

abbrev pub AreFrames : ℕ → List Frame → Type 0
AreFrames limit [] = Unit {0}
AreFrames limit (frame ∷ frames) = IsFrame limit frame × AreFrames limit frames

abbrev pub SpelledAreCut : Type 0
SpelledAreCut = (limit : ℕ) (frames : List Frame) (rest : List ℕ) → AreFrames limit frames
    → cut limit (flat_map framed frames ++ rest) ≡ after_frames frames (cut limit rest)

-- the frames are within the limit, and at the end there is neither a whole frame nor, without a fault, a length that no
-- frame may have
abbrev pub IsCut : ℕ → FrameCut → Type 0
IsCut limit (Rest bytes) = front limit bytes ≡ Part
IsCut limit (Bad fault bytes) = front limit bytes ≡ Faulty fault
IsCut limit (Then frame more) = IsFrame limit frame × IsCut limit more

abbrev pub CutsAreWhole : Type 0
CutsAreWhole = (limit : ℕ) (bytes : List ℕ) → IsCut limit (cut limit bytes)

-- ---- what was fed and returned

-- of the bytes that were fed these frames were returned, and the rest is held, however the stream continues
pub record HasGiven (fed : List ℕ) (given : List Frame) (inbox : Inbox) : Type 0 where
  pub bytes : fed ≡ flat_map framed given ++ inbox.bytes
  pub cuts : (more : List ℕ)
      → cut inbox.limit (fed ++ more) ≡ after_frames given (cut inbox.limit (inbox.bytes ++ more))

abbrev pub StartsGiven : Type 0
StartsGiven = (limit : ℕ) → HasGiven [] [] (empty_inbox limit)

abbrev pub FedIsGiven : Type 0
FedIsGiven = (bytes : List ℕ) (given : List Frame) (inbox : Inbox) (piece : List ℕ)
    → HasGiven bytes given inbox → HasGiven (bytes ++ piece) given (with_piece inbox piece)

abbrev pub FrameIsGiven : Type 0
FrameIsGiven = (bytes : List ℕ) (given : List Frame) (old : Inbox) (frame : Frame) (new : Inbox)
    → HasGiven bytes given old → GivesFrame old frame new → HasGiven bytes (given ++ frame ∷ []) new

abbrev pub FaultIsFirst : Type 0
FaultIsFirst = (bytes : List ℕ) (given : List Frame) (inbox : Inbox)
    → HasGiven bytes given inbox → fault_in inbox.limit bytes ≡ fault_in inbox.limit inbox.bytes
