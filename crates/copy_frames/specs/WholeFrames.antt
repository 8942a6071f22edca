-- What bytes are as frames: whole frames, one after another, and what comes after the last of them ("55.7. Message
-- Formats").
use Rattle.std.specs.Prelude.{◌≡◌, ◌<◌, ◌≤◌, ◌⊎◌, ◌^◌, ℕ, List, ◌++◌, length, take, drop, All, Option, Some, None}
use Rattle.std.specs.Int.{from_be_bytes, w32}
use Rattle.std.specs.List.{flat_map}
use Rattle.copy_frames.specs.declared.fault.FrameFault.{FrameFault}
use Rattle.copy_frames.specs.declared.fault.FrameFault.TheVariants.{BadLength, FrameTooLong, OutOfMemory}
use Rattle.copy_frames.specs.declared.frame.Frame.{Frame}
use Rattle.copy_frames.specs.FrameLaws.{AreBytes}
use Rattle.copy_frames.specs.Frames.{framed, IsFrame, whole_frames, bytes_left, fault_in}

-- the length of a frame, which counts itself, after the byte for the kind
abbrev pub length_at : List ℕ → ℕ
length_at bytes = from_be_bytes w32 (take 4 (drop 1 bytes))

-- as a signed number, a length is at least 4
abbrev pub IsLength : ℕ → Type 0
IsLength size = (4 ≤ size) × (size < 2 ^ 31)

-- What is no whole frame: without a fault, its head is not there, or not all that its length counts; with a fault, no
-- frame has its length, or it is above the limit.
abbrev pub IsRest : ℕ → List ℕ → Option FrameFault → Type 0
IsRest limit bytes None = (length bytes < 5)
    ⊎ (IsLength (length_at bytes) × ((length_at bytes ≤ limit) × (length bytes ≤ length_at bytes)))
IsRest limit bytes (Some BadLength) = (5 ≤ length bytes) × ((length_at bytes < 4) ⊎ (2 ^ 31 ≤ length_at bytes))
IsRest limit bytes (Some FrameTooLong) = (5 ≤ length bytes) × (IsLength (length_at bytes) × (limit < length_at bytes))
IsRest limit bytes (Some OutOfMemory) = ⊥

-- the bytes are the spellings of these frames, one after another, and then the rest, which has this fault, if any
pub record AreMadeOf (limit : ℕ) (bytes : List ℕ) (frames : List Frame) (rest : List ℕ)
    (fault : Option FrameFault) : Type 0 where
  pub spelled : bytes ≡ flat_map framed frames ++ rest
  pub whole : All (IsFrame limit) frames
  pub rest_is : IsRest limit rest fault

-- ---- laws

abbrev pub BytesAreFrames : Type 0
BytesAreFrames = (limit : ℕ) (bytes : List ℕ) → AreBytes bytes
    → AreMadeOf limit bytes (whole_frames limit bytes) (bytes_left limit bytes) (fault_in limit bytes)

-- they are made of no other frames
abbrev pub OnlyOfThese : Type 0
OnlyOfThese = (limit : ℕ) (bytes : List ℕ) (frames : List Frame) (rest : List ℕ) (fault : Option FrameFault)
    → AreMadeOf limit bytes frames rest fault
    → (whole_frames limit bytes ≡ frames) × ((bytes_left limit bytes ≡ rest) × (fault_in limit bytes ≡ fault))
