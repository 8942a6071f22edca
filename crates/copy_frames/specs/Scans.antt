-- What a look at the front of bytes reveals of their frames, and how far bytes were looked through.
use Rattle.std.specs.Prelude.{◌≡◌, ℕ, ◌≤◌, List, ◌++◌, length, drop, Option}
use Rattle.copy_frames.specs.declared.fault.FrameFault.{FrameFault}
use Rattle.copy_frames.specs.declared.front.Front.{Front}
use Rattle.copy_frames.specs.declared.front.Front.TheVariants.{Part, Faulty, Whole}
use Rattle.copy_frames.specs.Frames.{framed, IsFrame, frame_of, Rest, Bad, Then, cut, fault_in}

-- the first bytes, this number of them, are a frame, however the stream continues
pub record SpellsFrame (limit : ℕ) (bytes : List ℕ) (size : ℕ) : Type 0 where
  pub least : 5 ≤ size
  pub within : size ≤ length bytes
  pub allowed : IsFrame limit (frame_of size bytes)
  pub spelled : bytes ≡ framed (frame_of size bytes) ++ drop size bytes
  pub cuts : (more : List ℕ)
      → cut limit (bytes ++ more) ≡ Then (frame_of size bytes) (cut limit (drop size bytes ++ more))

-- what the front says of all the bytes
abbrev pub Tells : ℕ → List ℕ → Front → Type 0
Tells limit bytes Part = cut limit bytes ≡ Rest bytes
Tells limit bytes (Faulty fault) = cut limit bytes ≡ Bad fault bytes
Tells limit bytes (Whole size) = SpellsFrame limit bytes size

-- up to this place there are whole frames, so that a fault can only be after it, however the stream continues
pub record Reaches (limit : ℕ) (bytes : List ℕ) (at : ℕ) : Type 0 where
  pub within : at ≤ length bytes
  pub same : (more : List ℕ) → fault_in limit (bytes ++ more) ≡ fault_in limit (drop at bytes ++ more)

-- what a look through the bytes found
pub record Scans (limit : ℕ) (bytes : List ℕ) (found : ℕ × Option FrameFault) : Type 0 where
  pub reaches : Reaches limit bytes found.0
  pub fault : found.1 ≡ fault_in limit bytes
