-- Frames of a connection, and how bytes are cut into them. A frame is one byte for its kind, a number of 32 bits that
-- counts itself and the body, and the body ("55.7. Message Formats").
use Rattle.std.specs.Prelude.{ℕ, zero, suc, ◌+◌, ◌^◌, ◌<◌, ◌≤◌, nat_lt, if◌then◌else◌, List, [], ◌∷◌, ◌++◌, length, take, drop, slice_index, Option, Some, None}
use Rattle.std.specs.Int.{to_be_bytes, from_be_bytes, w32}
use Rattle.copy_frames.specs.declared.fault.FrameFault.{FrameFault}
use Rattle.copy_frames.specs.declared.fault.FrameFault.TheVariants.{BadLength, FrameTooLong}
use Rattle.copy_frames.specs.declared.frame.Frame.{Frame}
use Rattle.copy_frames.specs.declared.front.Front.{Front}
use Rattle.copy_frames.specs.declared.front.Front.TheVariants.{Part, Faulty, Whole}

-- the bytes of a frame
abbrev pub framed : Frame → List ℕ
framed frame = frame.kind ∷ (to_be_bytes w32 (length frame.body + 4) ++ frame.body)

-- the length of the frame, which counts itself and not the kind, is within the limit
pub record IsFrame (limit : ℕ) (frame : Frame) : Type 0 where
  pub within : length frame.body + 4 ≤ limit
  pub signed : length frame.body + 4 < 2 ^ 31

-- what is at the front of this number of bytes if the first frame's length is `size`: a length is a signed number, so
-- that one of 2^31 or more is less than 4
abbrev pub sized : ℕ → ℕ → ℕ → Front
sized limit size there =
    if nat_lt size 4 then Faulty BadLength else
    if nat_lt size (2 ^ 31) then
    (if nat_lt limit size then Faulty FrameTooLong else if nat_lt there (size + 1) then
    Part else Whole (size + 1)) else
    Faulty BadLength

-- what is at the front of some bytes, if the length of a frame is at most `limit`
unfoldable pub front : ℕ → List ℕ → Front
front limit bytes = if nat_lt (length bytes) 5 then
    Part else sized limit (from_be_bytes w32 (take 4 (drop 1 bytes))) (length bytes)

-- the frame that this number of bytes at the front are
abbrev pub frame_of : ℕ → List ℕ → Frame
frame_of size bytes = record { kind = slice_index bytes 0; body = drop 5 (take size bytes) }

-- bytes as frames: a rest that is not a whole frame, a length that no frame may have with what follows it, or a frame
-- and what comes after it
pub data FrameCut : Type 0 where
  Rest : List ℕ → FrameCut
  Bad : FrameFault → List ℕ → FrameCut
  Then : Frame → FrameCut → FrameCut

-- how bytes with this front are cut; `more` cuts the rest
abbrev pub cut_after : Front → List ℕ → (List ℕ → FrameCut) → FrameCut
cut_after Part bytes more = Rest bytes
cut_after (Faulty fault) bytes more = Bad fault bytes
cut_after (Whole size) bytes more = Then (frame_of size bytes) (more (drop size bytes))

-- at most this number of frames
abbrev pub cut_some : ℕ → ℕ → List ℕ → FrameCut
cut_some limit zero bytes = Rest bytes
cut_some limit (suc n) bytes = cut_after (front limit bytes) bytes (cut_some limit n)

-- the frames of some bytes; there are no more frames than bytes
unfoldable pub cut : ℕ → List ℕ → FrameCut
cut limit bytes = cut_some limit (length bytes) bytes

-- the bytes that were cut
abbrev pub bytes_of : FrameCut → List ℕ
bytes_of (Rest bytes) = bytes
bytes_of (Bad fault bytes) = bytes
bytes_of (Then frame more) = framed frame ++ bytes_of more

-- the frames before the rest
abbrev pub frames_of : FrameCut → List Frame
frames_of (Rest bytes) = []
frames_of (Bad fault bytes) = []
frames_of (Then frame more) = frame ∷ frames_of more

-- what comes after the last whole frame
abbrev pub rest_of : FrameCut → List ℕ
rest_of (Rest bytes) = bytes
rest_of (Bad fault bytes) = bytes
rest_of (Then frame more) = rest_of more

-- the fault of a length, after the frames before it
abbrev pub cut_fault : FrameCut → Option FrameFault
cut_fault (Rest bytes) = None
cut_fault (Bad fault bytes) = Some fault
cut_fault (Then frame more) = cut_fault more

-- these frames, and then the cut
abbrev pub after_frames : List Frame → FrameCut → FrameCut
after_frames [] last = last
after_frames (frame ∷ frames) last = Then frame (after_frames frames last)

-- the fault of the first length that no frame may have
abbrev pub fault_in : ℕ → List ℕ → Option FrameFault
fault_in limit bytes = cut_fault (cut limit bytes)

-- the whole frames at the front of bytes, and what comes after them
abbrev pub whole_frames : ℕ → List ℕ → List Frame
whole_frames limit bytes = frames_of (cut limit bytes)

abbrev pub bytes_left : ℕ → List ℕ → List ℕ
bytes_left limit bytes = rest_of (cut limit bytes)
