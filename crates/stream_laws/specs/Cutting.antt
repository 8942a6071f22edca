-- Which frames of a stream are whole in a first part of its bytes: PostgreSQL 15, 55.7. Message Formats.
use Rattle.std.specs.Prelude.{◌≡◌, ℕ, ◌-◌, nat_le, Bool, true, false, List, [], ◌∷◌, ◌++◌, map, length}
use Rattle.std.specs.List.{flat_map}
use Rattle.copy_frames.specs.FrameLaws.{AreFrames}
use Rattle.copy_frames.specs.Frames.{Rest, framed, cut, after_frames}
use Rattle.copy_frames.specs.declared.frame.Frame.{Frame}
use Rattle.copy_both.specs.Streams.{StreamItem, frame_in, spelled}

-- one whose frame is whole, and those after it
abbrev pub if_whole : {X : Type 0} → Bool → X → List X → List X
if_whole true first others = first ∷ others
if_whole false first others = []

-- of those that have these frames, one after another, those whose frames are whole in this number of bytes
abbrev pub whole_by : {X : Type 0} → (X → Frame) → ℕ → List X → List X
whole_by frame count [] = []
whole_by frame count (first ∷ others) =
    if_whole (nat_le (length (framed (frame first))) count) first
    (whole_by frame (count - length (framed (frame first))) others)

abbrev pub whole_in : ℕ → List StreamItem → List StreamItem
whole_in count items = whole_by frame_in count items

-- these bytes are the frames that are whole in them, and a rest that is not a whole frame
pub record IsCutBy {X : Type 0} (frame : X → Frame) (limit : ℕ) (all : List X) (bytes : List ℕ) : Type 0 where
  pub rest : List ℕ
  pub cuts : cut limit bytes ≡ after_frames (map frame (whole_by frame (length bytes) all)) (Rest rest)

abbrev pub IsCutAt : ℕ → List StreamItem → List ℕ → Type 0
IsCutAt limit items bytes = IsCutBy frame_in limit items bytes

abbrev pub FirstPartsAreCut : Type 0
FirstPartsAreCut = (limit : ℕ) (items : List StreamItem) (bytes others : List ℕ) → AreFrames limit (map frame_in items)
    → bytes ++ others ≡ flat_map spelled items → IsCutAt limit items bytes
