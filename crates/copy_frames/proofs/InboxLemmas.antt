-- What is held if no frame is whole, and what is returned then.
use Rattle.std.proofs.Common.{◌≡◌, ℕ, false, List, refl, sym, ap, ◌∙◌}
use Rattle.std.specs.Prelude.{Option, Some, None}
use Rattle.copy_frames.specs.declared.frame.Frame.{Frame}
use Rattle.copy_frames.specs.declared.front.Front.{Front}
use Rattle.copy_frames.specs.declared.front.Front.TheVariants.{Part, Faulty, Whole}
use Rattle.copy_frames.specs.Frames.{front, cut_after, cut, rest_of}
use Rattle.copy_frames.specs.Inboxes.{Inbox, Gives, has_frame}
use Rattle.copy_frames.proofs.CutLemmas.{cut_by_front}

rest_by_front : (limit : ℕ) (bytes : List ℕ) (found : Front) → has_frame (cut_after found bytes (cut limit)) ≡ false
    → rest_of (cut_after found bytes (cut limit)) ≡ bytes
rest_by_front limit bytes Part none = refl
rest_by_front limit bytes (Faulty fault) none = refl
rest_by_front limit bytes (Whole size) none = absurd cc

-- what is held is the rest
pub rest_left : (limit : ℕ) (bytes : List ℕ) → has_frame (cut limit bytes) ≡ false → rest_of (cut limit bytes) ≡ bytes
rest_left limit bytes none =
    ap rest_of (cut_by_front limit bytes)
    ∙ rest_by_front limit bytes (front limit bytes) (sym (ap has_frame (cut_by_front limit bytes)) ∙ none)

-- nothing was returned, so no frame is whole
pub gives_none : (before : Inbox) (found : Option Frame) (after : Inbox) → ((frame : Frame) → found ≡ Some frame → ⊥)
    → Gives before found after
    → (after ≡ before) × (has_frame (cut before.limit before.bytes) ≡ false)
gives_none before None after never gives = gives
gives_none before (Some frame) after never gives = absurd (never frame refl)
