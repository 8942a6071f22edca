-- Up to where a client confirmed the log, by all of its frames that were heard ("55.4. Streaming Replication Protocol",
-- "55.7. Message Formats").
use Rattle.std.specs.Prelude.{◌≡◌, ◌≢◌, ◌<◌, ℕ, max, List, [], ◌∷◌, ◌++◌, Option, Some, None, Result, Ok, Err}
use Rattle.filter_tree.specs.Memory.{Answers}
use Rattle.shard_checker.specs.CheckedView.{CheckedOf}
use Rattle.tables_log.specs.declared.book.Book.{Book}
use Rattle.copy_frames.specs.declared.frame.Frame.{Frame}
use Rattle.copy_both.specs.Ears.{HearLeaves, ear_confirmed, ear_phase, ear_started, hear_answer}
use Rattle.copy_both.specs.Events.{event_of}
use Rattle.copy_both.specs.HeardFrames.{BooksOf, HasHeard, frames_in, reach_of}
use Rattle.copy_both.specs.Voices.{reported_fault}
use Rattle.copy_both.specs.declared.ear.Ear.{Ear}
use Rattle.copy_both.specs.declared.event.Event.{Event}
use Rattle.copy_both.specs.declared.event.Event.TheVariants as event
use Rattle.copy_both.specs.declared.heard.Heard.{Heard}
use Rattle.copy_both.specs.declared.link_fault.LinkFault.{LinkFault}
use Rattle.copy_both.specs.declared.link_fault.LinkFault.TheVariants as fault

-- the position that a status confirms; other frames confirm nothing
abbrev pub flushed_by : Result Event LinkFault → ℕ
flushed_by (Ok (event.Status status)) = status.flushed
flushed_by (Ok (event.End kind)) = 0
flushed_by (Err f) = 0

-- the greatest position that a status among these frames confirms; 0 if there is none
abbrev pub confirmed_in : List Frame → ℕ
confirmed_in [] = 0
confirmed_in (frame ∷ frames) = max (flushed_by (event_of frame.kind frame.body)) (confirmed_in frames)

abbrev pub IsStatusBy : Result Event LinkFault → Type 0
IsStatusBy (Ok (event.Status status)) = Unit {0}
IsStatusBy (Ok (event.End kind)) = ⊥
IsStatusBy (Err f) = ⊥

-- each of these frames is a status
abbrev pub AreStatuses : List Frame → Type 0
AreStatuses [] = Unit {0}
AreStatuses (frame ∷ frames) = IsStatusBy (event_of frame.kind frame.body) × AreStatuses frames

-- A client is heard no further than up to this frame: it ends the stream, and there is no fault; or it has this fault;
-- or the fault is StatusAhead, and it is a status after this position.
abbrev pub IsStop : Option LinkFault → ℕ → Result Event LinkFault → Type 0
IsStop found sent (Ok (event.Status status)) = (found ≡ Some fault.StatusAhead) × (sent < status.flushed)
IsStop found sent (Ok (event.End kind)) = found ≡ None
IsStop found sent (Err f) = found ≡ Some f

-- there is no fault, or one that a length may have
abbrev pub IsOfLength : Option LinkFault → Type 0
IsOfLength None = Unit {0}
IsOfLength (Some fault.BadLength) = Unit {0}
IsOfLength (Some fault.FrameTooLong) = Unit {0}
IsOfLength (Some fault.OutOfMemory) = Unit {0}
IsOfLength (Some other) = ⊥

-- Hearing stopped at the first of these frames. If there are none, all were heard.
abbrev pub StopsAt : Option LinkFault → ℕ → List Frame → Type 0
StopsAt found sent [] = IsOfLength found
StopsAt found sent (frame ∷ frames) = IsStop found sent (event_of frame.kind frame.body)

-- ---- all frames so far

-- the frames after the first one are statuses, and this is the greatest position that they confirm
pub record ConfirmsAll (frames : List Frame) (confirmed : ℕ) : Type 0 where
  pub first : Frame
  pub others : List Frame
  pub frames_are : frames ≡ first ∷ others
  pub statuses : AreStatuses others
  pub confirmed_is : confirmed ≡ confirmed_in others

-- before the start nothing is confirmed
abbrev pub HasConfirmedAll : Option (ℕ × ℕ) → List Frame → ℕ → Type 0
HasConfirmedAll None frames confirmed = confirmed ≡ 0
HasConfirmedAll (Some started) frames confirmed = ConfirmsAll frames confirmed

-- ---- a piece

-- these frames were not heard
abbrev pub UnheardAt : ℕ → List Frame → Option ℕ → Type 0
UnheardAt reach rest None = rest ≡ []
UnheardAt reach rest (Some kind) = (rest ≢ []) × StopsAt None reach rest

-- If memory was refused, nothing is said of them.
abbrev pub AreUnheard : ℕ → List Frame → Result Heard LinkFault → Type 0
AreUnheard reach rest (Ok heard) = UnheardAt reach rest heard.ended
AreUnheard reach rest (Err fault.OutOfMemory) = Unit {0}
AreUnheard reach rest (Err other) = StopsAt (Some other) reach rest

-- the frames after the first one that were heard are statuses, and this is the greatest position that they confirm
pub record HasConfirmed (frames : List Frame) (reach : ℕ) (result : Result Heard LinkFault) (confirmed : ℕ) : Type 0
  where
    pub first : Frame
    pub front : List Frame
    pub rest : List Frame
    pub frames_are : frames ≡ first ∷ front ++ rest
    pub statuses : AreStatuses front
    pub confirmed_is : confirmed ≡ confirmed_in front
    pub unheard : AreUnheard reach rest result

abbrev pub HasConfirmedIf : Option (ℕ × ℕ) → List Frame → ℕ → Result Heard LinkFault → ℕ → Type 0
HasConfirmedIf None frames reach result confirmed = confirmed ≡ 0
HasConfirmedIf (Some started) frames reach result confirmed = HasConfirmed frames reach result confirmed

-- a law: after each piece the ear knows the greatest position that was confirmed by what was heard
abbrev pub ConfirmationsAreHeard : Type 0
ConfirmationsAreHeard = (checked : CheckedOf) (known : BooksOf) (bytes piece : List ℕ) (old new : Ear)
    (before after : Book) (sent : ℕ) (result : Result Heard LinkFault)
    → HasHeard checked known bytes old
    → Answers (λ heard. heard) reported_fault (hear_answer old before piece sent) result
    → HearLeaves (ear_phase old) old new before after piece sent result
    → HasConfirmedAll (ear_started old) (frames_in bytes) (ear_confirmed old)
    → HasConfirmedIf (ear_started new) (frames_in (bytes ++ piece)) (reach_of old new before sent) result
    (ear_confirmed new)
