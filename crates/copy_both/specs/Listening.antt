-- What a piece of what a client sends does: the bytes that were held and the piece are cut into frames, and these are
-- heard ("55.4. Streaming Replication Protocol", "55.7. Message Formats").
use Rattle.std.specs.Prelude.{◌≡◌, ℕ, List, ◌++◌, take, None, Result, Ok, Err}
use Rattle.tables_log.specs.Committing.{ChangesSlots}
use Rattle.tables_log.specs.declared.book.Book.{Book}
use Rattle.copy_frames.specs.Frames.{cut, frames_of, rest_of}
use Rattle.copy_frames.specs.Inboxes.{Inbox}
use Rattle.copy_frames.specs.declared.frame.Frame.{Frame}
use Rattle.copy_both.specs.Hearing.{HearingOf, ServedFrom, with_fault, frames_heard, bytes_heard}
use Rattle.copy_both.specs.Sessions.{session_checked, served_by, hearing_view}
use Rattle.copy_both.specs.declared.heard.Heard.{Heard}
use Rattle.copy_both.specs.declared.hearing.Hearing.{Hearing}
use Rattle.copy_both.specs.declared.link_fault.LinkFault.{LinkFault}
use Rattle.copy_both.specs.declared.link_fault.LinkFault.TheVariants as fault
use Rattle.copy_both.specs.declared.session.Session.{Session}

-- nothing was heard of a piece
abbrev pub silence : ℕ → Hearing
silence sent = record { started = None; replies = 0; ended = None; sent = sent }

-- ---- frames

abbrev pub held_frames : Inbox → List Frame
held_frames inbox = frames_of (cut inbox.limit inbox.bytes)

-- all of the frames were heard, or one of them has this fault; or memory was refused after the first few
abbrev pub FramesHeard : ServedFrom → HearingOf → HearingOf → List Frame → Result (Unit {0}) LinkFault → Type 0
FramesHeard served start now frames (Ok done) = now ≡ frames_heard served start frames
FramesHeard served start now frames (Err fault.OutOfMemory) = (count : ℕ)
    × (now ≡ frames_heard served start (take count frames))
FramesHeard served start now frames (Err other) = frames_heard served start frames ≡ with_fault other now

-- what comes after the last whole frame is held
abbrev pub resting : Inbox → Inbox
resting inbox = record { limit = inbox.limit; bytes = rest_of (cut inbox.limit inbox.bytes); fault = inbox.fault }

-- ---- a piece

-- the inbox after the piece was put into it
abbrev pub fed : Inbox → List ℕ → Inbox
fed inbox piece = record inbox { bytes = inbox.bytes ++ piece }

-- the result of all that was fed
abbrev pub piece_heard : Session → Book → Inbox → List ℕ → ℕ → HearingOf
piece_heard session book inbox piece sent =
    bytes_heard (served_by session book) inbox.limit (inbox.bytes ++ piece) (hearing_view session (silence sent) book)

-- the result of the first frames, this number of them
abbrev pub part_heard : ℕ → Session → Book → Inbox → List ℕ → ℕ → HearingOf
part_heard count session book inbox piece sent =
    frames_heard (served_by session book) (hearing_view session (silence sent) book)
    (take count (held_frames (fed inbox piece)))

-- what was agreed and the book match what was heard
pub record Leaves (old new : Session) (before after : Book) (h : HearingOf) : Type 0 where
  pub checked : session_checked new ≡ session_checked old
  pub started : new.started ≡ h.started
  pub confirmed : new.confirmed ≡ h.confirmed
  pub response : new.response.items ≡ h.response
  pub book : ChangesSlots before after h.slots

-- all of the piece was heard; or memory was refused after the first few frames
abbrev pub PieceLeaves : Result Heard LinkFault → Inbox → List ℕ → ℕ → Session → Session → Book → Book → Type 0
PieceLeaves (Err fault.OutOfMemory) inbox piece sent old new before after =
    (count : ℕ) × Leaves old new before after (part_heard count old before inbox piece sent)
PieceLeaves other inbox piece sent old new before after =
    Leaves old new before after (piece_heard old before inbox piece sent)
