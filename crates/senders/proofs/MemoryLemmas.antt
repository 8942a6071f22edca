-- What is left of a piece, all of whose frames were heard before memory was refused.
use Rattle.std.proofs.Common.{ℕ, List, length, ◌++◌, sym, subst, arith, take_all}
use Rattle.std.specs.Prelude.{Bool, true, false, Option, Some, None, Err}
use Rattle.tables_log.specs.declared.book.Book.{Book}
use Rattle.copy_frames.specs.Frames.{fault_in}
use Rattle.copy_frames.specs.Inboxes.{Inbox}
use Rattle.copy_frames.specs.declared.fault.FrameFault.{FrameFault}
use Rattle.copy_frames.specs.declared.frame.Frame.{Frame}
use Rattle.copy_both.specs.Ears.{HearLeaves}
use Rattle.copy_both.specs.Hearing.{HearingOf, ServedFrom, frames_heard, is_over, link_fault, then_fault, unless_over, with_fault}
use Rattle.copy_both.specs.Listening.{Leaves, PieceLeaves, fed, held_frames, piece_heard, silence}
use Rattle.copy_both.specs.Sessions.{hearing_view, served_by}
use Rattle.copy_both.specs.declared.ear.Ear.{Ear}
use Rattle.copy_both.specs.declared.link_fault.LinkFault.{LinkFault}
use Rattle.copy_both.specs.declared.link_fault.LinkFault.TheVariants as fault
use Rattle.copy_both.specs.declared.phase.Phase.{Phase}
use Rattle.copy_both.specs.declared.phase.Phase.TheVariants as phase
use Rattle.copy_both.specs.declared.session.Session.{Session}

unless_ended : (old new : Session) (before after : Book) (h : HearingOf) (over : Bool) (fault : LinkFault)
    → Leaves old new before after (unless_over over h (with_fault fault h)) → Leaves old new before after h
unless_ended old new before after h true fault left = left
unless_ended old new before after h false fault left =
    record {
      checked = left.checked;
      started = left.started;
      confirmed = left.confirmed;
      response = left.response;
      book = left.book;
    }

without_fault : (old new : Session) (before after : Book) (h : HearingOf) (fault : Option FrameFault)
    → Leaves old new before after (then_fault fault h) → Leaves old new before after h
without_fault old new before after h None left = left
without_fault old new before after h (Some fault) left =
    unless_ended old new before after h (is_over h) (link_fault fault) left

all_frames : (inbox : Inbox) (piece : List ℕ) (sent : ℕ) (old new : Session) (before after : Book)
    → Leaves old new before after (piece_heard old before inbox piece sent)
    → PieceLeaves (Err fault.OutOfMemory) inbox piece sent old new before after
all_frames inbox piece sent old new before after left =
    let frames : List Frame = held_frames (fed inbox piece) in
    let served : ServedFrom = served_by old before in
    let start : HearingOf = hearing_view old (silence sent) before in (
      length frames,
      subst (λ (all : List Frame). Leaves old new before after (frames_heard served start all))
          (sym (take_all (length frames) frames (omega arith)))
          (without_fault old new before after (frames_heard served start frames)
          (fault_in inbox.limit (inbox.bytes ++ piece)) left),
    )

memory_part : (f : LinkFault) (inbox : Inbox) (piece : List ℕ) (sent : ℕ) (old new : Session)
    (before after : Book)
    → PieceLeaves (Err f) inbox piece sent old new before after
    → PieceLeaves (Err fault.OutOfMemory) inbox piece sent old new before after
memory_part fault.OutOfMemory inbox piece sent old new before after left = left
memory_part fault.FrameTooLong inbox piece sent old new before after left =
    all_frames inbox piece sent old new before after left
memory_part fault.BadLength inbox piece sent old new before after left =
    all_frames inbox piece sent old new before after left
memory_part (fault.Unexpected byte) inbox piece sent old new before after left =
    all_frames inbox piece sent old new before after left
memory_part (fault.BadStart state) inbox piece sent old new before after left =
    all_frames inbox piece sent old new before after left
memory_part fault.StatusAhead inbox piece sent old new before after left =
    all_frames inbox piece sent old new before after left
memory_part fault.Closed inbox piece sent old new before after left =
    all_frames inbox piece sent old new before after left

-- what is left of a piece by a fault, a refusal of memory may leave
pub memory_leaves : (now : Phase) (old new : Ear) (before after : Book) (piece : List ℕ) (sent : ℕ)
    (f : LinkFault) → HearLeaves now old new before after piece sent (Err f)
    → HearLeaves now old new before after piece sent (Err fault.OutOfMemory)
memory_leaves phase.Open old new before after piece sent f left = record {
  leaves = memory_part f old.frames piece sent old.session new.session before after left.leaves;
  phase_is = left.phase_is;
  holds = left.holds;
}
memory_leaves phase.Closed old new before after piece sent f left = left
memory_leaves phase.Lost old new before after piece sent f left = left
