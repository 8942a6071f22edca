-- What an ear hears changes only the slots of the book.
use Rattle.std.proofs.Common.{ℕ, List, refl}
use Rattle.std.specs.Prelude.{Result, Ok, Err}
use Rattle.tables_log.specs.BookView.{book_slots}
use Rattle.tables_log.specs.Committing.{ChangesSlots}
use Rattle.tables_log.specs.declared.book.Book.{Book}
use Rattle.tables_log.specs.declared.slots.Slot.{Slot}
use Rattle.copy_frames.specs.Inboxes.{Inbox}
use Rattle.copy_both.specs.Ears.{HearLeaves, HearingChangesSlots, LosingChangesSlots, ear_phase}
use Rattle.copy_both.specs.Listening.{PieceLeaves}
use Rattle.copy_both.specs.declared.ear.Ear.{Ear}
use Rattle.copy_both.specs.declared.heard.Heard.{Heard}
use Rattle.copy_both.specs.declared.link_fault.LinkFault.{LinkFault}
use Rattle.copy_both.specs.declared.link_fault.LinkFault.TheVariants as fault
use Rattle.copy_both.specs.declared.phase.Phase.{Phase}
use Rattle.copy_both.specs.declared.phase.Phase.TheVariants as phase
use Rattle.copy_both.specs.declared.session.Session.{Session}

to_its_own : (before after : Book) (slots : List Slot) → ChangesSlots before after slots
    → ChangesSlots before after (book_slots after)
to_its_own before after slots changes = record {
  checked = changes.checked;
  limit = changes.limit;
  rows = changes.rows;
  log = changes.log;
  slots_are = refl;
}

by_piece : (result : Result Heard LinkFault) (inbox : Inbox) (piece : List ℕ) (sent : ℕ) (old new : Session)
    (before after : Book)
    → PieceLeaves result inbox piece sent old new before after → ChangesSlots before after (book_slots after)
by_piece (Ok heard) inbox piece sent old new before after left = to_its_own before after _ left.book
by_piece (Err fault.OutOfMemory) inbox piece sent old new before after left = to_its_own before after _ left.1.book
by_piece (Err fault.FrameTooLong) inbox piece sent old new before after left = to_its_own before after _ left.book
by_piece (Err fault.BadLength) inbox piece sent old new before after left = to_its_own before after _ left.book
by_piece (Err (fault.Unexpected byte)) inbox piece sent old new before after left = to_its_own before after _ left.book
by_piece (Err (fault.BadStart state)) inbox piece sent old new before after left = to_its_own before after _ left.book
by_piece (Err fault.StatusAhead) inbox piece sent old new before after left = to_its_own before after _ left.book
by_piece (Err fault.Closed) inbox piece sent old new before after left = to_its_own before after _ left.book

by_phase : (p : Phase) (old new : Ear) (before after : Book) (piece : List ℕ) (sent : ℕ)
    (result : Result Heard LinkFault)
    → HearLeaves p old new before after piece sent result → ChangesSlots before after (book_slots after)
by_phase phase.Open old new before after piece sent result left =
    by_piece result old.frames piece sent old.session new.session before after left.leaves
by_phase phase.Closed old new before after piece sent result left = to_its_own before after _ left.book
by_phase phase.Lost old new before after piece sent result left = to_its_own before after _ left.book

pub hearing_changes_slots : HearingChangesSlots
hearing_changes_slots old new before after piece sent result left =
    by_phase (ear_phase old) old new before after piece sent result left

pub losing_changes_slots : LosingChangesSlots
losing_changes_slots old new before after loses = to_its_own before after _ loses.book
