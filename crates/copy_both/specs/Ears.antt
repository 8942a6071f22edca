-- What an ear is, the half of a connection's end that hears, and what its calls return and leave ("55.4. Streaming
-- Replication Protocol").
use Rattle.std.specs.Prelude.{◌≡◌, ℕ, List, ◌++◌, Option, Some, None, Result, Err}
use Rattle.shard_checker.specs.CheckedView.{CheckedOf}
use Rattle.tables_log.specs.BookView.{book_slots}
use Rattle.tables_log.specs.Committing.{ChangesSlots, IsKept}
use Rattle.tables_log.specs.Slots.{KeepsUse, TakesUse, released}
use Rattle.tables_log.specs.declared.book.Book.{Book}
use Rattle.tables_log.specs.declared.slots.Slot.{Slot}
use Rattle.copy_both.specs.Hearing.{HearingOf, answer_of}
use Rattle.copy_both.specs.Listening.{fed, resting, piece_heard, PieceLeaves}
use Rattle.copy_both.specs.Phases.{phase_after, phase_closed}
use Rattle.copy_both.specs.Refusals.{RefusalOf, state_of, error_response}
use Rattle.copy_both.specs.Sessions.{session_checked}
use Rattle.copy_both.specs.declared.ear.Ear.{Ear}
use Rattle.copy_both.specs.declared.heard.Heard.{Heard}
use Rattle.copy_both.specs.declared.link_fault.LinkFault.{LinkFault}
use Rattle.copy_both.specs.declared.link_fault.LinkFault.TheVariants as fault
use Rattle.copy_both.specs.declared.phase.Phase.{Phase}
use Rattle.copy_both.specs.declared.phase.Phase.TheVariants as phase
use Rattle.copy_both.specs.declared.sql_state.SqlState.{SqlState}

-- ---- views

abbrev pub ear_checked : Ear → CheckedOf
ear_checked ear = session_checked ear.session

abbrev pub ear_phase : Ear → Phase
ear_phase ear = ear.phase

-- the slot that streams, and where in the log its stream starts
abbrev pub ear_started : Ear → Option (ℕ × ℕ)
ear_started ear = ear.session.started

-- the greatest position that its client confirmed; 0 if it confirmed none
abbrev pub ear_confirmed : Ear → ℕ
ear_confirmed ear = ear.session.confirmed

-- the response to a start that was refused
abbrev pub ear_refusal : Ear → List ℕ
ear_refusal ear = ear.session.response.items

-- the bytes after the last whole frame
abbrev pub ear_held : Ear → List ℕ
ear_held ear = ear.frames.bytes

-- the result of all frames of a piece
abbrev pub ear_heard : Ear → Book → List ℕ → ℕ → HearingOf
ear_heard ear book piece sent = piece_heard ear.session book ear.frames piece sent

-- ---- what stays

pub record IsSameEar (old new : Ear) : Type 0 where
  pub checked : ear_checked new ≡ ear_checked old
  pub phase_is : ear_phase new ≡ ear_phase old
  pub started : ear_started new ≡ ear_started old
  pub confirmed : ear_confirmed new ≡ ear_confirmed old
  pub refusal : ear_refusal new ≡ ear_refusal old
  pub held : ear_held new ≡ ear_held old

pub record AllStays (old new : Ear) (before after : Book) : Type 0 where
  pub ear : IsSameEar old new
  pub book : IsKept before after

-- ---- hear

-- an ear that is closed or lost hears nothing
abbrev pub answer_in : Phase → HearingOf → Result Heard LinkFault
answer_in phase.Open h = answer_of h
answer_in phase.Closed h = Err fault.Closed
answer_in phase.Lost h = Err fault.Closed

abbrev pub hear_answer : Ear → Book → List ℕ → ℕ → Result Heard LinkFault
hear_answer ear book piece sent = answer_in (ear_phase ear) (ear_heard ear book piece sent)

-- what is held by an ear that continues
abbrev pub Holds : Phase → Ear → Ear → List ℕ → Type 0
Holds phase.Open old new piece = new.frames ≡ resting (fed old.frames piece)
Holds phase.Closed old new piece = Unit {0}
Holds phase.Lost old new piece = Unit {0}

pub record HearsPiece (old new : Ear) (before after : Book) (piece : List ℕ) (sent : ℕ)
    (result : Result Heard LinkFault) : Type 0 where
  pub leaves : PieceLeaves result old.frames piece sent old.session new.session before after
  pub phase_is : ear_phase new ≡ phase_after result
  pub holds : Holds (phase_after result) old new piece

abbrev pub HearLeaves : Phase → Ear → Ear → Book → Book → List ℕ → ℕ → Result Heard LinkFault → Type 0
HearLeaves phase.Open old new before after piece sent result = HearsPiece old new before after piece sent result
HearLeaves phase.Closed old new before after piece sent result = AllStays old new before after
HearLeaves phase.Lost old new before after piece sent result = AllStays old new before after

-- one ErrorResponse with this code was added
pub record IsResponse (state : SqlState) (before after : List ℕ) : Type 0 where
  pub refusal : RefusalOf
  pub state_is : state_of refusal ≡ state
  pub response_is : after ≡ before ++ error_response refusal

-- a start that is refused is answered with it
abbrev pub IsAnsweredBy : LinkFault → List ℕ → List ℕ → Type 0
IsAnsweredBy (fault.BadStart state) before after = IsResponse state before after
IsAnsweredBy other before after = Unit {0}

-- ---- close, and lose

-- nothing more is heard
pub record EarCloses (old new : Ear) : Type 0 where
  pub checked : ear_checked new ≡ ear_checked old
  pub phase_is : ear_phase new ≡ phase_closed (ear_phase old)
  pub started : ear_started new ≡ ear_started old
  pub confirmed : ear_confirmed new ≡ ear_confirmed old
  pub refusal : ear_refusal new ≡ ear_refusal old

-- the slots without the stream, if there is one
abbrev pub slots_without : Option (ℕ × ℕ) → List Slot → List Slot
slots_without None slots = slots
slots_without (Some started) slots = released slots started.0

-- the first loss releases the slot
abbrev pub slots_after_loss : Phase → Option (ℕ × ℕ) → List Slot → List Slot
slots_after_loss phase.Open started slots = slots_without started slots
slots_after_loss phase.Closed started slots = slots_without started slots
slots_after_loss phase.Lost started slots = slots

pub record Loses (old new : Ear) (before after : Book) : Type 0 where
  pub checked : ear_checked new ≡ ear_checked old
  pub phase_is : ear_phase new ≡ phase.Lost
  pub started : ear_started new ≡ ear_started old
  pub confirmed : ear_confirmed new ≡ ear_confirmed old
  pub refusal : ear_refusal new ≡ ear_refusal old
  pub book : ChangesSlots before after (slots_after_loss (ear_phase old) (ear_started old) (book_slots before))

-- ---- laws: only the slots of the book change

-- whatever was heard
abbrev pub HearingChangesSlots : Type 0
HearingChangesSlots =
    (old new : Ear) (before after : Book) (piece : List ℕ) (sent : ℕ) (result : Result Heard LinkFault)
    → HearLeaves (ear_phase old) old new before after piece sent result → ChangesSlots before after (book_slots after)

abbrev pub LosingChangesSlots : Type 0
LosingChangesSlots = (old new : Ear) (before after : Book) → Loses old new before after
    → ChangesSlots before after (book_slots after)

-- ---- a law: which slots are in use

-- a stream that starts takes a slot that was free, and nothing else that is heard changes which are in use
abbrev pub ChangesUse : Option (ℕ × ℕ) → Option (ℕ × ℕ) → List Slot → List Slot → Type 0
ChangesUse (Some started) now old new = KeepsUse old new
ChangesUse None None old new = KeepsUse old new
ChangesUse None (Some started) old new = TakesUse old new started.0

abbrev pub StartsTakeSlots : Type 0
StartsTakeSlots =
    (old new : Ear) (before after : Book) (piece : List ℕ) (sent : ℕ) (result : Result Heard LinkFault)
    → HearLeaves (ear_phase old) old new before after piece sent result
    → ChangesUse (ear_started old) (ear_started new) (book_slots before) (book_slots after)
