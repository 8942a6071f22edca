-- What a session keeps of its calls: its commits and what it read, in their order.
use Rattle.std.specs.Prelude.{◌≡◌, ℕ, ◌+◌, ◌<◌, ◌≤◌, ◌^◌, max, All, List, [], ◌∷◌, Some, slice_get}
use Rattle.publisher_desk.specs.Receipts.{ReceiptOf}
use Rattle.publisher_desk.specs.Sights.{StartsWith}
use Rattle.publisher_desk.specs.SlotSights.{BeginsWith}
use Rattle.publisher_desk.specs.declared.note.Note.{Note}
use Rattle.publisher_desk.specs.declared.note.Note.TheVariants.{Committed, Looked}
use Rattle.publisher_desk.specs.declared.note.Reading.{Reading}
use Rattle.publisher_desk.specs.declared.slot_event.SlotEvent.{SlotEvent}

-- A session's place at a publisher: its notes, the beginning of the log that it has seen, as receipts, and the first
-- events of slots, which it has seen.
pub record SeatOf : Type 0 where
  pub notes : List Note
  pub seen : List ReceiptOf
  pub events : List SlotEvent

-- a seat without notes, which has seen nothing
abbrev pub empty_seat : SeatOf
empty_seat = record { notes = []; seen = []; events = [] }

-- It has seen what it had seen, and perhaps more.
pub record SeesOn (old new : SeatOf) : Type 0 where
  pub log : StartsWith new.seen old.seen
  pub slots : BeginsWith new.events old.events

-- the number of a commit, or of how many commits there were when a row was read
abbrev pub note_number : Note → ℕ
note_number (Committed receipt) = receipt.number
note_number (Looked reading) = reading.number

-- how many of them are receipts
abbrev pub receipts : List Note → ℕ
receipts [] = 0
receipts (Committed receipt ∷ notes) = 1 + receipts notes
receipts (Looked reading ∷ notes) = receipts notes

-- the greatest of their numbers; 0 of none
abbrev pub highest : List Note → ℕ
highest [] = 0
highest (note ∷ notes) = max (note_number note) (highest notes)

-- Each of them is of this number or an earlier one.
abbrev pub AreUpTo : ℕ → List Note → Type 0
AreUpTo number notes = (place : ℕ) (note : Note) → slice_get notes place ≡ Some note → note_number note ≤ number

-- No row was read of fewer commits than an earlier note knows of.
abbrev pub IsForward : List Note → Type 0
IsForward notes = (earlier place : ℕ) (note : Note) (reading : Reading) → earlier < place
    → slice_get notes earlier ≡ Some note → slice_get notes place ≡ Some (Looked reading)
    → note_number note ≤ reading.number

-- the time of a commit has 64 bits
abbrev pub HasTime : Note → Type 0
HasTime (Committed receipt) = receipt.time < 2 ^ 64
HasTime (Looked reading) = Unit {0}

abbrev pub AreTimed : List Note → Type 0
AreTimed notes = All HasTime notes

-- so it is with the notes of a seat
abbrev pub IsForwardSeat : SeatOf → Type 0
IsForwardSeat seat = IsForward seat.notes

abbrev pub IsTimedSeat : SeatOf → Type 0
IsTimedSeat seat = AreTimed seat.notes

-- As many seats are free as the share has parts, and the share has no amount.
pub record AreFree (left parts amount : ℕ) : Type 0 where
  pub parts_are : parts ≡ left
  pub none : amount ≡ 0

-- A seat has one part of the ledger, whose amount is the number of its receipts. `high` is the greatest number that
-- it knows of.
pub record IsSeat (notes : List Note) (high parts amount : ℕ) : Type 0 where
  pub one : parts ≡ 1
  pub counted : amount ≡ receipts notes
  pub high_is : high ≡ highest notes
  pub forward : IsForward notes
  pub timed : AreTimed notes
