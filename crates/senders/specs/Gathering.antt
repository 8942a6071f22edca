-- The receipts and the readings of all seats, and the numbers of receipts: PostgreSQL 15, 3.4. Transactions.
use Rattle.std.specs.Prelude.{ℕ, List, [], ◌∷◌, map}
use Rattle.std.specs.List.{flat_map}
use Rattle.publisher_desk.specs.Logged.{RiseTo}
use Rattle.publisher_desk.specs.Receipts.{ReceiptOf}
use Rattle.publisher_desk.specs.Seats.{SeatOf}
use Rattle.publisher_desk.specs.declared.note.Note.{Note}
use Rattle.publisher_desk.specs.declared.note.Note.TheVariants.{Committed, Looked}
use Rattle.publisher_desk.specs.declared.note.Reading.{Reading}

-- the receipts among a seat's notes, in their order
abbrev pub receipts_in : List Note → List ReceiptOf
receipts_in [] = []
receipts_in (Committed receipt ∷ notes) = receipt ∷ receipts_in notes
receipts_in (Looked reading ∷ notes) = receipts_in notes

-- the readings among them
abbrev pub readings_in : List Note → List Reading
readings_in [] = []
readings_in (Committed receipt ∷ notes) = readings_in notes
readings_in (Looked reading ∷ notes) = reading ∷ readings_in notes

-- seat by seat
abbrev pub all_receipts : List SeatOf → List ReceiptOf
all_receipts seats = flat_map (λ (seat : SeatOf). receipts_in seat.notes) seats

abbrev pub all_readings : List SeatOf → List Reading
all_readings seats = flat_map (λ (seat : SeatOf). readings_in seat.notes) seats

abbrev pub numbers_of : List ReceiptOf → List ℕ
numbers_of receipts = map (λ (receipt : ReceiptOf). receipt.number) receipts

-- The numbers of a seat's receipts increase, and are from 1 to `high`.
abbrev pub IsRising : ℕ → List Note → Type 0
IsRising high notes = RiseTo high 0 (numbers_of (receipts_in notes))

abbrev pub IsRisingSeat : ℕ → SeatOf → Type 0
IsRisingSeat high seat = IsRising high seat.notes
