-- Slots and the positions up to which they are confirmed: PostgreSQL 15, "Logical Replication", 31.2.1 Replication
-- Slot Management, and 27.2.6 Replication Slots.
use Rattle.std.specs.Prelude.{◌≡◌, ℕ, ◌≤◌, ◌==◌, max, nat_lt, Bool, true, false, List, slice_get, slice_set, Option, Some, None, if◌then◌else◌}
use Rattle.tables_log.specs.Lsn.{end_lsn_of}
use Rattle.tables_log.specs.declared.error.StartError.{StartError}
use Rattle.tables_log.specs.declared.error.StartError.TheVariants.{NoSlot, Ahead, InUse}
use Rattle.tables_log.specs.declared.slots.Slot.{Slot}

abbrev pub confirmed_of : Option Slot → ℕ
confirmed_of None = 0
confirmed_of (Some slot) = slot.confirmed

-- the confirmed position of the slot with this number; 0 if it does not exist
abbrev pub confirmed_at : List Slot → ℕ → ℕ
confirmed_at slots number = confirmed_of (slice_get slots number)

-- a stream uses those of the slots of which this is true, by their numbers, and no others
abbrev pub AreInUse : (ℕ → Bool) → List Slot → Type 0
AreInUse used slots = (number : ℕ) (slot : Slot) → slice_get slots number ≡ Some slot → slot.taken ≡ used number

-- the same, but for this slot
abbrev pub with_use : ℕ → Bool → (ℕ → Bool) → (ℕ → Bool)
with_use slot is used = λ number. if number == slot then is else used number

-- whichever slots are in use stay so
abbrev pub KeepsUse : List Slot → List Slot → Type 0
KeepsUse old new = (used : ℕ → Bool) → AreInUse used old → AreInUse used new

-- the slot with this number, which was free, is in use, and no other changes in this
pub record TakesUse (old new : List Slot) (number : ℕ) : Type 0 where
  pub slot : Slot
  pub exists : slice_get old number ≡ Some slot
  pub free : slot.taken ≡ false
  pub uses : (used : ℕ → Bool) → AreInUse used old → AreInUse (with_use number true used) new

-- no slot is confirmed after the end of a log of this number of commits
abbrev pub IsBounded : List Slot → ℕ → Type 0
IsBounded slots commits = (number : ℕ) → confirmed_at slots number ≤ end_lsn_of commits

-- ---- start

-- the first of the faults of a start: no such slot, a position after the log's end, and a slot that a stream uses
abbrev pub slot_fault : Option Slot → ℕ → ℕ → Option StartError
slot_fault None end position = Some NoSlot
slot_fault (Some slot) end position = if nat_lt end position then
    Some Ahead else (if slot.taken then Some InUse else None)

abbrev pub start_fault : List Slot → ℕ → ℕ → ℕ → Option StartError
start_fault slots end number position = slot_fault (slice_get slots number) end position

-- ---- what calls leave of the slots

abbrev pub changed : List Slot → ℕ → Option Slot → (Slot → Slot) → List Slot
changed slots number None change = slots
changed slots number (Some slot) change = slice_set slots number (change slot)

-- the slots after this is done to the one of this number
abbrev pub change_at : List Slot → ℕ → (Slot → Slot) → List Slot
change_at slots number change = changed slots number (slice_get slots number) change

abbrev pub with_stream : Bool → Slot → Slot
with_stream taken slot = record { confirmed = slot.confirmed; taken = taken }

abbrev pub started : List Slot → ℕ → List Slot
started slots number = change_at slots number (with_stream true)

abbrev pub released : List Slot → ℕ → List Slot
released slots number = change_at slots number (with_stream false)

-- a confirmed position never goes back
abbrev pub raised : ℕ → Slot → Slot
raised position slot = record { confirmed = max slot.confirmed position; taken = slot.taken }

abbrev pub confirmed_up_to : List Slot → ℕ → ℕ → List Slot
confirmed_up_to slots number position = change_at slots number (raised position)
