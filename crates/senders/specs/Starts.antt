-- What the starts of all connections, and the slots in the end, are checked for: PostgreSQL 15, "Logical Replication",
-- 31.2.1 Replication Slot Management.
use Rattle.std.specs.Prelude.{◌<◌, ℕ, List}
use Rattle.tables_log.specs.declared.slots.Slot.{Slot}
use Rattle.senders.specs.Reached.{AllEndReached, AreReached, IsAccounted, IsOrder, LacksConnection}
use Rattle.senders.specs.Results.{ServedOf}
use Rattle.senders.specs.declared.close_error.CloseError.{CloseError}
use Rattle.senders.specs.declared.close_error.CloseError.TheVariants.{CountDiffers, ReceiptMissing, ReadingWrong, TakenDiffers, ConnectionMissing, StartLate, SlotDiffers, OutOfMemory}

-- ---- one slot

-- The log's first commits, this number of them, are accounted for by connections of the slot, and the next one is not.
pub record IsReach (order : List ServedOf) (slot reach : ℕ) : Type 0 where
  pub all : (count : ℕ) → count < reach → IsAccounted order slot count
  pub next : ¬ IsAccounted order slot reach

-- ---- all slots

-- In the order of the connections each slot is reached, and each is confirmed in the end no further than they account
-- for.
pub record AreInTime (count : ℕ) (slots : List Slot) (acquired : ℕ) (served : List ServedOf) : Type 0 where
  pub starts : List ServedOf
  pub ordered : IsOrder acquired served starts
  pub reached : AreReached count starts
  pub kept : AllEndReached count slots starts

-- `so` holds of the connections in their order, for this number of slots.
pub record AreOrdered (count acquired : ℕ) (served : List ServedOf) (so : ℕ → List ServedOf → Type 0) : Type 0 where
  pub starts : List ServedOf
  pub ordered : IsOrder acquired served starts
  pub are : so count starts

-- the cause of an error
abbrev pub IsStartCause : ℕ → List Slot → ℕ → List ServedOf → CloseError → Type 0
IsStartCause count slots acquired served CountDiffers = ⊥
IsStartCause count slots acquired served ReceiptMissing = ⊥
IsStartCause count slots acquired served ReadingWrong = ⊥
IsStartCause count slots acquired served TakenDiffers = ⊥
IsStartCause count slots acquired served ConnectionMissing = LacksConnection acquired served
IsStartCause count slots acquired served StartLate =
    AreOrdered count acquired served (λ n starts. ¬ AreReached n starts)
IsStartCause count slots acquired served SlotDiffers =
    AreOrdered count acquired served (λ n starts. AreReached n starts × ¬ AllEndReached n slots starts)
IsStartCause count slots acquired served OutOfMemory = Unit {0}
