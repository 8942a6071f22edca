-- What names a publisher: the ledger that counts its commits, and the history that ties receipts to its log.
use Rattle.std.specs.Prelude.{◌≡◌, ℕ, [], true}
use Rattle.atomic_table.specs.Seated.{TableId}
use Rattle.atomic_table.specs.Table.{Me}
use Rattle.publisher_desk.specs.Receipts.{ReceiptOf}
use Rattle.publisher_desk.specs.Sights.{view_of}
use Rattle.publisher_desk.specs.declared.sight.HistoryView.{HistoryView}
use Rattle.publisher_desk.specs.SlotSights.{slot_view}
use Rattle.publisher_desk.specs.declared.slot_event.SlotEvent.{SlotEvent}
use Rattle.publisher_desk.specs.declared.slot_sight.SlotView.{SlotView}

pub record NamesOf : Type 0 where
  -- of the ledger, and the number of its parts
  pub name : ℕ
  pub parts : ℕ
  -- of the history of the log, and of that of the slots
  pub history : TableId
  pub slots : TableId

-- The ledger has a part for each seat, and the history has no receipts.
pub record IsUnnamed (parts : ℕ) (table keeper : TableId) (me : Me ReceiptOf HistoryView) : Type 0 where
  pub seats : parts ≡ 1000
  pub same : table ≡ keeper
  pub word : keeper.words ≡ 1
  pub empty : me ≡ (view_of true [] [], [])

-- The history of the slots has no events.
pub record AreUnnamedSlots (table keeper : TableId) (me : Me SlotEvent SlotView) : Type 0 where
  pub same : table ≡ keeper
  pub word : keeper.words ≡ 1
  pub empty : me ≡ (slot_view true [] [], [])
