use Rattle.std.proofs.Common.{sym, ap, ◌∙◌, arith}
use Rattle.atomic_table.specs.Seated.{TableId}
use Rattle.publisher_desk.proofs.SlotsKept.{shows}
use Rattle.publisher_desk.proofs.slot_history.SlotHistory.show.Goals as goal

pub load-requires : goal.load-requires
load-requires g c =
    let i = c.self.invariant in (
      i.1 ∙ sym i.0,
      omega (arith, ap (λ (t : TableId). t.words) i.0, i.2),
      shows _ _ _ i.4,
    )
