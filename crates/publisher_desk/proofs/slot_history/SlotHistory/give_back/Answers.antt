use Rattle.std.proofs.Common.{sym, ap, ◌∙◌, arith}
use Rattle.atomic_table.specs.Seated.{TableId}
use Rattle.publisher_desk.proofs.SlotsKept.{cuts}
use Rattle.publisher_desk.proofs.slot_history.SlotHistory.give_back.Goals as goal

pub split_seat-seat-requires : goal.split_seat-seat-requires
split_seat-seat-requires g c =
    let i = c.self.invariant in (
      i.1 ∙ sym i.0,
      omega (arith, ap (λ (t : TableId). t.words) i.0, i.2),
      cuts _ _,
    )
