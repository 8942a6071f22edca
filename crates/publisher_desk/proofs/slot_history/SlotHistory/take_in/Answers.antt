use Rattle.std.proofs.Common.{sym, ap, ◌∙◌, arith}
use Rattle.atomic_table.specs.Seated.{TableId}
use Rattle.publisher_desk.proofs.SlotsKept.{begins, joins}
use Rattle.publisher_desk.proofs.slot_history.SlotHistory.take_in.Goals as goal

pub load-requires : goal.load-requires
load-requires g c =
    let i = c.self.invariant in (
      i.1 ∙ sym i.0,
      omega (arith, ap (λ (t : TableId). t.words) i.0, i.2),
      begins _ _ _,
    )

pub join_seat-requires : goal.join_seat-requires
join_seat-requires g c =
    let i = c.self.invariant in
    let m = c.mine.invariant in (
      i.1 ∙ sym i.0,
      m.0 ∙ sym i.0,
      ap (λ me. me.1) m.1,
      omega (arith, ap (λ (t : TableId). t.words) i.0, i.2),
      joins _ _ _ _,
    )
