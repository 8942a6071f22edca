use Rattle.std.proofs.Common.{sym, ap, ◌∙◌, arith, eqb, subst}
use prog.Atomic.{either}
use Rattle.atomic_table.specs.Seated.{TableId}
use Rattle.publisher_desk.specs.SlotSights.{MayHappen, first_in}
use Rattle.publisher_desk.specs.declared.slot_sight.SlotView.{SlotView}
use Rattle.publisher_desk.proofs.SlotsKept.{adds}
use Rattle.publisher_desk.proofs.slot_history.SlotHistory.add.Goals as goal

pub compare_exchange_with-requires : goal.compare_exchange_with-requires
compare_exchange_with-requires g c =
    let i = c.self.invariant in (
      i.1 ∙ sym i.0,
      omega (arith, ap (λ (t : TableId). t.words) i.0, i.2),
      adds _ _ _ (λ n. either (eqb n 0) 0 n) _ i.4
          (subst (λ (v : SlotView). MayHappen c.args.event.now v.all (first_in v.sights).held) (sym c.self.view_is)
          c.requires.may),
    )
