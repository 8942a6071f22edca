use Rattle.std.proofs.Common.{◌+◌, length, sym, ap, ◌∙◌, arith, eqb}
use prog.Atomic.{either}
use Rattle.atomic_table.specs.Seated.{TableId}
use Rattle.publisher_desk.specs.declared.sight.HistoryView.{HistoryView}
use Rattle.publisher_desk.proofs.KeptLemmas.{adds}
use Rattle.publisher_desk.proofs.history.History.add.Goals as goal

pub compare_exchange_with-requires : goal.compare_exchange_with-requires
compare_exchange_with-requires g c =
    let i = c.self.invariant in (
      i.1 ∙ sym i.0,
      omega (arith, ap (λ (t : TableId). t.words) i.0, i.2),
      adds _ _ _ (λ n. either (eqb n 0) 0 n) _ i.4 (c.requires ∙ ap (λ (v : HistoryView). length v.all + 1) (sym c.self.view_is)),
    )
