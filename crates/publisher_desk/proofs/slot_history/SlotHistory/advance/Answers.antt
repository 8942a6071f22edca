use Rattle.std.proofs.Common.{ap, sym, ◌∙◌}
use Rattle.publisher_desk.specs.SlotEvents.{acquisitions}
use Rattle.publisher_desk.specs.declared.slot_sight.SlotView.{SlotView}
use Rattle.publisher_desk.proofs.OwnLemmas.{advanced_count}
use Rattle.publisher_desk.proofs.slot_history.SlotHistory.advance.Goals as goal

pub add-requires-clause-count : goal.add-requires-clause-count
add-requires-clause-count g c =
    c.self.invariant.5 ∙ ap (λ (v : SlotView). acquisitions v.all) c.self.view_is
    ∙ sym (advanced_count c.args.self.now.all c.args.one)
