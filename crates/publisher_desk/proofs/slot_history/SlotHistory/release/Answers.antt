use Rattle.std.proofs.Common.{◌++◌, ◌∷◌, [], ap, sym, ◌∙◌}
use Rattle.publisher_desk.specs.SlotEvents.{acquisitions}
use Rattle.publisher_desk.specs.declared.slot_event.SlotEvent.TheVariants.{Released}
use Rattle.publisher_desk.specs.declared.slot_sight.SlotView.{SlotView}
use Rattle.publisher_desk.proofs.OwnLemmas.{released_count}
use Rattle.publisher_desk.proofs.slot_history.SlotHistory.release.Goals as goal

pub add-requires-clause-count : goal.add-requires-clause-count
add-requires-clause-count g c =
    c.self.invariant.5 ∙ ap (λ (v : SlotView). acquisitions v.all) c.self.view_is
    ∙ sym (released_count c.args.self.now.all c.args.one)
    ∙ ap (λ (v : SlotView). acquisitions (v.all ++ Released c.args.one ∷ [])) (sym c.take_in.ensures)
