use Rattle.std.proofs.Common.{◌++◌, ◌∷◌, [], ap, sym, ◌∙◌}
use Rattle.publisher_desk.specs.SlotEvents.{acquisitions}
use Rattle.publisher_desk.specs.declared.slot_event.SlotEvent.TheVariants.{Acquired}
use Rattle.publisher_desk.specs.declared.slot_sight.SlotView.{SlotView}
use Rattle.publisher_desk.proofs.OwnLemmas.{acquired_count}
use Rattle.publisher_desk.proofs.slot_history.SlotHistory.acquire.Goals as goal

pub add-requires-clause-count : goal.add-requires-clause-count
add-requires-clause-count g c =
    c.requires.number ∙ sym (acquired_count c.args.self.now.all c.args.one)
    ∙ ap (λ (v : SlotView). acquisitions (v.all ++ Acquired c.args.one ∷ [])) (sym c.take_in.ensures)
