use Rattle.std.proofs.Common.{◌≤◌, ◌∷◌, ap, subst, ◌∙◌, arith}
use Rattle.std.specs.Prelude.{true}
use Rattle.publisher_desk.specs.SlotSights.{owned_in, slot_sight_of, slot_view}
use Rattle.publisher_desk.specs.declared.slot_sight.SlotView.{SlotView}
use Rattle.publisher_desk.proofs.slot_history.SlotHistory.compare_two.Goals as goal

pub returns-clause-single : goal.returns-clause-single
returns-clause-single g c = λ number.
    let all = subst (λ (view : SlotView). owned_in number view.sights ≤ 1)
    (c.take_in-2.ensures
    ∙ ap (λ (view : SlotView). slot_view true view.all (slot_sight_of c.args.other.now ∷ view.sights))
    c.take_in.ensures) (c.check.ensures.single number) in omega (arith, all)
