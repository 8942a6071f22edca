use Rattle.std.proofs.Common.{ap, refl, subst, sym}
use Rattle.publisher_desk.specs.Sights.{sight_of}
use Rattle.publisher_desk.specs.SlotSights.{slot_sight_of}
use Rattle.publisher_desk.specs.Viewers.{Holds, ViewerOf}
use Rattle.publisher_desk.proofs.SlotLemmas.{has_released, released_more}
use Rattle.publisher_desk.proofs.publisher.Publisher.release.Goals as goal

pub returns-clause-released : goal.returns-clause-released
returns-clause-released g c =
    has_released c.into_slot-slot.result _ c.args.viewer.now _ (slot_sight_of c.viewer.inside.slots)
    (slot_sight_of c.release.new.slots) (ap (λ (v : ViewerOf). v.held) (sym c.viewer.view_is)) refl refl refl
    (subst (λ (v : ViewerOf). Holds v.held c.into_slot-slot.result) (sym c.viewer.view_is)
    (subst (Holds c.args.viewer.now.held) (sym c.into_slot-slot.ensures) c.requires)) c.viewer.invariant.1
    c.release.ensures.released

pub returns-clause-more : goal.returns-clause-more
returns-clause-more g c =
    released_more g.P.Publishing.checked c.into_slot-slot.result _ _ c.args.viewer.now (sight_of c.viewer.inside.token) (sight_of c.release.new.token)
    (slot_sight_of c.viewer.inside.slots) (slot_sight_of c.release.new.slots) c.viewer.view_is c.release.ensures.seen
    c.release.ensures.released
