use Rattle.copy_both.specs.Refusals.{refusal_view}
use Rattle.copy_both.specs.StartOrder.{offer_view}
use Rattle.copy_both.proofs.ShortNames.{refusal_is_sent}
use Rattle.copy_both.proofs.answer.answer_slot.Goals as goal

pub refuse-requires : goal.refuse-requires
refuse-requires c =
    refusal_is_sent (offer_view c.args.offer.now) c.args.command.now c.args.slot c.publications_at-taken.result.now
    (refusal_view c.in-Some.refusal) c.requires
    c.in-Some.ensures
