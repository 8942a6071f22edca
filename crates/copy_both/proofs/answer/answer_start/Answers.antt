use Rattle.std.proofs.Common.{arith, ◌≡◌, ap, ◌∙◌}
use Rattle.copy_both.specs.StartAnswers.{start_reported, sent_after}
use Rattle.copy_both.specs.StartOrder.{offer_view}
use Rattle.copy_both.proofs.FirstFrames.{query_asks}
use Rattle.copy_both.proofs.answer.answer_start.Goals as goal

pub returns-clause-asked : goal.returns-clause-asked
returns-clause-asked c =
    let query : c.args.kind ≡ 81 = omega arith in
    c.in_ok-answer_text.ensures.asked
    ∙ ap start_reported (query_asks (offer_view c.args.offer.now) c.args.kind c.args.body.now c.in-Some.text.now query
    c.in-Some.ensures)

pub returns-clause-ok : goal.returns-clause-ok
returns-clause-ok c =
    let query : c.args.kind ≡ 81 = omega arith in
    c.in_ok-answer_text.ensures.ok
    ∙ ap (sent_after c.args.response.now.items)
    (query_asks (offer_view c.args.offer.now) c.args.kind c.args.body.now c.in-Some.text.now query
    c.in-Some.ensures)
