use Rattle.std.proofs.Common.{sym, ap, ◌∙◌}
use Rattle.commands.specs.Eval.Answers.{with_said, said_by}
use Rattle.commands.specs.Eval.Carriers.{carrier_view}
use Rattle.commands.proofs.Answering.{knows_one}
use Rattle.commands.proofs.Saying.{line_of-next}
use Rattle.commands.proofs.eval.answers.push_answers.Goals as goal

pub loop-number-preserved : goal.loop-number-preserved
loop-number-preserved c =
    let so_far = c.loop-number.invariant in
    let next = line_of-next c.args.row.now c.args.carriers.now c.loop-number.number c.index-carriers-number.result
    c.loop-number-test.true c.index-carriers-number.is in
    c.in_ok-push_said.ensures
    ∙ ap (λ line. with_said line (said_by c.args.row.now (carrier_view c.index-carriers-number.result))) so_far
    ∙ sym next

pub push_said-requires : goal.push_said-requires
push_said-requires c =
    knows_one c.args.carriers.now c.loop-number.number c.index-carriers-number.result c.args.row.now c.args.memo.now
    c.args.said c.loop-number-test.true c.index-carriers-number.is c.requires.memo
