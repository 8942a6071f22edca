use Rattle.std.proofs.Common.{sym, subst}
use Rattle.cli.specs.Requests.{EndsRequest}
use Rattle.cli.specs.declared.requests.Request.{Request}
use Rattle.cli.proofs.program.answer.Goals as goal

-- what the request is asks for what its own function ensures

pub returns-in-Eval-clause-ends : goal.returns-in-Eval-clause-ends
returns-in-Eval-clause-ends g c =
    let contents = g.W.Writer.contents in
    λ may_fail. subst (λ (request : Request). EndsRequest may_fail request c.args.input.now (contents c.args.writer.now)
    (contents c.evaluate.new.writer) c.evaluate.result) (sym c.in-Eval.is) c.evaluate.ensures.ends

pub returns-in-Show-clause-ends : goal.returns-in-Show-clause-ends
returns-in-Show-clause-ends g c =
    let contents = g.W.Writer.contents in
    λ may_fail. subst (λ (request : Request). EndsRequest may_fail request c.args.input.now (contents c.args.writer.now)
    (contents c.show_input.new.writer) c.show_input.result) (sym c.in-Show.is) c.show_input.ensures.ends

pub returns-in-Check-clause-ends : goal.returns-in-Check-clause-ends
returns-in-Check-clause-ends g c =
    let contents = g.W.Writer.contents in
    λ may_fail. subst (λ (request : Request). EndsRequest may_fail request c.args.input.now (contents c.args.writer.now)
    (contents c.check_input.new.writer) c.check_input.result) (sym c.in-Check.is) c.check_input.ensures.ends

pub returns-in-Make-clause-ends : goal.returns-in-Make-clause-ends
returns-in-Make-clause-ends g c =
    let contents = g.W.Writer.contents in
    λ may_fail. subst (λ (request : Request). EndsRequest may_fail request c.args.input.now (contents c.args.writer.now)
    (contents c.make_input.new.writer) c.make_input.result) (sym c.in-Make.is) c.make_input.ensures.ends

pub returns-in-Simulate-clause-ends : goal.returns-in-Simulate-clause-ends
returns-in-Simulate-clause-ends g c =
    let contents = g.W.Writer.contents in
    λ may_fail. subst (λ (request : Request). EndsRequest may_fail request c.args.input.now (contents c.args.writer.now)
    (contents c.simulate_input.new.writer) c.simulate_input.result) (sym c.in-Simulate.is) c.simulate_input.ensures.ends
