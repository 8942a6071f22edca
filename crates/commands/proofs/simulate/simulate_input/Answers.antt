use Rattle.std.proofs.Common.{rules, ◌≡◌, Some, Ok, Err}
use Rattle.pub_catalog.specs.CatalogView.{catalog_view}
use Rattle.commands.specs.Parts.{CutTwice, three_parts}
use Rattle.commands.proofs.Simulating.{none_returned, sharding_refused, steps_made}
use Rattle.commands.specs.Simulate.Givings.{Gives}
use Rattle.commands.proofs.simulate.simulate_input.Goals as goal

pub returns-in_err-verdict-clause-ends : goal.returns-in_err-verdict-clause-ends
returns-in_err-verdict-clause-ends g c =
    let cut : CutTwice = record
    { first = c.in_ok-text.text.now; second = c.in_ok-text.certificates.now; third = c.in_ok-text.script.now } in
    let parts : three_parts c.args.input.now ≡ Some cut = search rules in
    none_returned c.args.limit c.args.input.now (g.W.Writer.contents c.args.writer.now) c.in_err-verdict.field-0.0
    c.from_residual-in_err-verdict.result (c.in_err-verdict.ensures.err c.args.input.now parts)
    c.from_residual-in_err-verdict.ensures.1

pub returns-in-Ok-clause-ends : goal.returns-in-Ok-clause-ends
returns-in-Ok-clause-ends g c =
    let cut : CutTwice = record
    { first = c.in_ok-text.text.now; second = c.in_ok-text.certificates.now; third = c.in_ok-text.script.now } in
    let parts : three_parts c.args.input.now ≡ Some cut = search rules in
    let given : Gives cut (Ok c.in-Ok.checked) c.in_ok-verdict.lines.items = rw c.in-Ok.is at
    c.in_ok-verdict.ensures.ok in
    steps_made c.args.limit c.args.input.now cut parts c.in-Ok.checked c.in_ok-verdict.lines.items
    (g.W.Writer.contents c.args.writer.now) (g.W.Writer.contents c.write_steps.new.writer) c.write_steps.result given
    c.write_steps.ensures.written

pub returns-in_ok-catalog-in-Err-clause-ends : goal.returns-in_ok-catalog-in-Err-clause-ends
returns-in_ok-catalog-in-Err-clause-ends g c =
    let cut : CutTwice = record
    { first = c.in_ok-text.text.now; second = c.in_ok-text.certificates.now; third = c.in_ok-text.script.now } in
    let parts : three_parts c.args.input.now ≡ Some cut = search rules in
    let given : Gives cut (Err c.in-Err.refusal) c.in_ok-verdict.lines.items = rw c.in-Err.is at
    c.in_ok-verdict.ensures.ok in
    let again : catalog_view c.in_ok-catalog-in-Err.catalog ≡ given.catalog =
    cc (given.reads, c.in_ok-catalog-in-Err.ensures.catalog) in
    sharding_refused c.args.limit c.args.input.now cut parts c.in-Err.refusal c.in_ok-verdict.lines.items
    (catalog_view c.in_ok-catalog-in-Err.catalog)
    (g.W.Writer.contents c.args.writer.now) (g.W.Writer.contents c.write_refused.new.writer) c.write_refused.result given
    again c.write_refused.ensures.status c.write_refused.ensures.written c.write_refused.ensures.stopped
