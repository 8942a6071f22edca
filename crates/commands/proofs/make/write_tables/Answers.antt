use Rattle.std.proofs.Common.{rules}
use Rattle.pub_catalog.specs.CatalogView.{catalog_view}
use Rattle.commands.proofs.FindingLines.{stop_returned}
use Rattle.commands.proofs.WriteFaults.{answer_says}
use Rattle.commands.proofs.make.write_tables.Goals as goal

pub returns-in_err-all-clause-written : goal.returns-in_err-all-clause-written
returns-in_err-all-clause-written g c =
    stop_returned (catalog_view c.args.catalog.now) c.loop-number.number c.loop-number.all
    (g.W.Writer.contents c.args.writer.now) (g.W.Writer.contents c.loop-number.writer)
    (g.W.Writer.contents c.write_table.new.writer)
    c.in_err-all.field-0.0 c.from_residual.result (search rules) c.loop-number.invariant.0 c.in_err-all.ensures.stopped
    c.from_residual.ensures.1

pub returns-clause-failed : goal.returns-clause-failed
returns-clause-failed g c =
    answer_says c.loop-number.all c.if-all.result (g.W.Writer.has_failed c.args.writer.now)
    (g.W.Writer.has_failed c.loop-number.writer) (search rules) c.loop-number.invariant.1
