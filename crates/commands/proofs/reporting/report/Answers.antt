use Rattle.std.proofs.Common.{◌∙◌}
use Rattle.commands.proofs.Reports.{report_is, is_silent}
use Rattle.commands.proofs.reporting.report.Goals as goal

pub returns-in-Ok-clause-written : goal.returns-in-Ok-clause-written
returns-in-Ok-clause-written g c =
    report_is c.args.failure c.as_str.result.now c.status.result c.write_report.result
    (g.W.Writer.contents c.args.writer.now) (g.W.Writer.contents c.write_report.new.writer)
    c.in_default.not-Output (c.as_str.ensures.value ∙ c.in-Ok.ensures) c.status.ensures c.write_report.ensures.written

-- nothing more is written if the writer failed
pub returns-in-Output-clause-written : goal.returns-in-Output-clause-written
returns-in-Output-clause-written g c = is_silent c.args.failure (g.W.Writer.contents c.args.writer.now) c.in-Output.is
