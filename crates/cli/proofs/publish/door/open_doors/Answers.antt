use Rattle.cli.proofs.Published.{stopped_before}
use Rattle.cli.proofs.publish.door.open_doors.Goals as goal

pub returns-in_err-doors-clause-stopped : goal.returns-in_err-doors-clause-stopped
returns-in_err-doors-clause-stopped g c =
    stopped_before c.args.feed (g.W.Writer.contents c.args.writer.now) c.in_err-doors.field-0.0 c.from_residual.result
    c.in_err-doors.ensures.err c.from_residual.ensures.1

pub returns-in_err-note_ports-clause-stopped : goal.returns-in_err-note_ports-clause-stopped
returns-in_err-note_ports-clause-stopped g c =
    stopped_before c.args.feed (g.W.Writer.contents c.args.writer.now) c.in_err-note_ports.field-0.0
    c.from_residual-in_err-note_ports.result c.in_err-note_ports.ensures c.from_residual-in_err-note_ports.ensures.1
