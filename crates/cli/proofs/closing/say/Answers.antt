use Rattle.std.specs.String.{string_bytes}
use Rattle.cli.proofs.Telling.{unsaid}
use Rattle.cli.proofs.closing.say.Goals as goal

pub returns : goal.returns
returns g c =
    unsaid (string_bytes c.args.line) c.args.status (g.W.Writer.contents c.args.writer.now)
    (g.W.Writer.contents c.write_line.new.writer) c.in-Err.failure c.in-Err.ensures.stopped
