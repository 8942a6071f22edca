use Rattle.commands.proofs.Writing.{first_kept, first_whole}
use Rattle.commands.specs.Output.{ended}
use Rattle.cli.specs.Telling.{listening_line}
use Rattle.cli.proofs.listening.say_listening.Goals as goal

-- the line was written, and then the flush failed
pub returns-clause-stopped : goal.returns-clause-stopped
returns-clause-stopped g c =
    let contents = g.W.Writer.contents in
    let text = ended (listening_line c.args.port) in
    first_kept text (contents c.args.writer.now) (contents c.write_line.new.writer) (contents c.flush.new.self)
    (first_whole text (contents c.args.writer.now) (contents c.write_line.new.writer)
    (rw c.in_ok-line.ensures.ok at c.in_ok-write_line.ensures.written))
    c.flush.ensures.bytes
