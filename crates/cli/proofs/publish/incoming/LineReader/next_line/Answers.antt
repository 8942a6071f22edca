use Rattle.std.proofs.Common.{ap}
use Rattle.cli.proofs.LineLemmas.{line_is_last, line_is_lost, line_taken, line_waits}
use Rattle.cli.specs.Incoming.{ahead_of, coming}
use Rattle.cli.proofs.publish.incoming.LineReader.next_line.Goals as goal

pub loop-preserved : goal.loop-preserved
loop-preserved g c =
    let read = g.I.Read.remaining in
    line_waits (coming read c.args.self.now) (coming read c.take_line.new.self) (coming read c.read_more.new.self)
    c.take_line.new.line.items
    (line_taken (coming read c.args.self.now) (read c.loop.self.reader) (read c.take_line.new.self.reader)
    (ahead_of c.loop.self) (ahead_of c.take_line.new.self) c.loop.line.items c.take_line.new.line.items c.loop.invariant
    (rw c.if-branch.false at c.in_ok-take_line.ensures.moved) (ap read c.take_line.ensures.reader))
    c.read_more.ensures.kept

pub returns-in-Ok-false-clause-read : goal.returns-in-Ok-false-clause-read
returns-in-Ok-false-clause-read g c =
    let read = g.I.Read.remaining in
    let far = line_waits (coming read c.args.self.now) (coming read c.take_line.new.self) (coming read c.read_more.new.self)
    c.take_line.new.line.items
    (line_taken (coming read c.args.self.now) (read c.loop.self.reader) (read c.take_line.new.self.reader)
    (ahead_of c.loop.self) (ahead_of c.take_line.new.self) c.loop.line.items c.take_line.new.line.items c.loop.invariant
    (rw c.if-branch.false at c.in_ok-take_line.ensures.moved) (ap read c.take_line.ensures.reader))
    c.read_more.ensures.kept in
    line_is_last (coming read c.args.self.now) (coming read c.read_more.new.self) c.take_line.new.line.items far
    (c.in-Ok-false.ensures.end c.in-Ok-false.field-0-test)

pub returns-in_default : goal.returns-in_default
returns-in_default g c =
    let read = g.I.Read.remaining in
    let far = line_waits (coming read c.args.self.now) (coming read c.take_line.new.self) (coming read c.read_more.new.self)
    c.take_line.new.line.items
    (line_taken (coming read c.args.self.now) (read c.loop.self.reader) (read c.take_line.new.self.reader)
    (ahead_of c.loop.self) (ahead_of c.take_line.new.self) c.loop.line.items c.take_line.new.line.items c.loop.invariant
    (rw c.if-branch.false at c.in_ok-take_line.ensures.moved) (ap read c.take_line.ensures.reader))
    c.read_more.ensures.kept in
    record {
      read = tt;
      stopped = c.in-Err.ensures.fails;
      lost = line_is_lost (coming read c.args.self.now) (coming read c.read_more.new.self) c.take_line.new.line.items far;
    }
