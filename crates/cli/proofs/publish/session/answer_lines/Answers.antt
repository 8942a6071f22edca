use Rattle.cli.proofs.Talking.{begins, goes_on, is_over, quits, stops_returned}
use Rattle.cli.specs.Incoming.{coming}
use Rattle.cli.proofs.publish.session.answer_lines.Goals as goal

pub loop-init : goal.loop-init
loop-init g c =
    begins g.P.Publishing.checked g.P.Publishing.limit (coming g.I.Read.remaining c.args.lines.now)
    (g.W.Writer.contents c.args.writer.now) _

pub loop-preserved : goal.loop-preserved
loop-preserved g c =
    let read = coming g.I.Read.remaining in
    let written = g.W.Writer.contents in
    goes_on g.P.Publishing.checked g.P.Publishing.limit (read c.args.lines.now) (read c.loop.lines)
    (read c.answer_next.new.lines) (written c.args.writer.now) (written c.loop.writer)
    (written c.answer_next.new.writer) c.args.seat.now c.loop.seat c.answer_next.new.seat c.loop.invariant
    (rw c.in-Line.is at c.in_ok-answer_next.ensures.ok)

pub returns-in_err-answer_next-clause-err : goal.returns-in_err-answer_next-clause-err
returns-in_err-answer_next-clause-err g c =
    let read = coming g.I.Read.remaining in
    let written = g.W.Writer.contents in
    stops_returned g.P.Publishing.checked g.P.Publishing.limit (read c.args.lines.now) (read c.loop.lines)
    (read c.answer_next.new.lines) (written c.args.writer.now) (written c.loop.writer)
    (written c.answer_next.new.writer) c.args.seat.now c.loop.seat c.answer_next.new.seat c.in_err-answer_next.field-0.0
    c.from_residual.result c.loop.invariant c.in_err-answer_next.ensures.err c.from_residual.ensures.1

pub returns-in-Quit-clause-ok : goal.returns-in-Quit-clause-ok
returns-in-Quit-clause-ok g c =
    let read = coming g.I.Read.remaining in
    let written = g.W.Writer.contents in
    let gone = rw c.in-Quit.is at c.in_ok-answer_next.ensures.ok in
    quits g.P.Publishing.checked g.P.Publishing.limit g.I.Reader.may_fail (read c.args.lines.now) (read c.loop.lines)
    (read c.answer_next.new.lines) (written c.args.writer.now) (written c.loop.writer)
    (written c.answer_next.new.writer) c.args.seat.now c.loop.seat c.answer_next.new.seat c.loop.invariant gone.0
    gone.1 gone.2

pub returns-in-Over-clause-ok : goal.returns-in-Over-clause-ok
returns-in-Over-clause-ok g c =
    let read = coming g.I.Read.remaining in
    let written = g.W.Writer.contents in
    let gone = rw c.in-Over.is at c.in_ok-answer_next.ensures.ok in
    is_over g.P.Publishing.checked g.P.Publishing.limit g.I.Reader.may_fail (read c.args.lines.now) (read c.loop.lines)
    (read c.answer_next.new.lines) (written c.args.writer.now) (written c.loop.writer)
    (written c.answer_next.new.writer) c.args.seat.now c.loop.seat c.answer_next.new.seat c.loop.invariant gone.0
    gone.1
