use Rattle.cli.proofs.Talking.{IsSoFar}
use Rattle.cli.specs.Incoming.{coming}
use Rattle.cli.proofs.publish.session.answer_lines.Given as goal

-- the lines so far are answered
abbrev pub invariant-loop : goal.invariant-loop
invariant-loop g l =
    IsSoFar g.P.Publishing.checked g.P.Publishing.limit (coming g.I.Read.remaining l.initial.lines)
    (coming g.I.Read.remaining l.lines) (g.W.Writer.contents l.initial.writer) (g.W.Writer.contents l.writer) l.initial.seat
    l.seat
