use Rattle.cli.proofs.LineLemmas.{IsReading}
use Rattle.cli.specs.Incoming.{coming}
use Rattle.cli.proofs.publish.parts.read_lines.Given as goal

-- the lines so far are read
abbrev pub invariant-loop : goal.invariant-loop
invariant-loop g l = IsReading (coming g.I.Read.remaining l.initial.lines) (coming g.I.Read.remaining l.lines) l.part.items
