use Rattle.cli.proofs.LineLemmas.{IsLineSoFar}
use Rattle.cli.specs.Incoming.{coming}
use Rattle.cli.proofs.publish.incoming.LineReader.next_line.Given as goal

-- the bytes of the line so far were read
abbrev pub invariant-loop : goal.invariant-loop
invariant-loop g l =
    IsLineSoFar (coming g.I.Read.remaining l.initial.self) (coming g.I.Read.remaining l.self) l.line.items
