use Rattle.commands.proofs.Pieces.{IsReadSoFar}
use Rattle.commands.proofs.reading.read_bytes.Given as goal

abbrev pub invariant-loop : goal.invariant-loop
invariant-loop g l =
    IsReadSoFar g.R.Reader.may_fail l.bytes.items l.counter (g.R.Read.remaining l.initial.reader)
    (g.R.Read.remaining l.reader)
