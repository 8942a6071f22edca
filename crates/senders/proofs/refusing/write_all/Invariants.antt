use Rattle.std.proofs.Common.{length}
use Rattle.senders.proofs.WritingLemmas.{IsWriting}
use Rattle.senders.proofs.refusing.write_all.Given as goal

abbrev pub invariant-loop-rest : goal.invariant-loop-rest
invariant-loop-rest g l = IsWriting (g.W.Sink.taken l.initial.writer) (g.W.Sink.taken l.writer) l.bytes l.rest

abbrev pub decreases-loop-rest : goal.decreases-loop-rest
decreases-loop-rest g l = length l.rest
