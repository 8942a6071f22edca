use Rattle.std.proofs.Common.{length}
use Rattle.copy_both.specs.Voices.{voice_output}
use Rattle.senders.proofs.FlushingLemmas.{IsFlushing}
use Rattle.senders.proofs.flushing.flush.Given as goal

abbrev pub invariant-loop-writer : goal.invariant-loop-writer
invariant-loop-writer g l =
    IsFlushing (g.W.Sink.taken l.initial.writer) (g.W.Sink.taken l.writer) (g.W.Sink.has_failed l.initial.writer)
    (g.W.Sink.has_failed l.writer) (g.W.Sink.has_refused l.initial.writer) (g.W.Sink.has_refused l.writer)
    l.initial.voice l.voice

abbrev pub decreases-loop-writer : goal.decreases-loop-writer
decreases-loop-writer g l = length (voice_output l.voice)
