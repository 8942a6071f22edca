use Rattle.std.proofs.Common.{◌∙◌, List, ℕ, subst}
use Rattle.std.specs.Io.KnownBytes.{Appends}
use Rattle.std.proofs.Common.{take}
use Rattle.senders.proofs.FlushingLemmas.{flushes_more}
use Rattle.senders.proofs.flushing.flush.Goals as goal

pub loop-writer-preserved : goal.loop-writer-preserved
loop-writer-preserved g c =
    let taken = g.W.Sink.taken in
    record {
      flushes = flushes_more (taken c.args.writer.now) (taken c.loop-writer.writer) (taken c.push.new.self)
          c.args.voice.now c.loop-writer.voice c.passed.new.self c.in_ok-count.count
          c.loop-writer.invariant.flushes
          (subst (λ (bytes : List ℕ). Appends (taken c.loop-writer.writer) (taken c.push.new.self)
          (take c.in_ok-count.count bytes)) c.output-in-loop-writer.ensures c.in_ok-count.ensures.bytes)
          c.passed.ensures.passes;
      same = c.in_ok-count.ensures.failed ∙ c.loop-writer.invariant.same;
      unrefused = c.push.ensures.refused ∙ c.loop-writer.invariant.unrefused;
    }
