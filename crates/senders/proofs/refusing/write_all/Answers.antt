use Rattle.senders.proofs.WritingLemmas.{writes_on}
use Rattle.senders.proofs.refusing.write_all.Goals as goal

pub loop-rest-preserved : goal.loop-rest-preserved
loop-rest-preserved g c =
    writes_on (g.W.Sink.taken c.args.writer.now) (g.W.Sink.taken c.loop-rest.writer) (g.W.Sink.taken c.refuse.new.self)
    c.args.bytes.now c.loop-rest.rest.now c.in-Ok.count c.loop-rest.invariant
    c.in-Ok.ensures.bytes
