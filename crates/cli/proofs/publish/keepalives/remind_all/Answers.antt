use Rattle.cli.proofs.EndedLemmas.{then_ended}
use Rattle.cli.proofs.SentLemmas.{then_sent}
use Rattle.cli.proofs.publish.keepalives.remind_all.Goals as goal

pub loop-slot-preserved : goal.loop-slot-preserved
loop-slot-preserved c = (
  then_sent c.args.connections.now c.loop-slot.connections c.remind.new.connections c.loop-slot.invariant.0
      c.remind.ensures.sent,
  then_ended c.args.connections.now c.loop-slot.connections c.remind.new.connections c.loop-slot.invariant.1
      c.remind.ensures.ended,
)
