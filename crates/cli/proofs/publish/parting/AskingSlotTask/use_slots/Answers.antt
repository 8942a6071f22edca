use Rattle.cli.proofs.EndedLemmas.{then_ended}
use Rattle.cli.proofs.SentLemmas.{then_sent}
use Rattle.cli.proofs.publish.parting.AskingSlotTask.use_slots.Goals as goal

pub loop-slot-preserved : goal.loop-slot-preserved
loop-slot-preserved c = (
  then_sent c.args.connections.now c.loop-slot.connections c.ask.new.connections c.loop-slot.invariant.0
      c.ask.ensures.sent,
  then_ended c.args.connections.now c.loop-slot.connections c.ask.new.connections c.loop-slot.invariant.1
      c.ask.ensures.ended,
)
