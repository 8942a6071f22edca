use Rattle.senders.proofs.SeenLogs.{sees_on}
use Rattle.senders.proofs.sending.await_step.Goals as goal

pub returns-clause-sees : goal.returns-clause-sees
returns-clause-sees g c = sees_on c.args.viewer.now c.step_if.new.viewer c.next_step.new.viewer c.step_if.ensures.sees
    c.next_step.ensures.more
