use Rattle.senders.proofs.SeenLogs.{sees_same}
use Rattle.senders.proofs.sending.step_if.Goals as goal

pub returns-then-is_due-clause-sees : goal.returns-then-is_due-clause-sees
returns-then-is_due-clause-sees g c = sees_same c.args.viewer.now
