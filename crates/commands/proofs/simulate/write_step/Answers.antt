use Rattle.pub_reader.specs.StepView.{step_view}
use Rattle.commands.proofs.ScriptLines.{step_stopped, step_unmade, step_written}
use Rattle.commands.proofs.simulate.write_step.Goals as goal

pub returns-in_err-text-clause-stopped : goal.returns-in_err-text-clause-stopped
returns-in_err-text-clause-stopped g c =
    step_unmade c.args.world.now c.step_text.new.world c.args.now (step_view c.args.step)
    (g.W.Writer.contents c.args.writer.now) c.from_residual.result c.from_residual.ensures.1

pub returns-clause-written : goal.returns-clause-written
returns-clause-written g c =
    step_written c.args.world.now c.step_text.new.world c.args.now (step_view c.args.step) c.as_str.result.now
    (g.W.Writer.contents c.args.writer.now) (g.W.Writer.contents c.write_text.new.writer)
    (rw c.as_str.ensures.value c.in_ok-text.ensures) c.write_text.result c.write_text.ensures.written

pub returns-clause-stopped : goal.returns-clause-stopped
returns-clause-stopped g c =
    step_stopped c.args.world.now c.step_text.new.world c.args.now (step_view c.args.step) c.as_str.result.now
    (g.W.Writer.contents c.args.writer.now) (g.W.Writer.contents c.write_text.new.writer)
    (rw c.as_str.ensures.value c.in_ok-text.ensures) c.write_text.result c.write_text.ensures.stopped
