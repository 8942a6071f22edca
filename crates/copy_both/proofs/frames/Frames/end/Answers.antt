use Rattle.std.proofs.Common.{subst}
use Rattle.pgoutput_msgs.specs.declared.message.Msg.{Msg}
use Rattle.copy_both.specs.Framing.{AddsFrame}
use Rattle.copy_both.proofs.frames.Frames.end.Goals as goal

pub returns : goal.returns
returns c =
    subst (λ (message : Msg). AddsFrame c.args.self.now c.add.new.self message) c.commit_message.ensures.exact
    c.in_ok-add.ensures
