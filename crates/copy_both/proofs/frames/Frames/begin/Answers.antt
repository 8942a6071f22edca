use Rattle.std.proofs.Common.{refl, subst, rules}
use Rattle.pgoutput_msgs.specs.Telling.{begin_msg}
use Rattle.pgoutput_msgs.specs.declared.message.Msg.{Msg}
use Rattle.copy_both.specs.Framing.{AddsFrame}
use Rattle.copy_both.specs.declared.frames.Frames.{Frames}
use Rattle.copy_both.proofs.FramingLemmas.{added_in_room}
use Rattle.copy_both.proofs.frames.Frames.begin.Goals as goal

pub returns : goal.returns
returns c =
    let roomy : Frames = record
    { alloc = c.args.self.now.alloc; head = c.args.self.now.head; bytes = c.reserve.new.self } in
    let adds : AddsFrame roomy c.add.new.self (begin_msg c.args.commit.now) =
    subst (λ (message : Msg). AddsFrame roomy c.add.new.self message) c.begin_message.ensures.exact (search rules) in
    added_in_room c.args.self.now roomy c.add.new.self (begin_msg c.args.commit.now) refl c.in_ok-reserve.ensures.items
    adds
