use Rattle.std.proofs.Common.{refl, ◌∙◌}
use Rattle.copy_both.proofs.FramingLemmas.{frame_added}
use Rattle.copy_both.proofs.frames.Frames.add.Goals as goal

pub returns : goal.returns
returns c =
    frame_added c.args.self.now _ c.open_frame.new.out.items c.encode.new.out.items c.len-start.result
    c.args.message.now refl
    (c.len-start.ensures ∙ c.args.self.now.bytes.ok.0) c.in_ok-open_frame.ensures c.in_ok-encode.ensures.ok
    c.close_frame.ensures c.requires.texts
