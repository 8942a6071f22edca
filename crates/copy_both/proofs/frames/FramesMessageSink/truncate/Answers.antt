use Rattle.std.proofs.Common.{map, refl, ◌∙◌}
use Rattle.pgoutput_msgs.specs.Spelling.{spelling_of}
use Rattle.pgoutput_msgs.specs.Telling.{oid_of}
use Rattle.pgoutput_msgs.specs.declared.message.Msg.TheVariants as m
use Rattle.pgoutput_msgs.proofs.SentLemmas.{plain_truncate}
use Rattle.pgoutput_msgs.proofs.SinkLemmas.{takes_message}
use Rattle.copy_both.specs.Framing.{AddsFrame}
use Rattle.copy_both.proofs.FramingLemmas.{frame_added, frame_short}
use Rattle.copy_both.proofs.frames.FramesMessageSink.truncate.Goals as goal

pub close_frame-requires-clause-room : goal.close_frame-requires-clause-room
close_frame-requires-clause-room c =
    frame_short c.args.self.now.bytes.items c.open_frame.new.out.items c.encode_truncate.new.out.items
    c.len-start.result c.args.self.now.head
    (spelling_of (m.Truncate 0 (map oid_of c.args.tables.now))) (c.len-start.ensures ∙ c.args.self.now.bytes.ok.0)
    c.in_ok-open_frame.ensures
    c.in_ok-encode_truncate.ensures.ok (plain_truncate c.args.tables.now c.requires.0 c.requires.1).short

pub returns : goal.returns
returns c =
    takes_message AddsFrame c.args.self.now _ (m.Truncate 0 (map oid_of c.args.tables.now))
    (frame_added c.args.self.now _ c.open_frame.new.out.items c.encode_truncate.new.out.items c.len-start.result
    (m.Truncate 0 (map oid_of c.args.tables.now)) refl
    (c.len-start.ensures ∙ c.args.self.now.bytes.ok.0) c.in_ok-open_frame.ensures c.in_ok-encode_truncate.ensures.ok
    c.close_frame.ensures tt)
