use Rattle.std.proofs.Common.{ℕ, ◌++◌, refl, ap, ◌∙◌}
use Rattle.pgoutput_msgs.specs.Spelling.{spelling_of}
use Rattle.pgoutput_msgs.specs.Telling.{oid_of}
use Rattle.pgoutput_msgs.specs.ValueText.{cells_of}
use Rattle.pgoutput_msgs.specs.declared.message.Msg.TheVariants as m
use Rattle.pgoutput_msgs.proofs.RoomLemmas.{row_room}
use Rattle.pgoutput_msgs.proofs.SentLemmas.{plain_insert}
use Rattle.pgoutput_msgs.proofs.SinkLemmas.{takes_message}
use Rattle.copy_both.specs.Framing.{AddsFrame}
use Rattle.copy_both.proofs.FramingLemmas.{frame_added, frame_short}
use Rattle.copy_both.proofs.frames.FramesMessageSink.insert.Goals as goal

pub encode_insert-requires : goal.encode_insert-requires
encode_insert-requires c = row_room c.args.new.now c.requires.1

pub close_frame-requires-clause-room : goal.close_frame-requires-clause-room
close_frame-requires-clause-room c =
    frame_short c.args.self.now.bytes.items c.open_frame.new.out.items c.encode_insert.new.out.items
    c.len-start.result c.args.self.now.head
    (spelling_of (m.Insert (oid_of c.args.table) (cells_of c.args.new.now)))
    (c.len-start.ensures ∙ c.args.self.now.bytes.ok.0) c.in_ok-open_frame.ensures
    (c.in_ok-encode_insert.ensures.ok
    ∙ ap (λ (n : ℕ). c.open_frame.new.out.items ++ spelling_of (m.Insert n (cells_of c.args.new.now)))
    c.oid_of.ensures)
    (plain_insert c.args.table c.args.new.now c.requires.0 c.requires.1).short

pub returns : goal.returns
returns c =
    takes_message AddsFrame c.args.self.now _ (m.Insert (oid_of c.args.table) (cells_of c.args.new.now))
    (frame_added c.args.self.now _ c.open_frame.new.out.items c.encode_insert.new.out.items c.len-start.result
    (m.Insert (oid_of c.args.table) (cells_of c.args.new.now)) refl
    (c.len-start.ensures ∙ c.args.self.now.bytes.ok.0) c.in_ok-open_frame.ensures
    (c.in_ok-encode_insert.ensures.ok
    ∙ ap (λ (n : ℕ). c.open_frame.new.out.items ++ spelling_of (m.Insert n (cells_of c.args.new.now)))
    c.oid_of.ensures)
    c.close_frame.ensures c.in_ok-encode_insert.ensures.texts)
