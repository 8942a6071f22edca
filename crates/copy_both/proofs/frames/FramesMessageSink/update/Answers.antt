use Rattle.std.proofs.Common.{ℕ, ◌++◌, refl, ap, ◌∙◌}
use Rattle.replica_identity.specs.ChangeView.{part_view}
use Rattle.pgoutput_msgs.specs.Spelling.{spelling_of}
use Rattle.pgoutput_msgs.specs.Telling.{oid_of, maybe_old_of}
use Rattle.pgoutput_msgs.specs.ValueText.{cells_of}
use Rattle.pgoutput_msgs.specs.declared.message.Msg.{Msg}
use Rattle.pgoutput_msgs.specs.declared.message.Msg.TheVariants as m
use Rattle.pgoutput_msgs.proofs.RoomLemmas.{row_room, maybe_old_room}
use Rattle.pgoutput_msgs.proofs.SentLemmas.{plain_update}
use Rattle.pgoutput_msgs.proofs.SinkLemmas.{takes_message}
use Rattle.copy_both.specs.Framing.{AddsFrame}
use Rattle.copy_both.proofs.FramingLemmas.{frame_added, frame_short}
use Rattle.copy_both.proofs.frames.FramesMessageSink.update.Goals as goal

pub encode_update-requires-clause-old_fits : goal.encode_update-requires-clause-old_fits
encode_update-requires-clause-old_fits c = maybe_old_room (part_view c.args.old.now) c.requires.1

pub encode_update-requires-clause-fits : goal.encode_update-requires-clause-fits
encode_update-requires-clause-fits c = row_room c.args.new.now c.requires.2

pub close_frame-requires-clause-room : goal.close_frame-requires-clause-room
close_frame-requires-clause-room c =
    let message : ℕ → Msg = λ n. m.Update n (maybe_old_of (part_view c.args.old.now)) (cells_of c.args.new.now) in
    frame_short c.args.self.now.bytes.items c.open_frame.new.out.items c.encode_update.new.out.items
    c.len-start.result c.args.self.now.head
    (spelling_of (message (oid_of c.args.table))) (c.len-start.ensures ∙ c.args.self.now.bytes.ok.0)
    c.in_ok-open_frame.ensures
    (c.in_ok-encode_update.ensures.ok
    ∙ ap (λ (n : ℕ). c.open_frame.new.out.items ++ spelling_of (message n)) c.oid_of.ensures)
    (plain_update c.args.table (part_view c.args.old.now) c.args.new.now c.requires.0 c.requires.1 c.requires.2).short

pub returns : goal.returns
returns c =
    let message : ℕ → Msg = λ n. m.Update n (maybe_old_of (part_view c.args.old.now)) (cells_of c.args.new.now) in
    takes_message AddsFrame c.args.self.now _ (message (oid_of c.args.table))
    (frame_added c.args.self.now _ c.open_frame.new.out.items c.encode_update.new.out.items c.len-start.result
    (message (oid_of c.args.table)) refl
    (c.len-start.ensures ∙ c.args.self.now.bytes.ok.0) c.in_ok-open_frame.ensures
    (c.in_ok-encode_update.ensures.ok
    ∙ ap (λ (n : ℕ). c.open_frame.new.out.items ++ spelling_of (message n)) c.oid_of.ensures)
    c.close_frame.ensures c.in_ok-encode_update.ensures.texts)
