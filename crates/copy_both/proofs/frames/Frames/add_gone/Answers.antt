use Rattle.std.proofs.Common.{ℕ, ◌++◌, refl, ap, ◌∙◌}
use Rattle.replica_identity.specs.ChangeView.{part_view}
use Rattle.pgoutput_msgs.specs.Spelling.{maybe_delete_spelling}
use Rattle.pgoutput_msgs.specs.Telling.{oid_of, maybe_old_of}
use Rattle.pgoutput_msgs.proofs.RoomLemmas.{maybe_old_room}
use Rattle.copy_both.proofs.FramingLemmas.{gone_added, gone_short, frame_short}
use Rattle.copy_both.proofs.frames.Frames.add_gone.Goals as goal

pub encode_delete-requires : goal.encode_delete-requires
encode_delete-requires c = maybe_old_room (part_view c.args.old.now) c.requires.sendable.1

pub close_frame-requires-clause-room : goal.close_frame-requires-clause-room
close_frame-requires-clause-room c =
    frame_short c.args.self.now.bytes.items c.open_frame.new.out.items c.encode_delete.new.out.items
    c.len-start.result c.args.self.now.head
    (maybe_delete_spelling (oid_of c.args.table) (maybe_old_of (part_view c.args.old.now)))
    (c.len-start.ensures ∙ c.args.self.now.bytes.ok.0) c.in_ok-open_frame.ensures
    (c.in_ok-encode_delete.ensures.ok
    ∙ ap (λ (n : ℕ). c.open_frame.new.out.items
    ++ maybe_delete_spelling n (maybe_old_of (part_view c.args.old.now))) c.oid_of.ensures)
    (gone_short c.args.table (part_view c.args.old.now) c.requires.sendable.0 c.requires.sendable.1)

pub returns : goal.returns
returns c =
    gone_added c.args.self.now _ c.open_frame.new.out.items c.encode_delete.new.out.items c.len-start.result
    c.args.table (part_view c.args.old.now) c.requires.recorded refl
    (c.len-start.ensures ∙ c.args.self.now.bytes.ok.0) c.in_ok-open_frame.ensures
    (c.in_ok-encode_delete.ensures.ok
    ∙ ap (λ (n : ℕ). c.open_frame.new.out.items
    ++ maybe_delete_spelling n (maybe_old_of (part_view c.args.old.now))) c.oid_of.ensures)
    c.close_frame.ensures c.in_ok-encode_delete.ensures.texts
