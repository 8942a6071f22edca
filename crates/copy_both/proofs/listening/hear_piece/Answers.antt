use Rattle.std.proofs.Common.{refl}
use Rattle.copy_both.specs.Listening.{silence, held_frames}
use Rattle.copy_both.specs.Sessions.{served_by, hearing_view}
use Rattle.copy_both.proofs.ListeningLemmas.{nothing_heard}
use Rattle.copy_both.proofs.QuietLemmas.{quiet_after}
use Rattle.copy_both.proofs.RefusedStarts.{err_answered, frames_answered}
use Rattle.copy_both.proofs.listening.hear_piece.Goals as goal

pub returns-in-Err-OutOfMemory-clause-left : goal.returns-in-Err-OutOfMemory-clause-left
returns-in-Err-OutOfMemory-clause-left c =
    nothing_heard c.args.session.now c.args.book.now c.args.frames.now c.args.piece.now c.args.sent

pub returns-clause-quiet : goal.returns-clause-quiet
returns-clause-quiet c = quiet_after _ _ _ _ c.in_ok-hear_frames.ensures.heard refl

pub returns-in_err-hear_frames-clause-refused : goal.returns-in_err-hear_frames-clause-refused
returns-in_err-hear_frames-clause-refused c =
    err_answered c.from_residual.result c.in_err-hear_frames.field-0.0 c.args.session.now.response.items
    c.hear_frames.new.session.response.items c.from_residual.ensures.1
    (frames_answered c.in_err-hear_frames.field-0.0 (served_by c.args.session.now c.args.book.now)
    (hearing_view c.args.session.now (silence c.args.sent) c.args.book.now)
    (hearing_view c.hear_frames.new.session c.hear_frames.new.hearing c.hear_frames.new.book)
    (held_frames c.feed-fed.new.self) refl
    c.in_err-hear_frames.ensures.heard)
