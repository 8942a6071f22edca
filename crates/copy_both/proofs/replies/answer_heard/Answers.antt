use Rattle.copy_both.specs.Links.{SendsFirst, frames_by}
use Rattle.copy_both.specs.Sessions.{heard_view}
use Rattle.copy_both.specs.Voices.{voice_checked, voice_stage}
use Rattle.copy_both.proofs.RepliesLemmas.{on_err, all_said, not_replied, not_ended}
use Rattle.copy_both.proofs.replies.answer_heard.Goals as goal

pub returns-in_err-reply-clause-err : goal.returns-in_err-reply-clause-err
returns-in_err-reply-clause-err c =
    let first = c.args.voice.now in
    on_err c.from_residual-in_err-reply.result
    (SendsFirst first c.reply.new.voice
    (frames_by (voice_checked first) (voice_stage first) c.args.started (heard_view c.args.heard.now) c.args.now))
    (not_replied first c.open.new.voice c.reply.new.voice c.args.started (heard_view c.args.heard.now) c.args.now
    c.in_ok-open.ensures.ok
    c.in_err-reply.ensures.err)

pub returns-in_err-end-clause-err : goal.returns-in_err-end-clause-err
returns-in_err-end-clause-err c =
    let first = c.args.voice.now in
    on_err c.from_residual-in_err-end.result
    (SendsFirst first c.end.new.voice
    (frames_by (voice_checked first) (voice_stage first) c.args.started (heard_view c.args.heard.now) c.args.now))
    (not_ended first c.open.new.voice c.reply.new.voice c.end.new.voice c.args.started (heard_view c.args.heard.now)
    c.args.now
    c.in_ok-open.ensures.ok c.in_ok-reply.ensures.ok c.in_err-end.ensures.err)

pub returns-clause-ok : goal.returns-clause-ok
returns-clause-ok c =
    all_said c.args.voice.now c.open.new.voice c.reply.new.voice c.end.new.voice c.args.started
    (heard_view c.args.heard.now) c.args.now
    c.in_ok-open.ensures.ok c.in_ok-reply.ensures.ok c.in_ok-end.ensures.ok
