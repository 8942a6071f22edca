use Rattle.std.proofs.Common.{arith}
use Rattle.copy_both.specs.Links.{SendsFirst, replies}
use Rattle.copy_both.specs.Voices.{voice_stage}
use Rattle.copy_both.proofs.RepliesLemmas.{on_err, one_reply, reply_fails}
use Rattle.copy_both.proofs.replies.reply.Goals as goal

pub loop-preserved : goal.loop-preserved
loop-preserved c =
    one_reply c.args.voice.now c.loop.voice c.keepalive.new.self (voice_stage c.args.voice.now) c.args.now
    c.loop.counter
    c.loop.invariant c.in_ok-keepalive.ensures.ok

pub returns-in_err-keepalive-clause-err : goal.returns-in_err-keepalive-clause-err
returns-in_err-keepalive-clause-err c =
    on_err c.from_residual.result
    (SendsFirst c.args.voice.now c.keepalive.new.self
    (replies (voice_stage c.args.voice.now) c.args.count c.args.now))
    (reply_fails c.args.voice.now c.loop.voice c.keepalive.new.self (voice_stage c.args.voice.now) c.args.now
    c.loop.counter
    c.args.count c.loop.invariant c.in_err-keepalive.ensures.err (omega arith))
