use Rattle.senders.proofs.SendingLemmas.{on_ok}
use Rattle.senders.proofs.SpeakingLemmas.{says_done, says_none, says_refused}
use Rattle.senders.proofs.speaking.say_last.Goals as goal

pub returns-then-not-is_done-clause-says : goal.returns-then-not-is_done-clause-says
returns-then-not-is_done-clause-says g c =
    says_none c.args.stop c.args.why (g.W.Sink.taken c.args.writer.now) (g.W.Sink.has_failed c.args.writer.now)
    c.in-ConnectionEnded.is (c.is_done.ensures.not c.if-not-is_done.true)

pub returns-then-is_err-clause-says : goal.returns-then-is_err-clause-says
returns-then-is_err-clause-says g c =
    says_refused c.args.stop c.args.why (g.W.Sink.taken c.args.writer.now) (g.W.Sink.has_failed c.args.writer.now)
    c.in-ConnectionEnded.is

pub returns-clause-says : goal.returns-clause-says
returns-clause-says g c =
    let taken = g.W.Sink.taken in
    let has_failed = g.W.Sink.has_failed in
    says_done c.args.stop c.args.why (taken c.args.writer.now) (taken c.flush.new.writer)
    (has_failed c.args.writer.now) (has_failed c.flush.new.writer) c.args.voice.now c.done.new.self
    c.flush.new.voice
    c.flush.result c.in-ConnectionEnded.is c.requires (c.is_done.ensures.is c.if-not-is_done.false)
    (on_ok c.done.result c.is_err.result _ c.is_err.ensures.value c.if-is_err.false c.done.ensures.ok)
    c.flush.ensures.flushes
    c.flush.ensures.all c.flush.ensures.failed
