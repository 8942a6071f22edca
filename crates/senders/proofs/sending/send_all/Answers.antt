use Rattle.std.proofs.Common.{◌≡◌, ◌∙◌, [], map}
use Rattle.std.specs.Prelude.{true}
use Rattle.std.specs.Arc.{arc_value}
use Rattle.copy_frames.specs.Contents.{copy_both_response}
use Rattle.copy_both.specs.Voices.{voice_output}
use Rattle.senders.specs.Sending.{started_telling}
use Rattle.senders.proofs.SendingLemmas.{if_err, not_fault, on_ok, writes_all, writes_part}
use Rattle.senders.proofs.sending.send_all.Goals as goal

pub returns-then-is_err : goal.returns-then-is_err
returns-then-is_err g c =
    let taken = g.W.Sink.taken in
    let has_failed = g.W.Sink.has_failed in
    record {
      sent = writes_part (taken c.args.writer.now) (taken c.tell_all-taken.new.writer) (taken c.flush.new.writer)
          (started_telling g.P.Publishing.checked c.args.started.0 c.args.started.1 copy_both_response)
          (map (λ commit. arc_value commit) c.tell_all-taken.result.0.items) c.tell_all-taken.new.voice
          c.flush.new.voice c.flush.ensures.flushes c.tell_all-taken.result.1 c.tell_all-taken.ensures.tells;
      failed = λ is.
          if_err c.flush.result c.is_err.result
          (has_failed c.flush.new.writer ≡ has_failed c.tell_all-taken.new.writer)
          (has_failed c.flush.new.writer ≡ true) c.is_err.ensures.value c.if-is_err.true c.flush.ensures.failed;
      refused = c.flush.ensures.refused ∙ c.tell_all-taken.ensures.refused;
      logged = c.tell_all-taken.ensures.logged;
    }

pub returns : goal.returns
returns g c =
    let taken = g.W.Sink.taken in
    let none : voice_output c.flush.new.voice ≡ [] =
    on_ok c.flush.result c.is_err.result (voice_output c.flush.new.voice ≡ []) c.is_err.ensures.value c.if-is_err.false
    c.flush.ensures.all in
    record {
      sent = writes_all (taken c.args.writer.now) (taken c.tell_all-taken.new.writer) (taken c.flush.new.writer)
          (started_telling g.P.Publishing.checked c.args.started.0 c.args.started.1 copy_both_response)
          (map (λ commit. arc_value commit) c.tell_all-taken.result.0.items) c.tell_all-taken.new.voice
          c.flush.new.voice c.flush.ensures.flushes c.tell_all-taken.result.1
          (not_fault c.tell_all-taken.result.1 c.in-ConnectionEnded.is) c.tell_all-taken.ensures.tells none;
      failed = λ is. absurd (not_fault c.tell_all-taken.result.1 c.in-ConnectionEnded.is is);
      refused = c.flush.ensures.refused ∙ c.tell_all-taken.ensures.refused;
      logged = c.tell_all-taken.ensures.logged;
    }
