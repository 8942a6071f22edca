use Rattle.std.proofs.Common.{ap, refl, subst, sym}
use Rattle.std.specs.Prelude.{Option, Some, map}
use Rattle.std.specs.Arc.{arc_value}
use Rattle.copy_frames.specs.Contents.{copy_both_response}
use Rattle.copy_both.specs.declared.link_fault.LinkFault.{LinkFault}
use Rattle.publisher_desk.specs.Viewers.{ViewerOf, new_viewer}
use Rattle.senders.specs.Causes.{unopened_by}
use Rattle.senders.specs.Results.{commits_of}
use Rattle.senders.specs.Sending.{TakesLogged, started_telling}
use Rattle.senders.specs.declared.end.End.{End}
use Rattle.senders.specs.Running.{IsWithout}
use Rattle.senders.proofs.SeenLogs.{takes_first}
use Rattle.senders.proofs.SpeakingLemmas.{rests}
use Rattle.senders.proofs.StreamingLemmas.{streams_ended, streams_to_its_end}
use Rattle.senders.proofs.serving.serve_ended.Goals as goal

pub returns-in-Err-clause-streams : goal.returns-in-Err-clause-streams
returns-in-Err-clause-streams g c =
    streams_ended g.P.Publishing.checked c.args.started.0 c.args.started.1 (g.W.Sink.taken c.args.writer.now)
    (g.W.Sink.taken c.open.new.writer) (g.W.Sink.has_failed c.open.new.writer) (Some c.args.why)
    c.without_commits-outcome.result c.in-Err.stop c.args.why refl c.in-Err.ensures.err
    (subst (λ (found : Option LinkFault). IsWithout c.args.started.0 c.args.started.1 found
    (unopened_by c.in-Err.stop c.args.why) c.without_commits-outcome.result) c.fault_of.ensures
    (subst (λ (is : End). IsWithout c.args.started.0 c.args.started.1 c.fault_of.result is
    c.without_commits-outcome.result) c.unopened_end-end.ensures c.without_commits-outcome.ensures))

pub conclude-outcome-requires : goal.conclude-outcome-requires
conclude-outcome-requires g c =
    let taken = g.W.Sink.taken in
    rests c.send-sent.result.0.stop (taken c.open.new.writer) (taken c.send-sent.new.writer)
    (map (λ commit. arc_value commit) c.send-sent.result.0.taken.items) c.send-sent.new.voice
    (started_telling g.P.Publishing.checked c.args.started.0 c.args.started.1 copy_both_response)
    c.send-sent.ensures.sent

pub returns-clause-streams : goal.returns-clause-streams
returns-clause-streams g c =
    let taken = g.W.Sink.taken in
    streams_to_its_end g.P.Publishing.checked c.args.started.0 c.args.started.1 (taken c.args.writer.now)
    (taken c.open.new.writer) (taken c.send-sent.new.writer) (taken c.conclude-outcome.new.writer)
    c.send-sent.new.voice c.in-Ok.voice (Some c.args.why) (g.W.Sink.has_failed c.send-sent.new.writer)
    (g.W.Sink.has_failed c.conclude-outcome.new.writer) c.conclude-outcome.result c.send-sent.result.0 c.in-Ok.ensures.ok
    c.send-sent.ensures.sent c.send-sent.ensures.failed (λ finished. (c.args.why, refl))
    c.conclude-outcome.ensures.concludes

pub returns-in-Err-clause-logged : goal.returns-in-Err-clause-logged
returns-in-Err-clause-logged g c =
    subst (λ (viewer : ViewerOf). TakesLogged g.P.Publishing.checked new_viewer viewer
    (commits_of c.without_commits-outcome.result)) (sym c.new.ensures)
    (takes_first g.P.Publishing.checked new_viewer (commits_of c.without_commits-outcome.result)
    (ap (map (λ commit. arc_value commit)) c.without_commits-outcome.ensures.none))

pub returns-clause-logged : goal.returns-clause-logged
returns-clause-logged g c = rw c.conclude-outcome.ensures.concludes.taken_is c.send-sent.ensures.logged
