use Rattle.std.proofs.Common.{ap, refl, subst, sym}
use Rattle.std.specs.Prelude.{None, map}
use Rattle.std.specs.Arc.{arc_value}
use Rattle.copy_frames.specs.Contents.{copy_both_response}
use Rattle.publisher_desk.specs.Viewers.{ViewerOf, new_viewer}
use Rattle.senders.specs.Results.{commits_of}
use Rattle.senders.specs.Sending.{TakesLogged, started_telling}
use Rattle.senders.specs.declared.end.End.{End}
use Rattle.senders.specs.Running.{IsWithout}
use Rattle.senders.proofs.ReadLemmas.{hears_nothing}
use Rattle.senders.proofs.SeenLogs.{takes_first}
use Rattle.senders.proofs.SpeakingLemmas.{rests}
use Rattle.senders.proofs.StreamingLemmas.{streams_no_further, streams_not, streams_to_its_end}
use Rattle.senders.proofs.serving.serve_started.Goals as goal

pub returns-in-Err-clause-runs : goal.returns-in-Err-clause-runs
returns-in-Err-clause-runs g c = record {
  why = None;
  hears = hears_nothing g.P.Publishing.checked c.args.viewer.now (g.S.Source.left c.args.reader.now) c.args.listener.now;
  streams = streams_not g.P.Publishing.checked c.args.started.0 c.args.started.1 (g.W.Sink.taken c.args.writer.now)
      (g.W.Sink.taken c.open.new.writer) (g.W.Sink.has_failed c.open.new.writer) None
      c.without_commits-outcome.result c.in-Err.stop refl c.in-Err.ensures.err
      (subst (λ (is : End). IsWithout c.args.started.0 c.args.started.1 None is c.without_commits-outcome.result) c.end_of.ensures
      c.without_commits-outcome.ensures);
}

pub returns-then-not-starts_threads-clause-runs : goal.returns-then-not-starts_threads-clause-runs
returns-then-not-starts_threads-clause-runs g c = record {
  why = None;
  hears = hears_nothing g.P.Publishing.checked c.args.viewer.now (g.S.Source.left c.args.reader.now) c.args.listener.now;
  streams = streams_no_further g.P.Publishing.checked c.args.started.0 c.args.started.1
      (g.W.Sink.taken c.args.writer.now) (g.W.Sink.taken c.open.new.writer) (g.W.Sink.has_failed c.open.new.writer)
      None
      c.without_commits-outcome-then-not-starts_threads.result c.in-Ok.ensures.ok.put
      (subst (λ (is : End). IsWithout c.args.started.0 c.args.started.1 None is
      c.without_commits-outcome-then-not-starts_threads.result) c.end_of-end.ensures
      c.without_commits-outcome-then-not-starts_threads.ensures);
}

pub conclude-outcome-requires : goal.conclude-outcome-requires
conclude-outcome-requires g c =
    let taken = g.W.Sink.taken in
    let both = c.run_out-sent in
    rests both.result.0.stop (taken c.open.new.writer) (taken both.new.writer)
    (map (λ commit. arc_value commit) both.result.0.taken.items) both.new.voice
    (started_telling g.P.Publishing.checked c.args.started.0 c.args.started.1 copy_both_response)
    both.ensures.sent

pub returns-clause-runs : goal.returns-clause-runs
returns-clause-runs g c =
    let taken = g.W.Sink.taken in
    let both = c.run_out-sent in
    record {
      why = both.result.2;
      hears = both.ensures.heard;
      streams = streams_to_its_end g.P.Publishing.checked c.args.started.0 c.args.started.1 (taken c.args.writer.now)
          (taken c.open.new.writer) (taken both.new.writer) (taken c.conclude-outcome.new.writer)
          both.new.voice c.in-Ok.voice both.result.2 (g.W.Sink.has_failed both.new.writer)
          (g.W.Sink.has_failed c.conclude-outcome.new.writer) c.conclude-outcome.result both.result.0 c.in-Ok.ensures.ok
          both.ensures.sent both.ensures.failed both.ensures.out c.conclude-outcome.ensures.concludes;
    }

pub returns-in-Err-clause-logged : goal.returns-in-Err-clause-logged
returns-in-Err-clause-logged g c =
    subst (λ (viewer : ViewerOf). TakesLogged g.P.Publishing.checked new_viewer viewer
    (commits_of c.without_commits-outcome.result)) (sym c.new.ensures)
    (takes_first g.P.Publishing.checked new_viewer (commits_of c.without_commits-outcome.result)
    (ap (map (λ commit. arc_value commit)) c.without_commits-outcome.ensures.none))

pub returns-then-not-starts_threads-clause-logged : goal.returns-then-not-starts_threads-clause-logged
returns-then-not-starts_threads-clause-logged g c =
    subst (λ (viewer : ViewerOf). TakesLogged g.P.Publishing.checked new_viewer viewer
    (commits_of c.without_commits-outcome-then-not-starts_threads.result)) (sym c.new-then-not-starts_threads.ensures)
    (takes_first g.P.Publishing.checked new_viewer (commits_of c.without_commits-outcome-then-not-starts_threads.result)
    (ap (map (λ commit. arc_value commit)) c.without_commits-outcome-then-not-starts_threads.ensures.none))

pub returns-clause-logged : goal.returns-clause-logged
returns-clause-logged g c = rw c.conclude-outcome.ensures.concludes.taken_is c.run_out-sent.ensures.logged
