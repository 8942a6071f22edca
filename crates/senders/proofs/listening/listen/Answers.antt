use Rattle.copy_both.specs.Ears.{ear_started}
use Rattle.senders.proofs.PermitLemmas.{kept_by}
use Rattle.senders.proofs.ReadLemmas.{hears_nothing, last_after, on_after}
use Rattle.senders.proofs.listening.listen.Goals as goal

pub loop-init : goal.loop-init
loop-init g c = (
  hears_nothing g.P.Publishing.checked c.args.viewer.now (g.S.Source.left c.args.reader.now) c.args.listener.now,
  c.requires.started,
)

pub returns-in-Ends-clause-hears : goal.returns-in-Ends-clause-hears
returns-in-Ends-clause-hears g c =
    let left = g.S.Source.left in
    let next = c.hear_next-next in
    last_after g.P.Publishing.checked c.args.viewer.now c.loop.viewer next.new.viewer (left c.args.reader.now) (left c.loop.reader) (left next.new.reader)
    (g.S.Source.has_failed next.new.reader) (g.S.Source.has_ended next.new.reader)
    c.args.listener.now c.loop.listener next.new.listener c.loop.invariant.0 next.result.0 next.ensures.hears c.in-Ends.why
    c.in-Ends.is

pub returns-then-stops-clause-hears : goal.returns-then-stops-clause-hears
returns-then-stops-clause-hears g c =
    let left = g.S.Source.left in
    let next = c.hear_next-next in
    on_after g.P.Publishing.checked c.args.viewer.now c.loop.viewer next.new.viewer (left c.args.reader.now) (left c.loop.reader) (left next.new.reader)
    (g.S.Source.has_failed next.new.reader) (g.S.Source.has_ended next.new.reader)
    c.args.listener.now c.loop.listener next.new.listener c.loop.invariant.0 next.result.0 next.ensures.hears
    c.in-GoesOn.was_over c.in-GoesOn.is

pub loop-preserved : goal.loop-preserved
loop-preserved g c =
    let left = g.S.Source.left in
    let next = c.hear_next-next in
    let was = c.loop.invariant.1 in (
      on_after g.P.Publishing.checked c.args.viewer.now c.loop.viewer next.new.viewer (left c.args.reader.now) (left c.loop.reader) (left next.new.reader)
          (g.S.Source.has_failed next.new.reader) (g.S.Source.has_ended next.new.reader)
          c.args.listener.now c.loop.listener next.new.listener c.loop.invariant.0 next.result.0 next.ensures.hears
          c.in-GoesOn.was_over c.in-GoesOn.is,
      record {
        stream = was.stream;
        started_is = (kept_by (ear_started c.loop.listener.ear) (ear_started next.new.listener.ear) next.result.1
            was.stream was.started_is next.ensures.permit).0;
      },
    )
