use Rattle.std.proofs.Common.{subst}
use Rattle.copy_both.specs.Ears.{ear_started}
use Rattle.senders.specs.Listening.{PermitsStart}
use Rattle.senders.proofs.PermitLemmas.{permit_of_start, started_by, unstarted_by}
use Rattle.senders.proofs.ReadLemmas.{hears_nothing, last_after, on_after}
use Rattle.senders.proofs.listening.begin.Goals as goal

pub loop-init : goal.loop-init
loop-init g c = (
  hears_nothing g.P.Publishing.checked c.args.viewer.now (g.S.Source.left c.args.reader.now) c.args.listener.now,
  c.requires.fresh,
)

pub stream_of-requires : goal.stream_of-requires
stream_of-requires g c =
    let was = ear_started c.loop.listener.ear in
    let now = ear_started c.hear_next-next.new.listener.ear in
    let starts = started_by was now c.in-Some-GoesOn.permit c.loop.invariant.1
    (subst (PermitsStart was now) c.in-Some-GoesOn.is-0 c.hear_next-next.ensures.permit) in
    record { stream = starts.0; started_is = starts.1 }

pub stream_of-requires-in-Some-Ends : goal.stream_of-requires-in-Some-Ends
stream_of-requires-in-Some-Ends g c =
    let was = ear_started c.loop.listener.ear in
    let now = ear_started c.hear_next-next.new.listener.ear in
    let starts = started_by was now c.in-Some-Ends.permit c.loop.invariant.1
    (subst (PermitsStart was now) c.in-Some-Ends.is-0 c.hear_next-next.ensures.permit) in
    record { stream = starts.0; started_is = starts.1 }

pub returns-in-Some-GoesOn-clause-begins : goal.returns-in-Some-GoesOn-clause-begins
returns-in-Some-GoesOn-clause-begins g c =
    let left = g.S.Source.left in
    let next = c.hear_next-next in
    record {
      hears = on_after g.P.Publishing.checked c.args.viewer.now c.loop.viewer next.new.viewer (left c.args.reader.now) (left c.loop.reader) (left next.new.reader)
          (g.S.Source.has_failed next.new.reader) (g.S.Source.has_ended next.new.reader)
          c.args.listener.now c.loop.listener next.new.listener c.loop.invariant.0 next.result.0 next.ensures.hears
          c.in-Some-GoesOn.field-0-1 c.in-Some-GoesOn.is-1;
      started_is = c.stream_of.ensures;
    }

pub returns-in-Some-GoesOn-clause-permit : goal.returns-in-Some-GoesOn-clause-permit
returns-in-Some-GoesOn-clause-permit g c =
    let was = ear_started c.loop.listener.ear in
    let now = ear_started c.hear_next-next.new.listener.ear in
    permit_of_start was now c.in-Some-GoesOn.permit c.stream_of.result c.loop.invariant.1
    (subst (PermitsStart was now) c.in-Some-GoesOn.is-0 c.hear_next-next.ensures.permit) c.stream_of.ensures

pub returns-in-Some-Ends-clause-begins : goal.returns-in-Some-Ends-clause-begins
returns-in-Some-Ends-clause-begins g c =
    let left = g.S.Source.left in
    let next = c.hear_next-next in
    record {
      hears = last_after g.P.Publishing.checked c.args.viewer.now c.loop.viewer next.new.viewer (left c.args.reader.now) (left c.loop.reader) (left next.new.reader)
          (g.S.Source.has_failed next.new.reader) (g.S.Source.has_ended next.new.reader)
          c.args.listener.now c.loop.listener next.new.listener c.loop.invariant.0 next.result.0 next.ensures.hears
          c.in-Some-Ends.why c.in-Some-Ends.is-1;
      started_is = c.stream_of-in-Some-Ends.ensures;
    }

pub returns-in-Some-Ends-clause-permit : goal.returns-in-Some-Ends-clause-permit
returns-in-Some-Ends-clause-permit g c =
    let was = ear_started c.loop.listener.ear in
    let now = ear_started c.hear_next-next.new.listener.ear in
    permit_of_start was now c.in-Some-Ends.permit c.stream_of-in-Some-Ends.result c.loop.invariant.1
    (subst (PermitsStart was now) c.in-Some-Ends.is-0 c.hear_next-next.ensures.permit)
    c.stream_of-in-Some-Ends.ensures

pub returns-in-None-Ends-clause-begins : goal.returns-in-None-Ends-clause-begins
returns-in-None-Ends-clause-begins g c =
    let left = g.S.Source.left in
    let next = c.hear_next-next in
    let was = ear_started c.loop.listener.ear in
    let now = ear_started next.new.listener.ear in
    record {
      hears = last_after g.P.Publishing.checked c.args.viewer.now c.loop.viewer next.new.viewer (left c.args.reader.now) (left c.loop.reader) (left next.new.reader)
          (g.S.Source.has_failed next.new.reader) (g.S.Source.has_ended next.new.reader)
          c.args.listener.now c.loop.listener next.new.listener c.loop.invariant.0 next.result.0 next.ensures.hears
          c.in-None-Ends.why c.in-None-Ends.is-1;
      started_is = unstarted_by was now c.loop.invariant.1
          (subst (PermitsStart was now) c.in-None-Ends.is-0 next.ensures.permit);
    }

pub loop-preserved : goal.loop-preserved
loop-preserved g c =
    let left = g.S.Source.left in
    let next = c.hear_next-next in
    let was = ear_started c.loop.listener.ear in
    let now = ear_started next.new.listener.ear in (
      on_after g.P.Publishing.checked c.args.viewer.now c.loop.viewer next.new.viewer (left c.args.reader.now) (left c.loop.reader) (left next.new.reader)
          (g.S.Source.has_failed next.new.reader) (g.S.Source.has_ended next.new.reader)
          c.args.listener.now c.loop.listener next.new.listener c.loop.invariant.0 next.result.0 next.ensures.hears
          c.in-None-GoesOn.field-0-1 c.in-None-GoesOn.is-1,
      unstarted_by was now c.loop.invariant.1
          (subst (PermitsStart was now) c.in-None-GoesOn.is-0 next.ensures.permit),
    )
