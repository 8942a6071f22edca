use Rattle.std.proofs.Common.{◌∙◌, ℕ, ap, refl, sym, subst}
use Rattle.std.specs.Prelude.{Option, false, []}
use Rattle.shard_checker.specs.CheckedView.{CheckedOf}
use Rattle.copy_both.specs.Ears.{ear_confirmed}
use Rattle.publisher_desk.specs.Viewers.{ViewerOf, new_viewer}
use Rattle.senders.specs.Listening.{HasListened}
use Rattle.senders.specs.Results.{served_of}
use Rattle.senders.specs.Running.{ReleasesIf}
use Rattle.senders.specs.Serving.{IsPermitted, IsServed}
use Rattle.senders.proofs.RefusedLemmas.{served_nothing}
use Rattle.senders.proofs.SeenLogs.{sees_same}
use Rattle.senders.proofs.WitnessLemmas.{holds_by, sees_if, served_by, unreleased, witnessed_by}
use Rattle.senders.proofs.serving.serve.Goals as goal

pub returns-in_default-clause-served : goal.returns-in_default-clause-served
returns-in_default-clause-served g c =
    subst (IsServed g.P.Publishing.checked (g.S.Source.left c.args.reader.now) (g.S.Source.left c.args.reader.now)
    (g.S.Source.has_failed c.args.reader.now) (g.S.Source.has_ended c.args.reader.now)
    (g.W.Sink.taken c.args.writer.now) (g.W.Sink.taken c.args.writer.now) (g.W.Sink.has_failed c.args.writer.now))
    (sym (c.new-in_default-3.ensures
    ∙ (ap (λ (sent : ℕ). served_of c.unstarted-outcome.result sent false 0 0 c.new-in_default-2.result)
    c.new-in_default.ensures
    ∙ ap (λ (viewer : ViewerOf). served_of c.unstarted-outcome.result 0 false 0 0 viewer) c.new-in_default-2.ensures)))
    (served_nothing g.P.Publishing.checked (g.S.Source.left c.args.reader.now)
    (g.S.Source.has_failed c.args.reader.now) (g.S.Source.has_ended c.args.reader.now)
    (g.W.Sink.taken c.args.writer.now) (g.W.Sink.has_failed c.args.writer.now) c.unstarted-outcome.result
    c.unstarted-outcome.ensures.slot c.unstarted-outcome.ensures.start c.unstarted-outcome.ensures.taken
    c.unstarted-outcome.ensures.end c.unstarted-outcome.ensures.fault)

-- the slot of the stream is the connection's own
pub release_if-sent-requires : goal.release_if-sent-requires
release_if-sent-requires g c number some =
    let checked = g.P.Publishing.checked in
    let fresh : HasListened checked new_viewer [] c.in-Ok.listener =
    subst (λ (k : CheckedOf). HasListened k new_viewer [] c.in-Ok.listener) c.checked.ensures c.in-Ok.ensures.heard in
    let now : ViewerOf = c.outcome_of-outcome.new.viewer in
    holds_by checked c.new-viewer.result now now (sees_same now)
    (g.S.Source.left c.args.reader.now) (g.S.Source.left c.outcome_of-outcome.new.reader)
    (g.S.Source.has_failed c.outcome_of-outcome.new.reader) (g.S.Source.has_ended c.outcome_of-outcome.new.reader)
    (g.W.Sink.taken c.args.writer.now) (g.W.Sink.taken c.outcome_of-outcome.new.writer)
    (g.W.Sink.has_failed c.outcome_of-outcome.new.writer) c.in-Ok.listener c.outcome_of-outcome.new.listener
    (subst (λ (viewer : ViewerOf). HasListened checked viewer [] c.in-Ok.listener) (sym c.new-viewer.ensures) fresh)
    c.outcome_of-outcome.result.1 c.outcome_of-outcome.result.0 (λ none. refl) 0
    c.outcome_of-outcome.new.listener.is_requested
    (ear_confirmed c.outcome_of-outcome.new.listener.ear) c.outcome_of-outcome.new.listener.number refl refl refl
    c.outcome_of-outcome.ensures.serves now.held refl number
    (sym c.outcome_of-outcome.ensures.permit ∙ some)

pub new-requires-2 : goal.new-requires-2
new-requires-2 g c =
    let checked = g.P.Publishing.checked in
    let now : ViewerOf = c.outcome_of-outcome.new.viewer in
    let last : ViewerOf = c.release_if-sent.new.viewer in
    let sender : ViewerOf = c.outcome_of-outcome.result.1 in
    let sent : ℕ = c.release_if-sent.result in
    let slot : Option ℕ = c.outcome_of-outcome.result.0.slot in
    let released = subst (λ (slot : Option ℕ). ReleasesIf slot sent now sender last)
    c.outcome_of-outcome.ensures.permit c.release_if-sent.ensures in
    let fresh : HasListened checked new_viewer [] c.in-Ok.listener =
    subst (λ (k : CheckedOf). HasListened k new_viewer [] c.in-Ok.listener) c.checked.ensures c.in-Ok.ensures.heard in
    witnessed_by checked c.new-viewer.result now last (sees_if slot sent now sender last released)
    (g.S.Source.left c.args.reader.now) (g.S.Source.left c.outcome_of-outcome.new.reader)
    (g.S.Source.has_failed c.outcome_of-outcome.new.reader) (g.S.Source.has_ended c.outcome_of-outcome.new.reader)
    (g.W.Sink.taken c.args.writer.now) (g.W.Sink.taken c.outcome_of-outcome.new.writer)
    (g.W.Sink.has_failed c.outcome_of-outcome.new.writer) c.in-Ok.listener c.outcome_of-outcome.new.listener
    (subst (λ (viewer : ViewerOf). HasListened checked viewer [] c.in-Ok.listener) (sym c.new-viewer.ensures) fresh)
    sender c.outcome_of-outcome.result.0 (λ none. (unreleased slot sent now sender last none released).0) sent
    c.is_requested.result c.confirmed.result
    c.number.result c.is_requested.ensures c.confirmed.ensures c.number.ensures c.outcome_of-outcome.ensures.serves
    c.is_accepted.ensures released

pub returns-clause-served : goal.returns-clause-served
returns-clause-served g c =
    let checked = g.P.Publishing.checked in
    let now : ViewerOf = c.outcome_of-outcome.new.viewer in
    let last : ViewerOf = c.release_if-sent.new.viewer in
    let sender : ViewerOf = c.outcome_of-outcome.result.1 in
    let sent : ℕ = c.release_if-sent.result in
    let slot : Option ℕ = c.outcome_of-outcome.result.0.slot in
    let released = subst (λ (slot : Option ℕ). ReleasesIf slot sent now sender last)
    c.outcome_of-outcome.ensures.permit c.release_if-sent.ensures in
    let fresh : HasListened checked new_viewer [] c.in-Ok.listener =
    subst (λ (k : CheckedOf). HasListened k new_viewer [] c.in-Ok.listener) c.checked.ensures c.in-Ok.ensures.heard in
    subst (IsServed checked
    (g.S.Source.left c.args.reader.now) (g.S.Source.left c.outcome_of-outcome.new.reader)
    (g.S.Source.has_failed c.outcome_of-outcome.new.reader) (g.S.Source.has_ended c.outcome_of-outcome.new.reader)
    (g.W.Sink.taken c.args.writer.now) (g.W.Sink.taken c.outcome_of-outcome.new.writer)
    (g.W.Sink.has_failed c.outcome_of-outcome.new.writer)) (sym c.new-2.ensures)
    (served_by checked c.new-viewer.result now last (sees_if slot sent now sender last released)
    (g.S.Source.left c.args.reader.now) (g.S.Source.left c.outcome_of-outcome.new.reader)
    (g.S.Source.has_failed c.outcome_of-outcome.new.reader) (g.S.Source.has_ended c.outcome_of-outcome.new.reader)
    (g.W.Sink.taken c.args.writer.now) (g.W.Sink.taken c.outcome_of-outcome.new.writer)
    (g.W.Sink.has_failed c.outcome_of-outcome.new.writer) c.in-Ok.listener c.outcome_of-outcome.new.listener
    (subst (λ (viewer : ViewerOf). HasListened checked viewer [] c.in-Ok.listener) (sym c.new-viewer.ensures) fresh)
    sender c.outcome_of-outcome.result.0 (λ none. (unreleased slot sent now sender last none released).0) sent
    c.is_requested.result c.confirmed.result
    c.number.result c.is_requested.ensures c.confirmed.ensures c.number.ensures c.outcome_of-outcome.ensures.serves)

pub returns-in_default-clause-permitted : goal.returns-in_default-clause-permitted
returns-in_default-clause-permitted g c slot some = refl

pub returns-clause-permitted : goal.returns-clause-permitted
returns-clause-permitted g c =
    subst (IsPermitted (g.W.Sink.has_refused c.args.writer.now)
    (g.W.Sink.has_refused c.outcome_of-outcome.new.writer)) (sym c.new-2.ensures) c.outcome_of-outcome.ensures.refused
