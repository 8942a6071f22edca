use Rattle.std.proofs.Common.{◌≡◌, ℕ, ◌∙◌, ap, not, rules, sym}
use Rattle.std.specs.Prelude.{Some, slice_get}
use Rattle.std.proofs.lemmas.Option.{gets}
use Rattle.senders.proofs.EndedLemmas.{none_here, set_here, stream_ended, unset_ended}
use Rattle.senders.proofs.SentLemmas.{no_connection, no_stream, stream_state}
use Rattle.senders.proofs.listener.note_heard.Goals as goal

pub returns-in_default-clause-sent : goal.returns-in_default-clause-sent
returns-in_default-clause-sent c =
    no_stream c.args.started c.args.was_started c.args.connections.now c.in_default.not-Some

pub returns-in_default-clause-ended : goal.returns-in_default-clause-ended
returns-in_default-clause-ended c = unset_ended c.args.started c.args.was_started c.args.connections.now

pub returns-in_default-clause-ahead : goal.returns-in_default-clause-ahead
returns-in_default-clause-ahead c ahead stream some = absurd (c.in_default.not-Some stream some)

pub returns-in_default-copied-clause-sent : goal.returns-in_default-copied-clause-sent
returns-in_default-copied-clause-sent c =
    no_connection c.args.started (c.stream.inside.slot, c.stream.inside.start) c.args.was_started
    c.args.connections.now c.copied.result (c.in-Some.is ∙ ap (λ (stream : ℕ × ℕ). Some stream) (sym c.stream.view_is))
    (search (rules, gets)) c.in_default-copied.not-Some

pub returns-in_default-copied-clause-ended : goal.returns-in_default-copied-clause-ended
returns-in_default-copied-clause-ended c = unset_ended c.args.started c.args.was_started c.args.connections.now

pub returns-in_default-copied-clause-ahead : goal.returns-in_default-copied-clause-ahead
returns-in_default-copied-clause-ahead c ahead =
    none_here c.args.started (c.stream.inside.slot, c.stream.inside.start) c.args.connections.now c.copied.result
    (c.in-Some.is ∙ ap (λ (stream : ℕ × ℕ). Some stream) (sym c.stream.view_is)) (search (rules, gets))
    c.in_default-copied.not-Some

pub returns-clause-sent : goal.returns-clause-sent
returns-clause-sent c =
    let found : c.copied.result ≡ slice_get c.args.connections.now c.stream.inside.slot = search (rules, gets) in
    stream_state c.args.started (c.stream.inside.slot, c.stream.inside.start) c.args.was_started
    c.args.connections.now c.in-Some-copied.connection c.connection_after.result
    (c.in-Some.is ∙ ap (λ (stream : ℕ × ℕ). Some stream) (sym c.stream.view_is)) (sym found ∙ c.in-Some-copied.is)
    (λ fresh. c.connection_after.ensures.begins (ap not fresh))
    (λ old. c.connection_after.ensures.goes_on (ap not old))

pub returns-clause-ended : goal.returns-clause-ended
returns-clause-ended c =
    let found : c.copied.result ≡ slice_get c.args.connections.now c.stream.inside.slot = search (rules, gets) in
    stream_ended c.args.started (c.stream.inside.slot, c.stream.inside.start) c.args.was_started
    c.args.connections.now c.in-Some-copied.connection c.connection_after.result
    (c.in-Some.is ∙ ap (λ (stream : ℕ × ℕ). Some stream) (sym c.stream.view_is)) (sym found ∙ c.in-Some-copied.is)
    (λ old ended. c.connection_after.ensures.stays (ap not old) ended)

pub returns-clause-ahead : goal.returns-clause-ahead
returns-clause-ahead c ahead =
    let found : c.copied.result ≡ slice_get c.args.connections.now c.stream.inside.slot = search (rules, gets) in
    set_here c.args.started (c.stream.inside.slot, c.stream.inside.start) c.args.connections.now
    c.in-Some-copied.connection c.connection_after.result
    (c.in-Some.is ∙ ap (λ (stream : ℕ × ℕ). Some stream) (sym c.stream.view_is)) (sym found ∙ c.in-Some-copied.is)
    (c.connection_after.ensures.ahead ahead)
