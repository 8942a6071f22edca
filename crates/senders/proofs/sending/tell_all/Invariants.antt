use Rattle.std.specs.Prelude.{◌≡◌, map}
use Rattle.std.specs.Arc.{arc_value}
use Rattle.copy_frames.specs.Contents.{copy_both_response}
use Rattle.senders.specs.Sending.{TakesLogged, TellsOn, started_telling}
use Rattle.senders.proofs.sending.tell_all.Given as goal

abbrev pub invariant-loop : goal.invariant-loop
invariant-loop g l =
    (TellsOn (g.W.Sink.taken l.initial.writer) (g.W.Sink.taken l.writer)
    (map (λ commit. arc_value commit) l.taken.items) l.voice
    (started_telling g.P.Publishing.checked l.fn.started.0 l.fn.started.1 copy_both_response))
    × TakesLogged g.P.Publishing.checked l.initial.viewer l.viewer (map (λ commit. arc_value commit) l.taken.items)
    × (g.W.Sink.has_refused l.writer ≡ g.W.Sink.has_refused l.initial.writer)
