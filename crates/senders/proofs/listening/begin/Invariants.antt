use Rattle.std.proofs.Common.{◌≡◌}
use Rattle.std.specs.Prelude.{None}
use Rattle.copy_both.specs.Ears.{ear_started}
use Rattle.senders.specs.Listening.{HearsMore}
use Rattle.senders.proofs.listening.begin.Given as goal

abbrev pub invariant-loop : goal.invariant-loop
invariant-loop g l = (HearsMore g.P.Publishing.checked l.initial.viewer l.viewer (g.S.Source.left l.initial.reader) (g.S.Source.left l.reader)
    l.initial.listener l.listener) × (ear_started l.listener.ear ≡ None)
