use Rattle.senders.specs.Listening.{HasStarted, HearsMore}
use Rattle.senders.proofs.listening.listen.Given as goal

abbrev pub invariant-loop : goal.invariant-loop
invariant-loop g l = (HearsMore g.P.Publishing.checked l.initial.viewer l.viewer (g.S.Source.left l.initial.reader) (g.S.Source.left l.reader)
    l.initial.listener l.listener) × HasStarted l.listener
