use Rattle.cli.specs.Connections.{StayServed}
use Rattle.cli.proofs.publish.places.attend.Given as goal

abbrev pub invariant-loop : goal.invariant-loop
invariant-loop g l = StayServed g.P.Publishing.checked l.initial.berth.served.items l.berth.served.items
