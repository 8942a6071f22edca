use Rattle.std.proofs.Common.{◌≡◌, ◌++◌}
use Rattle.cli.specs.Connections.{served_at}
use Rattle.cli.proofs.publish.places.served_at.Given as goal

abbrev pub invariant-loop-berth : goal.invariant-loop-berth
invariant-loop-berth g l = l.all.items ++ served_at l.berth-iterator.rest.items ≡ served_at l.fn.berths.items
