use Rattle.std.proofs.Common.{◌≡◌, []}
use Rattle.cli.specs.Connections.{served_at}
use Rattle.cli.proofs.publish.places.free_berths.Given as goal

abbrev pub invariant-loop : goal.invariant-loop
invariant-loop g l = served_at l.berths.items ≡ []
