use Rattle.std.proofs.Common.{◌≡◌, ◌++◌, All, map}
use Rattle.cli.specs.Connections.{HadMemory}
use Rattle.cli.specs.declared.connections.ConnectionPlace.TheVariants.{Ended}
use Rattle.cli.proofs.closing.served_in.Given as goal

abbrev pub invariant-loop-place : goal.invariant-loop-place
invariant-loop-place g l =
    (map Ended l.all.items ++ l.place-iterator.rest.items ≡ l.fn.places.items) × All HadMemory l.all.items
