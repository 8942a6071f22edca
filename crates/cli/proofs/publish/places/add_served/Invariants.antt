use Rattle.std.proofs.Common.{◌≡◌, ◌++◌}
use Rattle.cli.proofs.publish.places.add_served.Given as goal

abbrev pub invariant-loop-served : goal.invariant-loop-served
invariant-loop-served g l = l.all.items ++ l.served-iterator.rest.items ≡ l.initial.all.items ++ l.fn.berth.served.items
