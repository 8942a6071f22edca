use Rattle.std.proofs.Common.{◌≡◌, drop}
use Rattle.test_subscriber.specs.Shapes.{kinds_of}
use Rattle.test_subscriber.proofs.GatherLemmas.{after}
use Rattle.test_subscriber.proofs.shape.kinds_of.Given as goal

-- the types so far, and the remaining ones
abbrev pub invariant-loop-column : goal.invariant-loop-column
invariant-loop-column l = after l.kinds.items (kinds_of (drop l.column-index l.columns)) ≡ kinds_of l.columns
