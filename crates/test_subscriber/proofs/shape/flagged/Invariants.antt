use Rattle.std.proofs.Common.{◌≡◌, ◌++◌, drop}
use Rattle.test_subscriber.specs.Shapes.{flagged_from}
use Rattle.test_subscriber.proofs.shape.flagged.Given as goal

-- the numbers so far, and the remaining ones
abbrev pub invariant-loop-number : goal.invariant-loop-number
invariant-loop-number l = l.key.items ++ flagged_from l.number (drop l.number l.columns) ≡ flagged_from 0 l.columns
