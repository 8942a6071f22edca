use Rattle.std.proofs.Common.{◌≡◌, length}
use Rattle.tables_log.specs.Layers.{below}
use Rattle.tables_log.proofs.layers.settle_in.Given as goal

abbrev pub invariant-loop-key : goal.invariant-loop-key
invariant-loop-key g l = (key : _) → below g.K.Ord.cmp l.base key ≡ below g.K.Ord.cmp l.initial.base key

abbrev pub decreases-loop-key : goal.decreases-loop-key
decreases-loop-key g l = length l.undo.items
