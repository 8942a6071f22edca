use Rattle.std.proofs.Common.{◌≡◌, length}
use Rattle.std.specs.Prelude.{None, if◌then◌else◌}
use Rattle.tables_log.specs.Layers.{below, made_by_change}
use Rattle.tables_log.proofs.layers.take_made.Given as goal

abbrev pub invariant-loop-key : goal.invariant-loop-key
invariant-loop-key g l = (key : _)
    → (if made_by_change g.K.Ord.cmp l.made.items key then None else below g.K.Ord.cmp l.base key)
    ≡ (if made_by_change g.K.Ord.cmp l.initial.made.items key then None else below g.K.Ord.cmp l.initial.base key)

abbrev pub decreases-loop-key : goal.decreases-loop-key
decreases-loop-key g l = length l.made.items
