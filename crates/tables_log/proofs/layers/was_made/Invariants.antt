use Rattle.std.proofs.Common.{◌≡◌, drop}
use Rattle.tables_log.specs.Layers.{made_by_change}
use Rattle.tables_log.proofs.layers.was_made.Given as goal

abbrev pub invariant-loop-other : goal.invariant-loop-other
invariant-loop-other g l =
    made_by_change g.K.Ord.cmp (drop l.other-index l.made) l.key ≡ made_by_change g.K.Ord.cmp l.made l.key
