use Rattle.std.proofs.Common.{◌≡◌, drop}
use Rattle.tables_log.specs.Layers.{was_in}
use Rattle.tables_log.proofs.layers.was_found.Given as goal

abbrev pub invariant-loop-other : goal.invariant-loop-other
invariant-loop-other g l = was_in g.K.Ord.cmp (drop l.other-index l.undo) l.key ≡ was_in g.K.Ord.cmp l.undo l.key
