use Rattle.std.proofs.Common.{length}
use Rattle.tables_log.proofs.LayerLemmas.{Rewinds}
use Rattle.tables_log.proofs.layers.write_back.Given as goal

abbrev pub invariant-loop-key : goal.invariant-loop-key
invariant-loop-key g l = Rewinds g.K.Ord.cmp l.base l.initial.base l.undo.items l.initial.undo.items

abbrev pub decreases-loop-key : goal.decreases-loop-key
decreases-loop-key g l = length l.undo.items
