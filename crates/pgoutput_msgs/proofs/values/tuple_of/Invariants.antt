use Rattle.std.proofs.Common.{map}
use Rattle.filter_tree.specs.Values.{datum_view}
use Rattle.pgoutput_msgs.specs.Ranges.{IsCellText}
use Rattle.pgoutput_msgs.specs.ValueText.{cells_of}
use Rattle.pgoutput_msgs.proofs.GatheringLemmas.{Gathers}
use Rattle.pgoutput_msgs.proofs.values.tuple_of.Given as goal

abbrev pub invariant-loop-value : goal.invariant-loop-value
invariant-loop-value g l =
    Gathers IsCellText (λ number left. cells_of (map datum_view left)) l.values l.cells.items l.value-index
