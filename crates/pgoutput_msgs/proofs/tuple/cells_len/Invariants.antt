use Rattle.std.proofs.Common.{drop}
use Rattle.pgoutput_msgs.specs.Spelling.{cell_spelling}
use Rattle.pgoutput_msgs.proofs.Writing.{Measures}
use Rattle.pgoutput_msgs.proofs.tuple.cells_len.Given as goal

abbrev pub invariant-loop-cell : goal.invariant-loop-cell
invariant-loop-cell l = Measures cell_spelling l.cells (drop l.cell-index l.cells) l.total
