use Rattle.std.proofs.Common.{drop}
use Rattle.pgoutput_msgs.specs.Spelling.{cell_spelling}
use Rattle.pgoutput_msgs.proofs.Writing.{Writes}
use Rattle.pgoutput_msgs.proofs.tuple.put_cells.Given as goal

abbrev pub invariant-loop-cell : goal.invariant-loop-cell
invariant-loop-cell l = Writes cell_spelling l.fn.out l.out l.cells (drop l.cell-index l.cells)
