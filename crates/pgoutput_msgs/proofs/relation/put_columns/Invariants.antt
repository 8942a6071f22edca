use Rattle.std.proofs.Common.{drop}
use Rattle.pgoutput_msgs.specs.Spelling.{column_spelling}
use Rattle.pgoutput_msgs.proofs.Writing.{Writes}
use Rattle.pgoutput_msgs.proofs.relation.put_columns.Given as goal

abbrev pub invariant-loop-column : goal.invariant-loop-column
invariant-loop-column l = Writes column_spelling l.fn.out l.out l.columns (drop l.column-index l.columns)
