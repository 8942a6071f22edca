use Rattle.std.proofs.Common.{drop}
use Rattle.pgoutput_msgs.specs.Spelling.{column_spelling}
use Rattle.pgoutput_msgs.proofs.Writing.{Measures}
use Rattle.pgoutput_msgs.proofs.relation.columns_len.Given as goal

abbrev pub invariant-loop-column : goal.invariant-loop-column
invariant-loop-column l = Measures column_spelling l.columns (drop l.column-index l.columns) l.total
