use Rattle.std.proofs.Common.{drop}
use Rattle.pgoutput_msgs.specs.ValueText.{value_spelling}
use Rattle.pgoutput_msgs.proofs.RowWriting.{AreTextsBelow}
use Rattle.pgoutput_msgs.proofs.Writing.{Writes}
use Rattle.pgoutput_msgs.proofs.row_tuple.put_values.Given as goal

abbrev pub invariant-loop-value : goal.invariant-loop-value
invariant-loop-value l =
    Writes value_spelling l.fn.out l.out l.values (drop l.value-index l.values) × AreTextsBelow l.values l.value-index
