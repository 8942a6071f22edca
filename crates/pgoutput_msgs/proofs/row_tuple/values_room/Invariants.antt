use Rattle.std.proofs.Common.{drop}
use Rattle.pgoutput_msgs.specs.ValueText.{value_spelling}
use Rattle.pgoutput_msgs.proofs.Writing.{Covers}
use Rattle.pgoutput_msgs.proofs.row_tuple.values_room.Given as goal

abbrev pub invariant-loop-value : goal.invariant-loop-value
invariant-loop-value l = Covers value_spelling l.before l.values (drop l.value-index l.values) l.total
