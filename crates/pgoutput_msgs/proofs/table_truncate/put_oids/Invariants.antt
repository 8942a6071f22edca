use Rattle.std.proofs.Common.{drop}
use Rattle.pgoutput_msgs.specs.Telling.{oid_spelling}
use Rattle.pgoutput_msgs.proofs.Writing.{Writes}
use Rattle.pgoutput_msgs.proofs.table_truncate.put_oids.Given as goal

abbrev pub invariant-loop-table : goal.invariant-loop-table
invariant-loop-table l = Writes oid_spelling l.fn.out l.out l.tables (drop l.table-index l.tables)
