use Rattle.std.proofs.Common.{drop}
use Rattle.pgoutput_msgs.specs.Spelling.{int32}
use Rattle.pgoutput_msgs.proofs.Writing.{Writes}
use Rattle.pgoutput_msgs.proofs.truncate.put_oids.Given as goal

abbrev pub invariant-loop-oid : goal.invariant-loop-oid
invariant-loop-oid l = Writes int32 l.fn.out l.out l.oids (drop l.oid-index l.oids)
