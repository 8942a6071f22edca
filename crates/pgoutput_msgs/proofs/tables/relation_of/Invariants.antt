use Rattle.pgoutput_msgs.specs.Ranges.{HasTextName}
use Rattle.pgoutput_msgs.specs.Telling.{columns_from}
use Rattle.pgoutput_msgs.proofs.GatheringLemmas.{Gathers}
use Rattle.pgoutput_msgs.proofs.tables.relation_of.Given as goal

abbrev pub invariant-loop-place : goal.invariant-loop-place
invariant-loop-place l = Gathers HasTextName (columns_from l.table) l.columns l.made.items l.place
