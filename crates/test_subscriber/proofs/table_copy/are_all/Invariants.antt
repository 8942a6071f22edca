use Rattle.test_subscriber.proofs.WholeLemmas.{Completes}
use Rattle.test_subscriber.proofs.table_copy.are_all.Given as goal

abbrev pub invariant-loop-number : goal.invariant-loop-number
invariant-loop-number l = Completes l.columns l.width l.number
