use Rattle.tables_log.proofs.StandLemmas.{books_are_right}
use Rattle.tables_log.proofs.laws.books_stand_for_transactions.Goals as goal

pub returns-clause-rows : goal.returns-clause-rows
returns-clause-rows c = books_are_right
