use Rattle.tables_log.proofs.StandLemmas.{listed_are_rows}
use Rattle.tables_log.proofs.laws.listed_rows_are_the_table.Goals as goal

pub returns : goal.returns
returns c = listed_are_rows
