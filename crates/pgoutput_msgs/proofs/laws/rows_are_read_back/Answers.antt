use Rattle.pgoutput_msgs.proofs.OldRowLemmas.{recorded_back}
use Rattle.pgoutput_msgs.proofs.ReadBackLemmas.{rows_back, valid_rows_back}
use Rattle.pgoutput_msgs.proofs.laws.rows_are_read_back.Goals as goal

pub returns-clause-rows : goal.returns-clause-rows
returns-clause-rows c = rows_back

pub returns-clause-valid : goal.returns-clause-valid
returns-clause-valid c = valid_rows_back

pub returns-clause-recorded : goal.returns-clause-recorded
returns-clause-recorded c = recorded_back
