use Rattle.pgoutput_msgs.proofs.IntroducingLemmas.{commits_introduce, in_turn_introduce}
use Rattle.pgoutput_msgs.proofs.RecordedLemmas.{records_of_tables, logs_of_tables}
use Rattle.pgoutput_msgs.proofs.laws.relations_come_once.Goals as goal

pub returns-clause-one : goal.returns-clause-one
returns-clause-one c = commits_introduce

pub returns-clause-all : goal.returns-clause-all
returns-clause-all c = in_turn_introduce

pub returns-clause-recorded : goal.returns-clause-recorded
returns-clause-recorded c = records_of_tables

pub returns-clause-logged : goal.returns-clause-logged
returns-clause-logged c = logs_of_tables
