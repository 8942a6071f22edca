use Rattle.pgoutput_msgs.proofs.FaultLemmas.{faults_are_true}
use Rattle.pgoutput_msgs.proofs.SpellingLaws.{are_decoded, are_spellings, nothing_follows}
use Rattle.pgoutput_msgs.proofs.laws.spellings_are_decoded.Goals as goal

pub returns-clause-decoded : goal.returns-clause-decoded
returns-clause-decoded c = are_decoded

pub returns-clause-spelled : goal.returns-clause-spelled
returns-clause-spelled c = are_spellings

pub returns-clause-alone : goal.returns-clause-alone
returns-clause-alone c = nothing_follows

pub returns-clause-faults : goal.returns-clause-faults
returns-clause-faults c = faults_are_true
