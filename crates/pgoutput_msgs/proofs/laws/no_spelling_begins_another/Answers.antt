use Rattle.pgoutput_msgs.proofs.SpellingLaws.{prefix_free, same_message}
use Rattle.pgoutput_msgs.proofs.laws.no_spelling_begins_another.Goals as goal

pub returns-clause-ends : goal.returns-clause-ends
returns-clause-ends c = prefix_free

pub returns-clause-one : goal.returns-clause-one
returns-clause-one c = same_message
