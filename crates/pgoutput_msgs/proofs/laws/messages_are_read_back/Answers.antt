use Rattle.pgoutput_msgs.proofs.SentLemmas.{each_read_back}
use Rattle.pgoutput_msgs.proofs.laws.messages_are_read_back.Goals as goal

pub returns : goal.returns
returns c = each_read_back
