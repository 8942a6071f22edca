use Rattle.pgoutput_msgs.proofs.SeenMessageLemmas.{tells_what_is_seen}
use Rattle.pgoutput_msgs.proofs.laws.messages_tell_what_is_seen.Goals as goal

pub returns : goal.returns
returns c = tells_what_is_seen
