use Rattle.senders.proofs.FollowingLemmas as lemmas
use Rattle.senders.proofs.laws.served_streams_tell_the_log.Goals as goal

pub returns : goal.returns
returns c = lemmas.served_are_first_parts
