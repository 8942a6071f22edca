use Rattle.senders.proofs.FollowingLemmas as lemmas
use Rattle.senders.proofs.laws.closed_publishers_were_followed.Goals as goal

pub returns-clause-explained : goal.returns-clause-explained
returns-clause-explained c = lemmas.closed_are_explained

pub returns-clause-streams : goal.returns-clause-streams
returns-clause-streams c = lemmas.closed_tell_the_log

pub returns-clause-clients : goal.returns-clause-clients
returns-clause-clients c = lemmas.closed_are_followed
