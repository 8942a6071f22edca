use Rattle.senders.proofs.FollowingLemmas as lemmas
use Rattle.senders.proofs.laws.clients_of_connections_follow.Goals as goal

pub returns-clause-follow : goal.returns-clause-follow
returns-clause-follow c = lemmas.clients_follow

pub returns-clause-stop : goal.returns-clause-stop
returns-clause-stop c = lemmas.clients_stop
