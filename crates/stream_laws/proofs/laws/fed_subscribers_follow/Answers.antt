use Rattle.stream_laws.proofs.FollowingBytesLemmas.{nothing_is_fed, stopped_follow, lost_follow}
use Rattle.stream_laws.proofs.laws.fed_subscribers_follow.Goals as goal

pub returns-clause-nothing : goal.returns-clause-nothing
returns-clause-nothing c = nothing_is_fed

pub returns-clause-stops : goal.returns-clause-stops
returns-clause-stops c = stopped_follow

pub returns-clause-lost : goal.returns-clause-lost
returns-clause-lost c = lost_follow
