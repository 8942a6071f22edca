use Rattle.shard_world.proofs.SubscriberFrameLemmas.{starts_are_heard, statuses_are_heard}
use Rattle.shard_world.proofs.laws.subscribers_are_heard.Goals as goal

pub returns-clause-start : goal.returns-clause-start
returns-clause-start c = starts_are_heard

pub returns-clause-statuses : goal.returns-clause-statuses
returns-clause-statuses c = statuses_are_heard
