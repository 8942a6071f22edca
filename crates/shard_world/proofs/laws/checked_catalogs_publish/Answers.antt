use Rattle.shard_world.proofs.PublisherLemmas.{checked_publish}
use Rattle.stream_laws.proofs.StartLengths.{subscribers_can_ask}
use Rattle.shard_world.proofs.laws.checked_catalogs_publish.Goals as goal

pub returns-clause-publish : goal.returns-clause-publish
returns-clause-publish c = checked_publish

pub returns-clause-ask : goal.returns-clause-ask
returns-clause-ask c = subscribers_can_ask
