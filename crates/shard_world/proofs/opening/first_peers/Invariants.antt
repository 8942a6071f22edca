use Rattle.std.proofs.Common.{map, take}
use Rattle.pub_catalog.specs.CatalogView.{publication_view}
use Rattle.shard_world.specs.FirstPeers.{AreFirstPeers}
use Rattle.shard_world.proofs.opening.first_peers.Given as goal

abbrev pub invariant-loop-subscription : goal.invariant-loop-subscription
invariant-loop-subscription l =
    AreFirstPeers (map publication_view l.publications) (take l.subscription-index l.subscription-items) l.peers.items
