use Rattle.std.proofs.Common.{◌≡◌, ◌+◌, ◌∷◌, [], ◌++◌, ap, arith, map, subst, sym, take, ◌∙◌}
use Rattle.std.proofs.lemmas.List.{take_more}
use Rattle.pub_catalog.specs.CatalogView.{publication_view}
use Rattle.shard_world.specs.FirstPeers.{AreFirstPeers}
use Rattle.shard_world.proofs.FirstPeerLemmas.{one_more}
use Rattle.shard_world.proofs.opening.first_peers.Goals as goal

pub loop-subscription-preserved : goal.loop-subscription-preserved
loop-subscription-preserved c =
    let publications = map publication_view c.as_slice-publications.result.now in
    let subscriptions = c.as_slice-subscription-items.result.now in
    let index = c.loop-subscription.subscription-index in
    let more : take (index + 1) subscriptions ≡ take index subscriptions ++ c.subscription-item.result ∷ [] =
    take_more subscriptions index c.subscription-item.result (omega arith)
    ∙ ap (λ one. take index subscriptions ++ one ∷ []) (sym c.subscription-item.is) in
    subst (λ peers. AreFirstPeers publications (take (index + 1) subscriptions) peers) (sym c.in_ok-push.ensures.items)
    (subst (λ its. AreFirstPeers publications its
    (c.loop-subscription.peers.items ++ c.in_ok-first_peer.field-0 ∷ [])) (sym more)
    (one_more publications (take index subscriptions) c.loop-subscription.peers.items c.subscription-item.result
    c.in_ok-first_peer.field-0 c.loop-subscription.invariant c.in_ok-first_peer.ensures))
