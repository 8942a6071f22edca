use Rattle.std.proofs.Common.{◌≡◌, ◌++◌, map, drop}
use Rattle.pub_catalog.specs.CatalogView.{catalog_view}
use Rattle.replica_identity.specs.Plans.{shares_for}
use Rattle.replica_identity.specs.Shares.{share_view}
use Rattle.replica_identity.proofs.planning.all_shares.Given as goal

-- the shares so far, and those of the subscriptions that are left
abbrev pub invariant-loop-subscription : goal.invariant-loop-subscription
invariant-loop-subscription l =
    map (λ shares. map share_view shares.items) l.all.items
    ++ map (shares_for (catalog_view l.catalog)) (drop l.subscription-index l.subscription-items)
    ≡ map (shares_for (catalog_view l.catalog)) l.subscription-items
