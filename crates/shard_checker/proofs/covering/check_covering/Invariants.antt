use Rattle.std.proofs.Common.{◌≡◌, drop, map}
use Rattle.pub_catalog.specs.CatalogView.{publication_view}
use Rattle.shard_checker.specs.CatalogRefusal.{covering_refusal}
use Rattle.shard_checker.proofs.covering.check_covering.Given as goal

-- the refusal of those that are left is that of all
abbrev pub invariant-loop-number : goal.invariant-loop-number
invariant-loop-number l =
    covering_refusal l.tables l.subscriptions l.number (map publication_view (drop l.number l.publications))
    ≡ covering_refusal l.tables l.subscriptions 0 (map publication_view l.publications)
