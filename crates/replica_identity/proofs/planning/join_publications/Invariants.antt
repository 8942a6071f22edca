use Rattle.std.proofs.Common.{◌≡◌, map, drop}
use Rattle.std.specs.Prelude.{fold}
use Rattle.pub_catalog.specs.CatalogView.{publication_view}
use Rattle.replica_identity.specs.Joining.{joined_at}
use Rattle.replica_identity.specs.Plans.{entries_listed}
use Rattle.replica_identity.specs.Shares.{share_view}
use Rattle.replica_identity.proofs.planning.join_publications.Given as goal

-- the publications that are left, joined to the shares so far
abbrev pub invariant-loop-number : goal.invariant-loop-number
invariant-loop-number l =
    fold joined_at (map share_view l.shares.items)
    (entries_listed (map publication_view l.publications) (drop l.number-index l.numbers))
    ≡ fold joined_at (map share_view l.fn.shares.items) (entries_listed (map publication_view l.publications) l.numbers)
