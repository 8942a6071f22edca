use Rattle.std.proofs.Common.{◌∙◌, ap, length, map}
use Rattle.std.specs.Prelude.{fold, replicate}
use Rattle.pub_catalog.specs.CatalogView.{catalog_view, publication_view}
use Rattle.replica_identity.specs.Joining.{joined_at}
use Rattle.replica_identity.specs.Plans.{entries_listed}
use Rattle.replica_identity.specs.Shares.{Nothing, share_view}
use Rattle.replica_identity.proofs.JoiningLemmas.{joined_all}
use Rattle.replica_identity.proofs.planning.shares_for.Goals as goal

pub returns : goal.returns
returns c =
    let catalog = catalog_view c.args.catalog.now in
    let entries = entries_listed catalog.publications c.args.subscription.now.publications in
    c.in_ok-join_publications.ensures
    ∙ ap (λ ps. fold joined_at (map share_view c.in_ok-shares.shares.items)
    (entries_listed (map publication_view ps) c.as_slice.result.now)) c.as_slice-publications.ensures.value
    ∙ ap (λ ns. fold joined_at (map share_view c.in_ok-shares.shares.items) (entries_listed catalog.publications ns))
    c.as_slice.ensures
    ∙ ap (λ shares. fold joined_at shares entries)
    (c.in_ok-shares.ensures ∙ ap (λ ts. replicate (length ts) Nothing) c.as_slice-tables.ensures.value)
    ∙ joined_all entries catalog.tables
