use Rattle.std.proofs.Common.{◌≡◌, ◌++◌, map}
use Rattle.pub_catalog.specs.CatalogView.{publication_view}
use Rattle.pub_reader.specs.Drafts.{resolved_publication}
use Rattle.pub_reader.specs.DraftView.{draft_publication_view}
use Rattle.pub_reader.proofs.resolution.resolved.Given as goal

abbrev pub invariant-loop-publication : goal.invariant-loop-publication
invariant-loop-publication l =
    map publication_view l.made.items
    ++ map (resolved_publication l.tables) (map draft_publication_view l.publication-iterator.rest.items)
    ≡ map (resolved_publication l.tables) (map draft_publication_view l.fn.publications.items)
