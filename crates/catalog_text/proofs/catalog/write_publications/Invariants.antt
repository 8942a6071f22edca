use Rattle.std.proofs.Common.{◌≡◌, ◌++◌, drop, map}
use Rattle.std.specs.List.{flat_map}
use Rattle.std.specs.String.{string_bytes}
use Rattle.pub_catalog.specs.CatalogView.{publication_view}
use Rattle.catalog_text.specs.CatalogText.{publication_text}
use Rattle.catalog_text.proofs.catalog.write_publications.Given as goal

-- what is written, and the publications that are left, make up the text of all
abbrev pub invariant-loop-publication : goal.invariant-loop-publication
invariant-loop-publication l =
    string_bytes l.text ++ flat_map (publication_text l.tables)
    (map publication_view (drop l.publication-index l.publications))
    ≡ string_bytes l.fn.text ++ flat_map (publication_text l.tables) (map publication_view l.publications)
