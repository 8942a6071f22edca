use Rattle.std.proofs.Common.{◌≡◌, ◌++◌, drop, map}
use Rattle.std.specs.Prelude.{codes}
use Rattle.std.specs.List.{flat_map, join_by}
use Rattle.std.specs.String.{string_bytes}
use Rattle.pub_catalog.specs.CatalogView.{publication_view}
use Rattle.catalog_text.specs.CatalogText.{publication_sql}
use Rattle.catalog_text.proofs.catalog.write_publication_names.Given as goal

-- what is written, and the publications that are left, each after a comma, make up the text of all
abbrev pub invariant-loop-number : goal.invariant-loop-number
invariant-loop-number l =
    string_bytes l.text
    ++ flat_map (λ number. codes ", " ++ publication_sql (map publication_view l.publications) number)
    (drop l.number-index l.others)
    ≡ string_bytes l.fn.text
    ++ join_by (publication_sql (map publication_view l.publications)) (codes ", ") l.numbers
