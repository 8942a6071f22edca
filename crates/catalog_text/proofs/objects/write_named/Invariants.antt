use Rattle.std.proofs.Common.{◌≡◌, ◌++◌, drop, map}
use Rattle.std.specs.Prelude.{codes}
use Rattle.std.specs.List.{flat_map, join_by}
use Rattle.std.specs.String.{string_bytes}
use Rattle.pub_catalog.specs.CatalogView.{entry_view}
use Rattle.catalog_text.specs.CatalogText.{object_text}
use Rattle.catalog_text.proofs.objects.write_named.Given as goal

-- what is written, and the entries that are left, each after a comma, make up the text of all
abbrev pub invariant-loop-entry : goal.invariant-loop-entry
invariant-loop-entry l =
    string_bytes l.text ++ flat_map (λ entry. codes ", " ++ object_text l.tables entry)
    (map entry_view (drop l.entry-index l.others))
    ≡ string_bytes l.fn.text ++ join_by (object_text l.tables) (codes ", ") (map entry_view l.entries)
