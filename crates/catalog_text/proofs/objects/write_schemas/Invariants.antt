use Rattle.std.proofs.Common.{◌≡◌, ◌++◌, drop, map}
use Rattle.std.specs.String.{string_bytes}
use Rattle.pub_catalog.specs.CatalogView.{entry_view}
use Rattle.catalog_text.specs.CatalogText.{schemas_from}
use Rattle.catalog_text.proofs.objects.write_schemas.Given as goal

-- what is written, and the entries that are left, make up the text of all
abbrev pub invariant-loop-number : goal.invariant-loop-number
invariant-loop-number l =
    string_bytes l.text ++ schemas_from l.tables (map entry_view l.entries) l.number
    (map entry_view (drop l.number l.entries))
    ≡ string_bytes l.fn.text ++ schemas_from l.tables (map entry_view l.entries) 0 (map entry_view l.entries)
