use Rattle.std.proofs.Common.{◌≡◌, drop, map}
use Rattle.pub_catalog.specs.CatalogView.{entry_view}
use Rattle.catalog_text.specs.CatalogText.{has_schema}
use Rattle.catalog_text.proofs.objects.has_schema.Given as goal

abbrev pub invariant-loop-entry : goal.invariant-loop-entry
invariant-loop-entry l =
    has_schema l.tables (map entry_view (drop l.entry-index l.entries)) l.schema
    ≡ has_schema l.tables (map entry_view l.entries) l.schema
