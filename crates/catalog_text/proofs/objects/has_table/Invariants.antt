use Rattle.std.proofs.Common.{◌≡◌, drop, map}
use Rattle.pub_catalog.specs.CatalogView.{entry_view}
use Rattle.catalog_text.specs.CatalogText.{has_entry}
use Rattle.catalog_text.proofs.objects.has_table.Given as goal

abbrev pub invariant-loop-entry : goal.invariant-loop-entry
invariant-loop-entry l = has_entry l.number (map entry_view (drop l.entry-index l.entries)) ≡ has_entry l.number (map entry_view l.entries)
