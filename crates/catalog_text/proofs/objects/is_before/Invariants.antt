use Rattle.std.proofs.Common.{◌≡◌, drop, map}
use Rattle.pub_catalog.specs.CatalogView.{entry_view}
use Rattle.catalog_text.specs.CatalogText.{is_before}
use Rattle.catalog_text.proofs.objects.is_before.Given as goal

abbrev pub invariant-loop-entry : goal.invariant-loop-entry
invariant-loop-entry l = is_before l.number (map entry_view (drop l.entry-index l.entries)) ≡ is_before l.number (map entry_view l.entries)
