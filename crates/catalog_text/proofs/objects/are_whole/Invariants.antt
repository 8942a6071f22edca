use Rattle.std.proofs.Common.{◌≡◌, drop, map}
use Rattle.pub_catalog.specs.CatalogView.{entry_view}
use Rattle.catalog_text.specs.CatalogText.{are_whole}
use Rattle.catalog_text.proofs.objects.are_whole.Given as goal

abbrev pub invariant-loop-entry : goal.invariant-loop-entry
invariant-loop-entry l = are_whole (map entry_view (drop l.entry-index l.entries)) ≡ are_whole (map entry_view l.entries)
