use Rattle.std.proofs.Common.{◌≡◌, length, map}
use Rattle.pub_catalog.specs.CatalogView.{entry_view}
use Rattle.catalog_text.specs.CatalogText.{are_ascending}
use Rattle.catalog_text.proofs.objects.are_ascending.Given as goal

abbrev pub invariant-loop-rest : goal.invariant-loop-rest
invariant-loop-rest l = are_ascending (map entry_view l.rest) ≡ are_ascending (map entry_view l.entries)

abbrev pub decreases-loop-rest : goal.decreases-loop-rest
decreases-loop-rest l = length l.rest
