use Rattle.std.proofs.Common.{◌≡◌, ◌+◌, length, map}
use Rattle.pub_catalog.specs.CatalogView.{entry_view}
use Rattle.catalog_text.specs.CatalogText.{named_before}
use Rattle.catalog_text.proofs.objects.named_before.Given as goal

-- this number of entries are named, plus those that are named in the rest
abbrev pub invariant-loop-rest : goal.invariant-loop-rest
invariant-loop-rest l = record {
  within : l.number + length l.rest ≡ length l.entries;
  count :
      l.number + named_before l.tables (map entry_view l.rest)
      ≡ named_before l.tables (map entry_view l.entries);
}

abbrev pub decreases-loop-rest : goal.decreases-loop-rest
decreases-loop-rest l = length l.rest
