use Rattle.std.proofs.Common.{◌≡◌, ◌+◌, length, map}
use Rattle.pub_catalog.specs.CatalogView.{entry_view}
use Rattle.catalog_text.specs.CatalogText.{have_entries}
use Rattle.catalog_text.proofs.objects.have_entries.Given as goal

-- the test holds for the tables that are left, the first of which has this number, exactly if it holds for all
abbrev pub invariant-loop-rest : goal.invariant-loop-rest
invariant-loop-rest l = record {
  within : l.number + length l.rest ≡ length l.tables;
  same :
      have_entries l.tables (map entry_view l.entries) l.number l.rest
      ≡ have_entries l.tables (map entry_view l.entries) 0 l.tables;
}

abbrev pub decreases-loop-rest : goal.decreases-loop-rest
decreases-loop-rest l = length l.rest
