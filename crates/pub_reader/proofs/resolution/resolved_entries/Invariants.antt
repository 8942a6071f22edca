use Rattle.std.proofs.Common.{◌≡◌, ◌++◌, drop, map}
use Rattle.pub_catalog.specs.CatalogView.{entry_view}
use Rattle.pub_reader.specs.Drafts.{takes_table, whole_from, resolved_entries}
use Rattle.pub_reader.specs.DraftView.{coverage_view}
use Rattle.pub_reader.proofs.resolution.resolved_entries.Given as goal

abbrev pub invariant-loop-number : goal.invariant-loop-number
invariant-loop-number l = record {
  so_far : map entry_view l.coverage.entries.items
      ++ whole_from (takes_table l.coverage.everything l.coverage.schemas) l.number (drop l.number l.tables)
      ≡ resolved_entries l.tables (coverage_view l.fn.coverage);
}
