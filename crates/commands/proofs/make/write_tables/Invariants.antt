use Rattle.std.proofs.Common.{◌≡◌}
use Rattle.pub_catalog.specs.CatalogView.{catalog_view}
use Rattle.commands.proofs.FindingLines.{IsSoFar}
use Rattle.commands.proofs.make.write_tables.Given as goal

abbrev pub invariant-loop-number : goal.invariant-loop-number
invariant-loop-number g l =
    IsSoFar (catalog_view l.catalog) l.number l.all (g.W.Writer.contents l.initial.writer)
    (g.W.Writer.contents l.writer) × (g.W.Writer.has_failed l.writer ≡ g.W.Writer.has_failed l.initial.writer)
