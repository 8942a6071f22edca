use Rattle.std.proofs.Common.{rules}
use Rattle.pub_catalog.specs.CatalogView.{catalog_view}
use Rattle.commands.proofs.FindingLines.{made}
use Rattle.commands.proofs.make.make_input.Goals as goal

pub returns-clause-ends : goal.returns-clause-ends
returns-clause-ends g c =
    made c.args.input.now (g.W.Writer.contents c.args.writer.now) (g.W.Writer.contents c.write_tables.new.writer)
    (catalog_view c.in_ok-catalog.catalog) (search rules) c.in_ok-catalog.ensures.catalog
    c.write_tables.result c.write_tables.ensures.written
