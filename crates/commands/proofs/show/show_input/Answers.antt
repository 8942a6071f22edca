use Rattle.std.proofs.Common.{rules}
use Rattle.std.specs.String.{string_bytes}
use Rattle.pub_catalog.specs.CatalogView.{catalog_view}
use Rattle.commands.proofs.Showing.{shown}
use Rattle.commands.proofs.show.show_input.Goals as goal

pub returns-clause-ends : goal.returns-clause-ends
returns-clause-ends g c =
    shown c.args.input.now (catalog_view c.in_ok-catalog.catalog) (search rules) c.in_ok-catalog.ensures.catalog
    (string_bytes c.in_ok-text.text) c.in_ok-text.ensures (g.W.Writer.contents c.args.writer.now)
    (g.W.Writer.contents c.write_shown.new.writer) c.write_shown.result c.write_shown.ensures.status
    c.write_shown.ensures.written c.write_shown.ensures.stopped
