use Rattle.pub_catalog.specs.CatalogView.{catalog_view}
use Rattle.commands.specs.Parts.{CutTwice}
use Rattle.commands.proofs.Simulating.{catalog_stops, certificate_stops, script_stops}
use Rattle.commands.proofs.simulate.read_parts.Goals as goal

pub returns-in_err-catalog-clause-err : goal.returns-in_err-catalog-clause-err
returns-in_err-catalog-clause-err c =
    let cut : CutTwice = record
    { first = c.args.text.now; second = c.args.certificates.now; third = c.args.script.now } in
    catalog_stops cut c.in_err-catalog.field-0.0 c.in_err-catalog.ensures.catalog c.from_residual.result
    c.from_residual.ensures.1

pub returns-in_err-verdict-clause-err : goal.returns-in_err-verdict-clause-err
returns-in_err-verdict-clause-err c =
    let cut : CutTwice = record
    { first = c.args.text.now; second = c.args.certificates.now; third = c.args.script.now } in
    certificate_stops cut (catalog_view c.in_ok-catalog.catalog) c.in_ok-catalog.ensures.catalog
    c.in_err-verdict.field-0.0 c.from_residual-in_err-verdict.result c.in_err-verdict.ensures.err
    c.from_residual-in_err-verdict.ensures.1

pub returns-in_err-lines-clause-err : goal.returns-in_err-lines-clause-err
returns-in_err-lines-clause-err c =
    let cut : CutTwice = record
    { first = c.args.text.now; second = c.args.certificates.now; third = c.args.script.now } in
    script_stops cut (catalog_view c.in_ok-catalog.catalog) c.in_ok-catalog.ensures.catalog
    c.in_ok-verdict.ensures.ok.certificates c.in_err-lines.field-0.0 c.from_residual-in_err-lines.result
    c.in_err-lines.ensures.err c.from_residual-in_err-lines.ensures.1
