use Rattle.std.proofs.Common.{◌∙◌, ap}
use Rattle.pub_catalog.specs.CatalogView.{catalog_view}
use Rattle.shard_checker.specs.Texts.{texts_view}
use Rattle.commands.proofs.Simulating.{verdict_has}
use Rattle.commands.proofs.simulate.verdict_by.Goals as goal

pub returns-clause-ok : goal.returns-clause-ok
returns-clause-ok c =
    let says = c.in_ok-verdict.ensures in
    verdict_has (catalog_view c.args.catalog) c.args.certificates.now (texts_view c.as_slice.result.now)
    c.in_ok-verdict.verdict (ap texts_view c.as_slice.ensures.value ∙ c.in_ok-texts.ensures) says.read says.sound
    says.kept says.unrefused says.refused says.wrong
