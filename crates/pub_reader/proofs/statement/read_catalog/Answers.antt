use Rattle.pub_reader.proofs.CarryingCatalogs.{read_as_written}
use Rattle.pub_reader.proofs.statement.read_catalog.Goals as goal

pub returns-clause-catalog : goal.returns-clause-catalog
returns-clause-catalog c = c.whole_catalog.ensures

pub returns-clause-written : goal.returns-clause-written
returns-clause-written c = read_as_written c.args.text.now c.whole_catalog.result c.whole_catalog.ensures
