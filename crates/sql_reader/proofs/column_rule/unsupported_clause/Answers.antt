use Rattle.std.proofs.Common.{ap}
use Rattle.sql_reader.specs.ErrorKinds.{wrong_of}
use Rattle.sql_reader.proofs.column_rule.unsupported_clause.Goals as goal

pub returns : goal.returns
returns c = (c.refused.ensures.place, ap wrong_of c.refused.ensures.kind)
