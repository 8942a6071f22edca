use Rattle.std.proofs.Common.{ap, sym}
use Rattle.sql_reader.specs.KindNames.{kind_name}
use Rattle.sql_reader.proofs.error.ErrorKind.name.Goals as goal

pub returns-in-NoKey : goal.returns-in-NoKey
returns-in-NoKey c = ap kind_name (sym c.in-NoKey.is)
