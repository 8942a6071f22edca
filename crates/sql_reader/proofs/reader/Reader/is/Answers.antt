use Rattle.std.proofs.Common.{ap, sym, ◌∙◌}
use Rattle.sql_reader.specs.Reading as spec
use Rattle.sql_reader.specs.Reading.{is_like_ahead}
use Rattle.sql_reader.proofs.reader.Reader.is.Goals as goal

-- nothing is ahead
pub returns-in-None : goal.returns-in-None
unfolding spec.is_ahead
returns-in-None c = ap (is_like_ahead c.args.item) (sym c.in-None.is ∙ c.item.ensures)
