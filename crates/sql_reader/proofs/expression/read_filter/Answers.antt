use Rattle.std.proofs.Common.{ap, ◌∙◌}
use Rattle.sql_reader.specs.Items.{to_read}
use Rattle.sql_reader.specs.Operands.{wanted}
use Rattle.sql_reader.specs.Reading.{and_then, check, with_rest}
use Rattle.sql_reader.specs.Written.{as_filter}
use Rattle.sql_reader.specs.Expressions as spec
use Rattle.sql_reader.proofs.expression.read_filter.Goals as goal

-- the whole expression, and the filter that it is
pub returns : goal.returns
unfolding spec.expression
returns c = (
  ap (λ whole. and_then whole (λ part. check (wanted as_filter part))) c.in_ok-whole.ensures.0
      ∙ ap (λ verdict. with_rest verdict (to_read c.disjunction.new.r)) c.in_ok-wanted.ensures,
  c.in_ok-whole.ensures.1,
)
