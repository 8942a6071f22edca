use Rattle.std.proofs.Common.{Ok, arith, ap, sym, map, ◌∙◌}
use Rattle.filter_tree.specs.Values.{datum_view}
use Rattle.sql_reader.specs.declared.item.Item.TheVariants.{Close}
use Rattle.sql_reader.specs.Items.{to_read}
use Rattle.sql_reader.specs.Reading.{and_then, expect, pure, ◌>>=◌, ◌>>◌}
use Rattle.sql_reader.specs.Rows as spec
use Rattle.sql_reader.proofs.row.read_values.Goals as goal

-- the values, and the parentheses around them
pub returns : goal.returns
unfolding spec.row_in_parentheses
returns c =
    let cells = map datum_view c.in_ok-values.values.items in (
      ap (λ opened. and_then opened (λ _. spec.values >>= (λ cells. expect Close >> pure cells)))
          c.in_ok-expect.ensures.takes.0
          ∙ ap (λ read. and_then read (λ cells. expect Close >> pure cells)) c.in_ok-values.ensures.0
          ∙ ap (λ closed. and_then closed (λ _. pure cells)) c.in_ok-expect-2.ensures.takes.0
          ∙ ap (λ cells. Ok (cells, to_read c.expect-2.new.self)) (sym c.from_values.ensures),
      omega (arith, c.in_ok-expect.ensures.takes.1, c.in_ok-values.ensures.1, c.in_ok-expect-2.ensures.takes.1),
    )
