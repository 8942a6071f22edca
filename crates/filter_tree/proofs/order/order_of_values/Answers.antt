use Rattle.std.proofs.Common.{sym, ◌∙◌}
use Rattle.std.specs.Cmp.Derive.Mapped.{lex_map}
use Rattle.filter_tree.specs.Order.{datum_cmp, row_cmp}
use Rattle.filter_tree.specs.Values.{datum_view}
use Rattle.filter_tree.proofs.order.order_of_values.Goals as goal

-- the values of the two rows are compared as plain data
pub returns : goal.returns
returns g c = c.cmp.ensures
    ∙ sym (lex_map (λ value. datum_view value) datum_cmp c.values.result.now c.values-2.result.now)
    ∙ (λ i. row_cmp (c.values.ensures i) (c.values-2.ensures i))
