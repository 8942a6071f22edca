use Rattle.std.proofs.Common.{sym, ap, ◌∙◌}
use Rattle.std.proofs.Math.Facts.{to_z-of_z}
use Rattle.filter_tree.specs.Datum.{Number, Known}
use Rattle.filter_memo.proofs.Finding.{found_is_bound}
use Rattle.filter_memo.proofs.covering.has_number.Goals as goal

pub returns : goal.returns
returns c = λ so. found_is_bound c.args.bounds.now c.number_value-value.result (Number c.args.number)
    c.binary_search.result (c.number_value-value.ensures ∙ ap (λ n. Known (Number n)) (to_z-of_z c.ranges.number))
    c.binary_search.ensures.bound c.binary_search.ensures.ok (sym c.is_ok.ensures.value ∙ so)
