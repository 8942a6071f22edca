use Rattle.std.proofs.Common.{sym, ◌∙◌}
use Rattle.filter_tree.specs.Values.{constant_view}
use Rattle.filter_memo.proofs.Finding.{found_is_bound}
use Rattle.filter_memo.proofs.covering.has.Goals as goal

pub returns : goal.returns
returns c = λ so. found_is_bound c.args.bounds.now c.in_ok-value.value (constant_view c.args.literal.now)
    c.binary_search.result c.in_ok-value.ensures c.binary_search.ensures.bound c.binary_search.ensures.ok
    (sym c.is_ok.ensures.value ∙ so)
