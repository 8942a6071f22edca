use Rattle.std.proofs.Common.{◌≡◌, ◌≤◌, drop, length, ap, arith}
use Rattle.std.proofs.lemmas.List.{drop_all}
use Rattle.sql_reader.specs.Limits.{exprs_view}
use Rattle.sql_reader.specs.Counting.{all_places}
use Rattle.sql_reader.proofs.CountingLemmas.{few}
use Rattle.sql_reader.proofs.limits.are_few.Goals as goal

-- no filter is left, so all have at most 128 places
pub returns : goal.returns
returns c = λ always.
    let filters = c.args.filters.now in
    let index = c.loop-filter.filter-index in
    let past : length filters ≤ index = omega (arith, c.loop-filter-test.false) in
    let none : all_places (exprs_view (drop index filters)) ≡ 0 =
    ap (λ left. all_places (exprs_view left)) (drop_all index filters past) in
    few (exprs_view filters) (omega (arith, c.loop-filter.invariant, none))
