use Rattle.std.proofs.Common.{◌≡◌, ◌+◌, drop}
use Rattle.sql_reader.specs.Limits.{exprs_view}
use Rattle.sql_reader.specs.Counting.{all_places}
use Rattle.sql_reader.proofs.limits.are_few.Given as goal

-- what is left, and the places of the filters so far, add up to 128
abbrev pub invariant-loop-filter : goal.invariant-loop-filter
invariant-loop-filter l =
    l.left + all_places (exprs_view l.filters) ≡ 128 + all_places (exprs_view (drop l.filter-index l.filters))
