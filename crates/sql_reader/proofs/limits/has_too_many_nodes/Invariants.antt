use Rattle.std.proofs.Common.{◌≡◌, ◌+◌, drop}
use Rattle.sql_reader.specs.Limits.{all_nodes, exprs_view}
use Rattle.sql_reader.proofs.limits.has_too_many_nodes.Given as goal

-- what is left, and the nodes of the filters so far, add up to 1,000
abbrev pub invariant-loop-filter : goal.invariant-loop-filter
invariant-loop-filter l =
    l.left + all_nodes (exprs_view l.filters) ≡ 1000 + all_nodes (exprs_view (drop l.filter-index l.filters))
