use Rattle.std.proofs.Common.{take}
use Rattle.filter_memo.specs.Plans.{ArePlans, HasEnds, filters_view}
use Rattle.filter_memo.proofs.plan.starts_of.Given as goal

-- the branches so far are those of the filters so far
abbrev pub invariant-loop-filter : goal.invariant-loop-filter
invariant-loop-filter l = record {
  ends : HasEnds l.branches.items;
  plans : ArePlans l.parts (filters_view (take l.filter-index l.filters)) l.branches.items l.starts.items;
}
