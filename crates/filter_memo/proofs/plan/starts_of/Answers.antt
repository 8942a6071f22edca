use Rattle.filter_memo.proofs.Planning.{ends_on, plans_more}
use Rattle.filter_memo.proofs.plan.starts_of.Goals as goal

pub loop-filter-preserved : goal.loop-filter-preserved
loop-filter-preserved c = record {
  ends = ends_on c.args.parts.now c.loop-filter.branches.items c.add_start.new.branches.items c.in_ok-start.ensures.kept
      c.loop-filter.invariant.ends;
  plans = plans_more c.args.parts.now c.args.filters.now c.loop-filter.filter-index c.filter-item.result
      c.loop-filter.branches.items c.add_start.new.branches.items c.loop-filter.starts.items
      c.push_start.new.starts.items
      c.in_ok-start.start c.loop-filter-test.true c.filter-item.is c.loop-filter.invariant.ends
      c.loop-filter.invariant.plans c.in_ok-start.ensures c.in_ok-push_start.ensures;
}
