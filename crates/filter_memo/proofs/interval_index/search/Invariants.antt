use Rattle.std.proofs.Common.{◌-◌}
use Rattle.filter_memo.proofs.interval_index.search.Given as goal

abbrev pub decreases-loop-first : goal.decreases-loop-first
decreases-loop-first l = l.last - l.first
