use Rattle.std.proofs.Common.{◌≤◌}
use Rattle.filter_tree.proofs.filter.Filter.TheLaws.{the_size}
use Rattle.filter_tree.proofs.filter.Filter.+drop.Given as goal

-- what is left is no deeper than the whole
abbrev pub invariant-loop-self : goal.invariant-loop-self
invariant-loop-self g l =
    the_size g.row.A g.A.Allocator g.A.laws l.self ≤ the_size g.row.A g.A.Allocator g.A.laws l.initial.self
