use Rattle.filter_tree.specs.declared.tri.Tri.{Tri}
use Rattle.filter_memo.specs.Branches.{Leads}
use Rattle.filter_memo.proofs.branches.run.Given as goal

-- the branches lead from here to where they lead from the start
abbrev pub invariant-loop : goal.invariant-loop
invariant-loop l = (tri : Tri) → Leads l.branches l.values tri l.start → Leads l.branches l.values tri l.at
