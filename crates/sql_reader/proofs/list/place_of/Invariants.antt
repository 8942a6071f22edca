use Rattle.filter_tree.specs.Values.{constant_view}
use Rattle.sql_reader.proofs.Placing.{Passed}
use Rattle.sql_reader.proofs.list.place_of.Given as goal

-- the literals before the index come before the literal
abbrev pub invariant-loop-index : goal.invariant-loop-index
invariant-loop-index l = Passed constant_view l.literals (constant_view l.literal) l.index
