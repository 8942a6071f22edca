use Rattle.std.proofs.Common.{sym, arith}
use Rattle.filter_tree.specs.Values.{constant_view}
use Rattle.sql_reader.proofs.Placing.{passed_less, passed_equal}
use Rattle.sql_reader.proofs.list.place_of.Goals as goal

pub returns-in-Less : goal.returns-in-Less
returns-in-Less c = (
  omega arith,
  passed_less constant_view c.args.literals.now (constant_view c.args.literal.now) c.loop-index.index
      c.index-literals-index.result (omega arith) (cc) (sym c.in-Less.ensures) c.loop-index.invariant,
)

pub returns-in-Equal : goal.returns-in-Equal
returns-in-Equal c =
    passed_equal constant_view c.args.literals.now (constant_view c.args.literal.now) c.loop-index.index
    c.index-literals-index.result (omega arith) (cc) (sym c.in-Equal.ensures) c.loop-index.invariant
