use Rattle.std.proofs.Common.{Some, ap, ◌∙◌}
use Rattle.filter_memo.proofs.Branching.{end_there, next_is}
use Rattle.filter_memo.proofs.branches.run.Goals as goal

pub loop-preserved : goal.loop-preserved
loop-preserved c = λ tri leads.
    next_is c.of-values.result c.args.branches.now tri c.loop.at c.in-Test.clause c.in-Test.exits c.tell.result
    c.of-at.result (c.in_ok-tri.ensures ∙ ap Some c.in-Test.is) c.tell.ensures c.of-at.ensures
    (c.loop.invariant tri leads)

pub returns-in-End : goal.returns-in-End
returns-in-End c = λ other lead.
    end_there c.of-values.result c.args.branches.now c.in-End.tri other c.loop.at
    (c.in_ok-tri.ensures ∙ ap Some c.in-End.is)
    (c.loop.invariant other (lead c.of-values.result (record {
      holds = c.of-values.ensures.holds;
      fails = c.of-values.ensures.fails;
    })))
