use Rattle.std.proofs.Common.{ℕ, List, take, sym, subst}
use Rattle.filter_memo.specs.Telling.{TellsThese, numbers_in, numbers_at}
use Rattle.filter_memo.proofs.Judging.{both_values, numbers_more}
use Rattle.filter_memo.proofs.telling.locate_all.Goals as goal

pub loop-number-preserved : goal.loop-number-preserved
loop-number-preserved c = λ are.
    let before = c.loop-number.invariant are in
    let now = c.locate.ensures before.kept in
    record {
      kept = now.kept;
      values = subst (λ (numbers : List ℕ). TellsThese c.args.parts.now numbers c.args.row.now c.join-said.result)
          (sym (numbers_more c.args.all_breakpoints.now c.loop-number.number c.loop-number-test.true))
          (both_values c.args.parts.now c.args.row.now
          (numbers_in (take c.loop-number.number c.args.all_breakpoints.now))
          (numbers_at c.args.all_breakpoints.now c.loop-number.number) c.loop-number.said c.locate.result
          c.join-said.result
          before.values now.values c.join-said.ensures);
    }
