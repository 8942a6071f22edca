use Rattle.std.proofs.Common.{sym, ◌∙◌, arith}
use Rattle.row_owners.proofs.SparedLemmas.{spared_by, one_spared, own_by, own_past}
use Rattle.row_owners.proofs.own_changes.next_of.Goals as goal

pub loop-place-preserved : goal.loop-place-preserved
loop-place-preserved c = record {
  onward = omega (arith, c.loop-place.invariant.onward);
  spared = one_spared c.args.sets.now c.args.subscriber c.args.from c.loop-place.place
      (spared_by c.args.sets.now c.args.subscriber c.loop-place.place _ c.if-subscriber-ge32.false
      c.loop-place-test.true (sym c.has.ensures ∙ c.if-not-has.true))
      c.loop-place.invariant.spared;
}

pub returns-else-not-has-clause-own : goal.returns-else-not-has-clause-own
returns-else-not-has-clause-own c = λ within.
    own_by c.args.sets.now c.args.subscriber c.loop-place.place _ c.loop-place-test.true
    (sym c.has.ensures ∙ c.if-not-has.false)

pub returns-after-loop-place-clause-own : goal.returns-after-loop-place-clause-own
returns-after-loop-place-clause-own c = λ within.
    own_past c.args.sets.now c.args.subscriber c.loop-place.place c.loop-place-test.false
