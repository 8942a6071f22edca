use Rattle.replica_identity.specs.ChangeView.{change_view}
use Rattle.tables_log.proofs.SameLemmas.{agree_one_more, differ_there}
use Rattle.tables_log.proofs.commit.same_changes.Goals as goal

pub returns-then-not-same : goal.returns-then-not-same
returns-then-not-same c =
    differ_there change_view c.args.one.now c.args.other.now c.loop-place.place c.index-one-place.result
    c.index-other-place.result c.if-one-other.false c.loop-place-test.true
    c.index-one-place.is c.index-other-place.is (λ same. c.if-not-same.ensures same)

pub loop-place-preserved : goal.loop-place-preserved
loop-place-preserved c =
    agree_one_more change_view c.args.one.now c.args.other.now c.loop-place.place c.index-one-place.result
    c.index-other-place.result c.if-one-other.false c.loop-place-test.true
    c.index-one-place.is c.index-other-place.is c.if-not-same.ensures c.loop-place.invariant
