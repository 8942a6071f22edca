use Rattle.replica_identity.specs.ChangeView.{change_view}
use Rattle.replica_identity.specs.Plans.{plan_view}
use Rattle.row_owners.proofs.OwnerLemmas.{owners_more, rest_more}
use Rattle.row_owners.proofs.routing.each_owners.Goals as goal

pub loop-change-preserved : goal.loop-change-preserved
loop-change-preserved c = record {
  router = c.owners-set.ensures.router;
  all = rest_more (plan_view c.args.plan.now) change_view c.args.changes.now c.loop-change.change-index
      c.change-item.result c.loop-change.all c.join.new.self c.owners-set.result c.loop-change-test.true
      c.change-item.is c.loop-change.invariant.all c.owners-set.ensures.owners c.join.ensures;
  each = owners_more (plan_view c.args.plan.now) change_view c.args.changes.now c.loop-change.change-index
      c.change-item.result c.loop-change.sets.items c.push.new.self.items c.owners-set.result c.loop-change-test.true
      c.change-item.is c.loop-change.invariant.each c.owners-set.ensures.owners c.in_ok-push.ensures.items;
}
