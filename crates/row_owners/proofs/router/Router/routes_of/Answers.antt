use Rattle.std.proofs.Common.{map, subst}
use Rattle.std.specs.Arc.{arc_value}
use Rattle.replica_identity.specs.ChangeView.{change_view}
use Rattle.replica_identity.specs.Plans.{PlanOf, plan_view}
use Rattle.row_owners.specs.Owners.{AreRoutes}
use Rattle.row_owners.proofs.OwnerLemmas.{owners_by_places, each_kept}
use Rattle.row_owners.proofs.router.Router.routes_of.Goals as goal

pub returns-in-Ok-clause-routes : goal.returns-in-Ok-clause-routes
returns-in-Ok-clause-routes c =
    subst (λ (plan : PlanOf).
    AreRoutes plan (map change_view c.args.changes.now) (record { all = c.in-Ok.all; each = c.shared.result }))
    c.plan-plan.ensures.shows
    (record {
      all = c.in-Ok.ensures.all;
      each = each_kept (plan_view c.plan-plan.result.now) (map change_view c.args.changes.now) c.in-Ok.sets.items
          (λ sets. arc_value sets) c.shared.result c.shared.ensures
          (owners_by_places (plan_view c.plan-plan.result.now) (map change_view c.args.changes.now) c.in-Ok.sets.items
          c.in-Ok.ensures.each);
    })
