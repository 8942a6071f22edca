use Rattle.std.proofs.Common.{drop, map}
use Rattle.replica_identity.specs.ChangeView.{change_view}
use Rattle.replica_identity.specs.Plans.{plan_view}
use Rattle.row_owners.specs.Routers.{IsRouterOf}
use Rattle.row_owners.proofs.OwnerLemmas.{OwnsRest}
use Rattle.row_owners.proofs.routing.concerned.Given as goal

abbrev pub invariant-loop-change : goal.invariant-loop-change
invariant-loop-change l = record {
  router : IsRouterOf (plan_view l.plan) l.router;
  all : OwnsRest (plan_view l.plan) l.all (map change_view (drop l.change-index l.changes)) (map change_view l.changes);
}
