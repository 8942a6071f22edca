use Rattle.pub_catalog.specs.CatalogView.{catalog_view}
use Rattle.replica_identity.specs.Plans.{plan_view}
use Rattle.shard_checker.proofs.PlanFacts.{kept_own}
use Rattle.shard_checker.proofs.ShardingLemmas.{takes_own}
use Rattle.shard_checker.proofs.checked.Checked.plan.Goals as goal

-- what the field keeps, of which there is at most one proof
pub returns-clause-own : goal.returns-clause-own
returns-clause-own c =
    kept_own (catalog_view c.args.self.now.catalog) (plan_view c.args.self.now.plan) c.args.self.now.own

pub returns-clause-passes : goal.returns-clause-passes
returns-clause-passes c =
    takes_own (catalog_view c.args.self.now.catalog) (plan_view c.args.self.now.plan) (returns-clause-own c)
