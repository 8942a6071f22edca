use Rattle.std.proofs.Common.{rules, sym, ◌∙◌, subst}
use Rattle.pub_catalog.specs.CatalogView.{catalog_view}
use Rattle.replica_identity.specs.Plans.{plan_view}
use Rattle.shard_checker.specs.Checks.{Checks}
use Rattle.shard_checker.specs.Candidates.{is_empty}
use Rattle.shard_checker.proofs.NodeLemmas.{certs_by_nodes}
use Rattle.shard_checker.proofs.sharding.check_sharding.Goals as goal

pub returns-in_err-check_given-clause-exact : goal.returns-in_err-check_given-clause-exact
returns-in_err-check_given-clause-exact g c =
    subst (λ refusal. Checks refusal c.from_residual.result)
    (certs_by_nodes is_empty (catalog_view c.args.catalog.now) (plan_view c.args.plan.now) c.args.certs.now)
    (search rules)

pub returns-clause-exact : goal.returns-clause-exact
returns-clause-exact g c =
    sym (certs_by_nodes is_empty (catalog_view c.args.catalog.now) (plan_view c.args.plan.now) c.args.certs.now)
    ∙ c.in_ok-check_given.ensures.exact
