use Rattle.std.proofs.Common.{rules, sym, ◌∙◌, subst}
use Rattle.pub_catalog.specs.CatalogView.{catalog_view}
use Rattle.replica_identity.specs.Plans.{plan_view}
use Rattle.shard_checker.specs.Checks.{Checks}
use Rattle.shard_checker.specs.Candidates.{is_empty}
use Rattle.shard_checker.proofs.TextLemmas.{sharding_by_texts}
use Rattle.shard_checker.proofs.texts.check_texts.Goals as goal

pub returns-in_err-check_given-clause-exact : goal.returns-in_err-check_given-clause-exact
returns-in_err-check_given-clause-exact c = λ read.
    subst (λ refusal. Checks refusal c.from_residual.result)
    (sharding_by_texts is_empty (catalog_view c.args.catalog.now) (plan_view c.args.plan.now) c.args.texts.now
    read) (search rules)

pub returns-clause-exact : goal.returns-clause-exact
returns-clause-exact c = λ read.
    sym (sharding_by_texts is_empty (catalog_view c.args.catalog.now) (plan_view c.args.plan.now) c.args.texts.now
    read) ∙ c.in_ok-check_given.ensures.exact
