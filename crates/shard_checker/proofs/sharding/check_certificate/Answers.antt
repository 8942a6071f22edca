use Rattle.std.proofs.Common.{◌≡◌, ap, subst, ◌∙◌}
use Rattle.replica_identity.specs.Plans.{plan_view}
use Rattle.shard_checker.specs.CatalogRefusal.{table_shares}
use Rattle.shard_checker.specs.Checks.{Checks}
use Rattle.shard_checker.specs.Owners.{shares_view}
use Rattle.shard_checker.specs.Candidates.{is_empty}
use Rattle.shard_checker.specs.Walking.{nodes_refusal}
use Rattle.shard_checker.proofs.sharding.check_certificate.Goals as goal

pub returns : goal.returns
returns g c =
    let same : shares_view c.deref.result.now
    ≡ table_shares (plan_view c.args.plan.now) c.args.number 0 c.args.subscriptions.now =
    ap shares_view c.deref.ensures.value ∙ c.in_ok-shares.ensures in
    subst (λ shares. Checks
    (nodes_refusal is_empty c.args.number c.args.table.now shares (g.C.Source.nodes c.args.cert.now))
    c.check_table.result) same c.check_table.ensures
