use Rattle.std.proofs.Common.{subst, sym}
use Rattle.row_owners.specs.Owners.{AreRoutes}
use Rattle.tables_log.specs.Commits.{CommitOf}
use Rattle.tables_log.specs.Routes.{commit_in}
use Rattle.tables_log.proofs.routed.Routed.try_clone.Goals as goal

pub returns-clause-routed : goal.returns-clause-routed
returns-clause-routed c plan is =
    subst (λ (commit : CommitOf). AreRoutes plan commit.changes c.in_ok-routes.routes) (sym c.in_ok-commit.ensures)
    (c.in_ok-routes.ensures plan (commit_in c.args.self.now).changes is)
