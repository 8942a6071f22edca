use Rattle.std.proofs.Common.{map, ap, ◌∙◌}
use Rattle.replica_identity.specs.ChangeView.{change_view}
use Rattle.tables_log.specs.Commits.{commit_of}
use Rattle.tables_log.proofs.commit.Commit.copy.Goals as goal

pub returns : goal.returns
returns c =
    ap (commit_of c.self.inside.number c.self.inside.time)
    (c.in_ok-changes.ensures ∙ ap (map change_view) c.as_slice.ensures.value)
    ∙ c.self.view_is
