use Rattle.std.proofs.Common.{◌≡◌, ◌++◌, drop, map}
use Rattle.replica_identity.specs.ChangeView.{change_view}
use Rattle.tables_log.proofs.commit.copy_changes.Given as goal

abbrev pub invariant-loop-change : goal.invariant-loop-change
invariant-loop-change l =
    map change_view l.copies.items ++ map change_view (drop l.change-index l.changes) ≡ map change_view l.changes
