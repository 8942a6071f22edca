use Rattle.std.proofs.Common.{◌≡◌, map, take}
use Rattle.replica_identity.specs.ChangeView.{change_view}
use Rattle.tables_log.proofs.commit.same_changes.Given as goal

abbrev pub invariant-loop-place : goal.invariant-loop-place
invariant-loop-place l = take l.place (map change_view l.one) ≡ take l.place (map change_view l.other)
