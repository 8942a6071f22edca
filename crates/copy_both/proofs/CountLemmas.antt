-- If no change of a commit is counted for a subscriber, nothing is sent for the commit.
use Rattle.std.proofs.Common.{◌≡◌, ℕ, ◌≤◌, Bool, false, List, length, map, ap, arith}
use Rattle.std.proofs.lemmas.List.{length-map}
use Rattle.replica_identity.specs.ChangeView.{change_view}
use Rattle.replica_identity.specs.Plans.{PlanOf}
use Rattle.replica_identity.specs.declared.change.Change.{Change}
use Rattle.row_owners.specs.Owners.{AreOwners, concerns}
use Rattle.row_owners.specs.declared.owner_set.OwnerSet.{OwnerSet}
use Rattle.shard_checker.specs.CheckedView.{CheckedOf}
use Rattle.table_changes.specs.Records.{ChangeOf}
use Rattle.tables_log.specs.Commits.{CommitOf}
use Rattle.pgoutput_msgs.specs.Silent.{IsSilent}
use Rattle.pgoutput_msgs.proofs.SilentLemmas.{quiet_are_silent}

pub none_is_said : (checked : CheckedOf) (slot : ℕ) (sent : List Bool) (commit : CommitOf) (owners : List OwnerSet)
    (changes : List Change) (count : ℕ)
    → (count ≡ 0 → (plan : PlanOf) (all : List ChangeOf) → length all ≤ length changes → AreOwners plan all owners
    → concerns plan all slot ≡ false)
    → count ≡ 0 → map change_view changes ≡ commit.changes → AreOwners checked.plan commit.changes owners
    → IsSilent checked slot sent commit
none_is_said checked slot sent commit owners changes count counted none shows are =
    quiet_are_silent checked slot sent commit
    (counted none checked.plan commit.changes (omega (arith, length-map changes change_view, ap length shows)) are)
