-- That nothing is sent for a commit of which the subscriber gets nothing: PostgreSQL 15, "Logical Replication", 31.3.3
-- UPDATE Transformations, and 55.5.3. Logical Replication Protocol Message Flow.
use Rattle.std.specs.Prelude.{◌≡◌, ℕ, Bool, false, List, []}
use Rattle.row_owners.specs.Owners.{concerns}
use Rattle.shard_checker.specs.CheckedView.{CheckedOf}
use Rattle.tables_log.specs.Commits.{CommitOf}
use Rattle.pgoutput_msgs.specs.Telling.{messages_for, relation_sent_after}

-- No message reports the commit, and no Relation is sent.
pub record IsSilent (checked : CheckedOf) (subscriber : ℕ) (sent : List Bool) (commit : CommitOf) : Type 0 where
  pub messages : messages_for checked subscriber sent commit ≡ []
  pub after : relation_sent_after checked subscriber sent commit ≡ sent

abbrev pub QuietAreSilent : Type 0
QuietAreSilent = (checked : CheckedOf) (subscriber : ℕ) (sent : List Bool) (commit : CommitOf)
    → concerns checked.plan commit.changes subscriber ≡ false → IsSilent checked subscriber sent commit
