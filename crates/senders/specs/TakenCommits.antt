-- The commits that were taken up for a connection, those that count as sent on it, and those of the log: PostgreSQL 15, 55.4. Streaming Replication
-- Protocol.
use Rattle.std.specs.Prelude.{ℕ, ◌≡◌, ◌<◌, ◌≤◌, ◌+◌, min, List, length}
use Rattle.copy_both.specs.VoiceLaws.{AreAt}
use Rattle.tables_log.specs.Commits.{CommitOf}
use Rattle.tables_log.specs.Lsn.{commits_before}
use Rattle.senders.specs.Results.{ServedOf, taken_from}
use Rattle.senders.specs.declared.end.End.TheVariants.{Finished}

-- how many commits the log has up to the last one that was taken for it
abbrev pub taken_to : ServedOf → ℕ
taken_to served = taken_from served + length served.taken

-- and up to the last one that its client confirmed
abbrev pub confirmed_to : ServedOf → ℕ
confirmed_to served = min (taken_to served) (commits_before served.confirmed)

-- and up to the last one that counts as sent to its client
abbrev pub sent_to : ServedOf → ℕ
sent_to served = commits_before served.sent

-- If it was finished, its commits reach the log's end. What counts as sent are the commits that were taken for it, and
-- at most 64 more.
pub record IsComplete (log : List CommitOf) (served : ServedOf) : Type 0 where
  pub whole : served.end ≡ Finished → taken_to served ≡ length log
  pub sent : 0 < length served.taken → taken_to served ≤ sent_to served
  pub last : sent_to served ≤ taken_to served + 64

-- Its start is not after the log's end. Its commits are those of the log from its start on, reach the log's end where it
-- was finished, and are those that count as sent.
pub record IsTaken (log : List CommitOf) (served : ServedOf) : Type 0 where
  pub within : taken_from served ≤ length log
  pub at : AreAt log (taken_from served) served.taken
  pub complete : IsComplete log served
