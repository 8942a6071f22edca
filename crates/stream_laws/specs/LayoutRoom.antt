-- When what is sent of the commits of a log has room in its layouts: times have 64 bits, and the catalog is within its
-- limits: PostgreSQL 15, 55.9. Logical Replication Message Formats.
use Rattle.std.specs.Prelude.{◌≡◌, ◌<◌, ◌≤◌, ◌^◌, ℕ, Bool, List, All, length, slice_get, Some}
use Rattle.pub_catalog.specs.CatalogLimits.{IsLimited}
use Rattle.shard_checker.specs.CheckedView.{CheckedOf, setting_in}
use Rattle.table_changes.specs.Standing.{Covered}
use Rattle.table_changes.specs.Tables.{no_rows}
use Rattle.tables_log.specs.Commits.{CommitOf}
use Rattle.tables_log.specs.Lsn.{commits_before}
use Rattle.tables_log.specs.StandsFor.{Transaction, AreAccepted}
use Rattle.pgoutput_msgs.specs.Sent.{IsSent}
use Rattle.pgoutput_msgs.specs.Telling.{messages_for}
use Rattle.copy_both.specs.Streams.{Move, Take, Keep}
use Rattle.stream_laws.specs.Following.{log_of, items_from, IsSentItem}

-- the layouts have room for what is sent of each commit
pub record FitsLayouts (checked : CheckedOf) (transactions : List Transaction) : Type 0 where
  pub few : length transactions ≤ 1000000000
  pub said : (subscriber : ℕ) (sent : List Bool) (place : ℕ) (commit : CommitOf)
      → slice_get (log_of checked transactions) place ≡ Some commit
      → All IsSent (messages_for checked subscriber sent commit)

-- its time has 64 bits
abbrev pub IsTimedTransaction : Transaction → Type 0
IsTimedTransaction transaction = transaction.time < 2 ^ 64

-- the clock of a move has 64 bits
abbrev pub IsClocked : Move → Type 0
IsClocked (Take clock) = clock < 2 ^ 64
IsClocked (Keep clock want) = clock < 2 ^ 64

-- ---- the laws

-- So the layouts have room for what is sent of each commit of a log of such transactions.
abbrev pub LogsFitLayouts : Type 0
LogsFitLayouts = (checked : CheckedOf) → Covered (setting_in checked) → IsLimited checked.catalog
    → (transactions : List Transaction) → AreAccepted (setting_in checked) no_rows transactions
    → All IsTimedTransaction transactions → length transactions ≤ 1000000000
    → FitsLayouts checked transactions

-- And they have room for each item of a stream of such a log, whatever its moves, if it starts at a position that the
-- log reaches, and clocks have 64 bits.
abbrev pub StreamsCanBeSent : Type 0
StreamsCanBeSent = (checked : CheckedOf) (transactions : List Transaction)
    → AreAccepted (setting_in checked) no_rows transactions → FitsLayouts checked transactions
    → (subscriber position : ℕ) (moves : List Move) → commits_before position ≤ length transactions
    → All IsClocked moves
    → All IsSentItem (items_from checked transactions subscriber position moves)
