-- What is shown of a publisher and its subscribers: each has its shard, and if all have applied the same commits, each
-- row is at exactly one of them. PostgreSQL 15, "Logical Replication", 31.2 Subscription and 31.3 Row Filters; 7.5
-- Sorting Rows.
use Rattle.std.specs.Prelude.{◌≡◌, ◌<◌, ℕ, Bool, true, ◌&&◌, List, take, length, map, Contains, Some, slice_get}
use Rattle.std.specs.List.Sorted.{IsStrictlySortedBy}
use Rattle.filter_tree.specs.Datum.{Datum}
use Rattle.filter_tree.specs.Order.{row_cmp}
use Rattle.replica_identity.specs.Passes.{passes}
use Rattle.shard_checker.specs.CheckedView.{CheckedOf, setting_in}
use Rattle.table_changes.specs.Tables.{Tables, holds}
use Rattle.tables_log.specs.Lsn.{commits_before}
use Rattle.tables_log.specs.StandsFor.{Transaction, after}
use Rattle.stream_laws.specs.ShardRows.{in_shard}
use Rattle.shard_world.specs.ViewContents.{AllAt}
use Rattle.shard_world.specs.World as w
use Rattle.shard_world.specs.World.{position_now, StreamSource, source_in}
use Rattle.shard_world.specs.declared.view.SubscriberView.{SubscriberView}
use Rattle.shard_world.specs.declared.view.View.{View}

-- the rows that pass this test, each once, in their order
pub record AreRows (test : List Datum → Bool) (rows : List (List Datum)) : Type 0 where
  pub all : (row : List Datum) → test row ≡ true → Contains rows row
  pub only : (row : List Datum) → Contains rows row → test row ≡ true
  pub ascending : IsStrictlySortedBy row_cmp rows

-- the publisher's tables after this number of the first commits
abbrev pub tables_after : CheckedOf → List Transaction → ℕ → Tables
tables_after checked transactions count = after (setting_in checked) (take count transactions)

-- the row is in the table, and some publication that the subscriber takes carries it, whole or by a filter that is true
abbrev pub is_let_through : CheckedOf → ℕ → Tables → ℕ → List Datum → Bool
is_let_through checked number tables table row =
    holds (setting_in checked).keys tables table row && passes checked.catalog number table row

-- A subscriber's position, how many commits that counts, and its rows: those of its shard of the publisher's tables
-- after these commits, which are those that its publications let through.
pub record ShowsSubscriber (source : StreamSource) (peer : w.Peer) (shown : SubscriberView) : Type 0 where
  pub position_is : shown.position ≡ position_now source peer
  pub applied_is : shown.applied ≡ commits_before shown.position
  pub confirmed_is : shown.confirmed ≡ peer.confirmed
  pub tables : length shown.rows.items ≡ length source.checked.catalog.tables
  pub rows : AllAt (λ table rows. AreRows
      (in_shard (setting_in source.checked) source.number
      (tables_after source.checked source.transactions shown.applied) table) rows.items) shown.rows.items
  pub let_through : AllAt
      (λ table rows. AreRows
      (is_let_through source.checked source.number (tables_after source.checked source.transactions shown.applied)
      table) rows.items) shown.rows.items

-- ---- all together

abbrev pub shown_rows : SubscriberView → List (List (List Datum))
shown_rows shown = map (λ rows. rows.items) shown.rows.items

-- the subscriber of this number is shown with this row of the table
pub record ShowsRow (shown : View) (number table : ℕ) (row : List Datum) : Type 0 where
  pub subscriber : SubscriberView
  pub rows : List (List Datum)
  pub is : slice_get shown.subscribers.items number ≡ Some subscriber
  pub of_table : slice_get (shown_rows subscriber) table ≡ Some rows
  pub has : Contains rows row

-- exactly one of them is
pub record IsShownOnce (shown : View) (table : ℕ) (row : List Datum) : Type 0 where
  pub owner : ℕ
  pub has_it : ShowsRow shown owner table row
  pub no_other : (other : ℕ) → ShowsRow shown other table row → other ≡ owner

-- each row of the tables after this number of commits is shown for exactly one subscriber, and no other row is shown
-- for any
pub record DividesShown (checked : CheckedOf) (transactions : List Transaction) (count : ℕ) (shown : View) : Type 0
  where
    pub somewhere : (table : ℕ) (row : List Datum) → table < length checked.catalog.tables
        → holds (setting_in checked).keys (tables_after checked transactions count) table row ≡ true
        → IsShownOnce shown table row
    pub nothing_else : (number table : ℕ) (row : List Datum) → ShowsRow shown number table row
        → holds (setting_in checked).keys (tables_after checked transactions count) table row ≡ true

-- if all have applied this number of commits, and no more
abbrev pub ShowsDivided : CheckedOf → List Transaction → View → Type 0
ShowsDivided checked transactions shown =
    (count : ℕ) → AllAt (λ number subscriber. subscriber.applied ≡ count) shown.subscribers.items
    → DividesShown checked transactions count shown

-- ---- all that is shown

-- the log's length, the publisher's tables, and each subscriber
pub record ShowsWorld (checked : CheckedOf) (world : w.World) (shown : View) : Type 0 where
  pub log_is : shown.log ≡ length world.transactions
  pub tables : length shown.rows.items ≡ length checked.catalog.tables
  pub rows : AllAt (λ table rows. AreRows
      (holds (setting_in checked).keys (after (setting_in checked) world.transactions) table) rows.items)
      shown.rows.items
  pub count : length shown.subscribers.items ≡ length checked.plan
  pub each : AllAt (λ number subscriber. ShowsSubscriber (source_in checked world number) (world.peers number)
      subscriber) shown.subscribers.items
  pub divided : ShowsDivided checked world.transactions shown
