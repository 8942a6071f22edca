-- That a subscriber follows its stream: after each first part of it, its rows are those of its shard of the tables
-- after the commits that its position counts: PostgreSQL 15, 55.4. Streaming Replication Protocol, 55.5. Logical
-- Streaming Replication Protocol, and "Logical Replication", 31.3 Row Filters.
use Rattle.std.specs.Prelude.{◌≡◌, ◌<◌, ◌≤◌, ◌^◌, ℕ, max, List, [], ◌++◌, All, fold, length, map, slice_get, take, Option, Some, None}
use Rattle.std.specs.Result.{IsOkAnd}
use Rattle.filter_tree.specs.Datum.{Datum}
use Rattle.filter_tree.specs.declared.table.Table.{Table}
use Rattle.table_changes.specs.Columns.{values_at}
use Rattle.table_changes.specs.Standing.{Covered, KeepsApart}
use Rattle.table_changes.specs.Tables.{Tables, no_rows}
use Rattle.shard_checker.specs.CheckedView.{CheckedOf, setting_in}
use Rattle.tables_log.specs.Commits.{CommitOf}
use Rattle.tables_log.specs.Lsn.{commits_before}
use Rattle.tables_log.specs.StandsFor.{Transaction, after, AreAccepted, entries_from}
use Rattle.pgoutput_msgs.specs.Sent.{IsSent}
use Rattle.pgoutput_msgs.specs.Telling.{oid_of, columns_from, relation_of}
use Rattle.pgoutput_msgs.specs.declared.message.Msg.{Msg}
use Rattle.pgoutput_msgs.specs.declared.message.Msg.TheVariants as m
use Rattle.copy_both.specs.Streams.{StreamItem, Response, Carries, Alive, frame_in, Move, stream_items}
use Rattle.copy_both.specs.Tellings.{telling_of}
use Rattle.copy_frames.specs.declared.xlog_data.XLogData.{XLogData}
use Rattle.test_subscriber.specs.Feeding.{hear_frames}
use Rattle.test_subscriber.specs.Machine.{Machine, opened}
use Rattle.test_subscriber.specs.Shapes.{flagged_from, shape_of}
use Rattle.test_subscriber.specs.declared.shape.TableShape.{TableShape}
use Rattle.stream_laws.specs.ShardRows.{FindsShard}

-- ---- positions

-- the greater of this position and the one where a transaction ends
abbrev pub raised_by_message : ℕ → Msg → ℕ
raised_by_message position (m.Begin final_lsn time xid) = position
raised_by_message position (m.Commit lsn end_lsn time) = max position end_lsn
raised_by_message position (m.Relation relation) = position
raised_by_message position (m.Insert relation new) = position
raised_by_message position (m.Update relation old new) = position
raised_by_message position (m.Delete relation old) = position
raised_by_message position (m.Truncate options relations) = position

-- or which a keepalive carries
abbrev pub raised_by : ℕ → StreamItem → ℕ
raised_by position Response = position
raised_by position (Carries head message) = raised_by_message position message
raised_by position (Alive keepalive) = max position keepalive.position

abbrev pub position_after : ℕ → List StreamItem → ℕ
position_after position items = fold raised_by position items

-- ---- what a subscriber has

-- the columns that the table's Relation flags
abbrev pub flagged_in : Option Table → List ℕ
flagged_in None = []
flagged_in (Some table) = flagged_from 0 (columns_from table 0 table.columns)

-- the values by which a subscriber finds a row of the table with this number
abbrev pub own_key : CheckedOf → ℕ → List Datum → List Datum
own_key checked table row = values_at (flagged_in (slice_get checked.catalog.tables table)) row

-- its rows are those of its shard of these tables, each where its key has it
abbrev pub HasShard : CheckedOf → ℕ → Machine → Tables → Type 0
HasShard checked subscriber machine tables =
    FindsShard (setting_in checked) (own_key checked) subscriber (λ table. machine.rows (oid_of table)) tables

-- each Relation that it keeps is the one that the publisher sends
abbrev pub KeepsRelations : CheckedOf → Machine → Type 0
KeepsRelations checked machine = (number : ℕ) (table : Table) (shape : TableShape)
    → slice_get checked.catalog.tables number ≡ Some table
    → machine.kept (oid_of number) ≡ Some shape → shape_of (relation_of number table) ≡ Some shape

-- The subscriber with this number is at this position, and has its shard of the tables after the commits that the
-- position counts.
pub record Follows (checked : CheckedOf) (transactions : List Transaction) (subscriber position : ℕ)
    (machine : Machine) : Type 0 where
  pub position_is : machine.position ≡ position
  pub within : commits_before position ≤ length transactions
  pub rows : HasShard checked subscriber machine
      (after (setting_in checked) (take (commits_before position) transactions))
  pub relations : KeepsRelations checked machine

-- ---- what is required of a stream

-- a checked catalog, and transactions that were accepted, from tables without rows
pub record IsPublished (checked : CheckedOf) (transactions : List Transaction) : Type 0 where
  pub covered : Covered (setting_in checked)
  pub apart : KeepsApart (setting_in checked)
  pub accepted : AreAccepted (setting_in checked) no_rows transactions

abbrev pub log_of : CheckedOf → List Transaction → List CommitOf
log_of checked transactions = entries_from (setting_in checked) no_rows 1 transactions

-- what a connection of the subscriber with this number sends that starts at this position and makes these moves
abbrev pub items_from : CheckedOf → List Transaction → ℕ → ℕ → List Move → List StreamItem
items_from checked transactions subscriber position moves =
    stream_items (telling_of checked) (log_of checked transactions) subscriber (length checked.catalog.tables) position
    moves

-- each number has 64 bits
pub record IsHead (head : XLogData) : Type 0 where
  pub start : head.start < 2 ^ 64
  pub end : head.end < 2 ^ 64
  pub clock : head.clock < 2 ^ 64

-- the layouts have room for what it sends
abbrev pub IsSentItem : StreamItem → Type 0
IsSentItem Response = Unit {0}
IsSentItem (Carries head message) = IsHead head × IsSent message
IsSentItem (Alive keepalive) = (keepalive.position < 2 ^ 64) × (keepalive.clock < 2 ^ 64)

-- ---- the law

-- A subscriber that follows opens a connection at its own position. After the frames of any of the first items of the
-- stream, whatever its moves, it follows, at the position after these items; none of them is a fault.
abbrev pub ItemsAreFollowed : Type 0
ItemsAreFollowed = (checked : CheckedOf) (transactions : List Transaction) → IsPublished checked transactions
    → (subscriber : ℕ) (machine : Machine) → Follows checked transactions subscriber machine.position machine
    → (moves : List Move)
    → All IsSentItem (items_from checked transactions subscriber machine.position moves)
    → (items others : List StreamItem)
    → items ++ others ≡ items_from checked transactions subscriber machine.position moves
    → IsOkAnd (hear_frames (map frame_in items) (opened machine))
    (Follows checked transactions subscriber (position_after machine.position items))
