-- The messages that report a commit to a subscriber: PostgreSQL 15, 55.5.3. Logical Replication Protocol Message Flow,
-- and 55.9. Logical Replication Message Formats. OIDs are this project's own.
use Rattle.std.specs.Prelude.{ℕ, ◌+◌, negsuc, Bool, true, false, List, [], ◌∷◌, ◌++◌, map, slice_get, slice_index_or, slice_set, Option, Some, None}
use Rattle.filter_tree.specs.declared.table.ColType.{ColType}
use Rattle.filter_tree.specs.declared.table.ColType.TheVariants as k
use Rattle.filter_tree.specs.declared.table.Column.{Column}
use Rattle.filter_tree.specs.declared.table.Identity.{Identity}
use Rattle.filter_tree.specs.declared.table.Identity.TheVariants as t
use Rattle.filter_tree.specs.declared.table.Table.{Table}
use Rattle.replica_identity.specs.Identities.{is_covered}
use Rattle.shard_checker.specs.CheckedView.{CheckedOf, setting_in}
use Rattle.table_changes.specs.Outs.{got}
use Rattle.table_changes.specs.Records as r
use Rattle.tables_log.specs.Commits.{CommitOf}
use Rattle.tables_log.specs.Lsn.{lsn_of, end_lsn_of, xid_of}
use Rattle.pgoutput_msgs.specs.Spelling.{int32}
use Rattle.pgoutput_msgs.specs.ValueText.{cells_of}
use Rattle.pgoutput_msgs.specs.declared.message.Msg.{Msg}
use Rattle.pgoutput_msgs.specs.declared.message.Msg.TheVariants as m
use Rattle.pgoutput_msgs.specs.declared.relation.Relation.{Relation}
use Rattle.pgoutput_msgs.specs.declared.relation.RelationColumn.{RelationColumn}
use Rattle.pgoutput_msgs.specs.declared.relation.ReplicaIdentity.{ReplicaIdentity}
use Rattle.pgoutput_msgs.specs.declared.relation.ReplicaIdentity.TheVariants as i
use Rattle.pgoutput_msgs.specs.declared.tuple.OldTuple.{OldTuple}
use Rattle.pgoutput_msgs.specs.declared.tuple.OldTuple.TheVariants as o

-- ---- numbers of tables

-- the OID of the table with this number, which is counted from 0
abbrev pub oid_of : ℕ → ℕ
oid_of table = 16384 + table

-- its bytes
abbrev pub oid_spelling : ℕ → List ℕ
oid_spelling table = int32 (oid_of table)

-- ---- Relation

-- the OIDs of the types (53.64. pg_type)
abbrev pub type_oid_of : ColType → ℕ
type_oid_of k.SmallInt = 21
type_oid_of k.Integer = 23
type_oid_of k.BigInt = 20
type_oid_of k.Boolean = 16
type_oid_of k.Text = 25

abbrev pub identity_of : Identity → ReplicaIdentity
identity_of t.Default = i.Default
identity_of (t.Index number) = i.Index
identity_of t.Full = i.Full
identity_of t.Nothing = i.Nothing

-- a column with this flag, and no modifier of its type
abbrev pub flagged : Bool → Column → RelationColumn
flagged is_key column =
    record { is_key = is_key; name = column.name; type_oid = type_oid_of column.kind; type_modifier = negsuc 0 }

-- the column with this number: the flag marks those of the replica identity, under FULL all
abbrev pub sent_column : Table → ℕ → Column → RelationColumn
sent_column table number column = flagged (is_covered table number) column

-- these columns, the first of which has this number
abbrev pub columns_from : Table → ℕ → List Column → List RelationColumn
columns_from table number [] = []
columns_from table number (column ∷ columns) = sent_column table number column ∷ columns_from table (number + 1) columns

abbrev pub relation_of : ℕ → Table → Relation
relation_of number table = record {
  oid = oid_of number;
  namespace = table.schema;
  name = table.name;
  identity = identity_of table.identity;
  columns = columns_from table 0 table.columns;
}

-- ---- what is sent for a change

abbrev pub old_of : r.PartOf → OldTuple
old_of (r.Key part) = o.Key (cells_of part)
old_of (r.Full old) = o.Full (cells_of old)

abbrev pub maybe_old_of : Option r.PartOf → Option OldTuple
maybe_old_of None = None
maybe_old_of (Some part) = Some (old_of part)

-- the message of a change, as the subscriber gets it; there is none for an old row if nothing is recorded of it
abbrev pub message_of : r.ChangeOf → List Msg
message_of (r.Insert table new) = m.Insert (oid_of table) (cells_of new) ∷ []
message_of (r.Update table part new) = m.Update (oid_of table) (maybe_old_of part) (cells_of new) ∷ []
message_of (r.Delete table None) = []
message_of (r.Delete table (Some part)) = m.Delete (oid_of table) (old_of part) ∷ []
message_of (r.Truncate numbers) = m.Truncate 0 (map oid_of numbers) ∷ []

-- the tables that the message names, in its order
abbrev pub named_in : r.ChangeOf → List ℕ
named_in (r.Insert table new) = table ∷ []
named_in (r.Update table part new) = table ∷ []
named_in (r.Delete table None) = []
named_in (r.Delete table (Some part)) = table ∷ []
named_in (r.Truncate numbers) = numbers

-- ---- Relations, each sent once: `sent` is whether it was, for each table by its number

abbrev pub a_relation : ℕ → Option Table → List Msg
a_relation number None = []
a_relation number (Some table) = m.Relation (relation_of number table) ∷ []

abbrev pub introduced : List Table → Bool → ℕ → List Msg
introduced tables true number = []
introduced tables false number = a_relation number (slice_get tables number)

-- the Relation of a table, if it was not sent
unfoldable pub relation_once : List Table → List Bool → ℕ → List Msg
relation_once tables sent number = introduced tables (slice_index_or sent number false) number

abbrev pub mark_one : List Bool → ℕ → List Bool
mark_one sent number = slice_set sent number true

-- the Relations of tables that were not sent, in this order
unfoldable pub relations_of : List Table → List Bool → List ℕ → List Msg
relations_of tables sent [] = []
relations_of tables sent (number ∷ numbers) =
    relation_once tables sent number ++ relations_of tables (mark_one sent number) numbers

unfoldable pub mark_all : List Bool → List ℕ → List Bool
mark_all sent [] = sent
mark_all sent (number ∷ numbers) = mark_all (mark_one sent number) numbers

-- ---- commits

-- what is sent for a change that the subscriber gets, if it gets one
unfoldable pub said : List Table → List Bool → Option r.ChangeOf → List Msg
said tables sent None = []
said tables sent (Some change) = relations_of tables sent (named_in change) ++ message_of change

unfoldable pub mark_by : List Bool → Option r.ChangeOf → List Bool
mark_by sent None = sent
mark_by sent (Some change) = mark_all sent (named_in change)

-- what is sent for changes, one after the other
unfoldable pub said_each : CheckedOf → ℕ → List Bool → List r.ChangeOf → List Msg
said_each checked subscriber sent [] = []
said_each checked subscriber sent (change ∷ changes) =
    said checked.catalog.tables sent (got (setting_in checked) subscriber change)
    ++ said_each checked subscriber (mark_by sent (got (setting_in checked) subscriber change)) changes

unfoldable pub mark_each : CheckedOf → ℕ → List Bool → List r.ChangeOf → List Bool
mark_each checked subscriber sent [] = sent
mark_each checked subscriber sent (change ∷ changes) =
    mark_each checked subscriber (mark_by sent (got (setting_in checked) subscriber change)) changes

abbrev pub begin_msg : CommitOf → Msg
begin_msg commit = m.Begin (lsn_of commit.number) commit.time (xid_of commit.number)

abbrev pub commit_msg : CommitOf → Msg
commit_msg commit = m.Commit (lsn_of commit.number) (end_lsn_of commit.number) commit.time

-- Begin, the messages between, and Commit; nothing if there are none between
abbrev pub enclosed : CommitOf → List Msg → List Msg
enclosed commit [] = []
enclosed commit (first ∷ others) = begin_msg commit ∷ (first ∷ others) ++ commit_msg commit ∷ []

-- the messages of a commit for the subscriber with this number, if these Relations were sent before it
abbrev pub messages_for : CheckedOf → ℕ → List Bool → CommitOf → List Msg
messages_for checked subscriber sent commit = enclosed commit (said_each checked subscriber sent commit.changes)

-- the Relations that were sent after it
abbrev pub relation_sent_after : CheckedOf → ℕ → List Bool → CommitOf → List Bool
relation_sent_after checked subscriber sent commit = mark_each checked subscriber sent commit.changes
