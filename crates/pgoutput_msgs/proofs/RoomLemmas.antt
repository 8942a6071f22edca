-- The messages of a commit that can be sent have room in their layouts.
use Rattle.std.proofs.Common.{◌≡◌, ℕ, suc, ◌+◌, ◌<◌, Bool, true, false, Option, Some, None, List, [], ◌∷◌, length, get_or, map, refl, sym, ap, subst, arith, lit<}
use Rattle.std.specs.Prelude.{All, IfSome, slice_get}
use Rattle.std.proofs.lemmas.List.{get_or-map, length-map}
use Rattle.std.proofs.lemmas.List.Elements.{All-nil}
use Rattle.std.proofs.lemmas.Option.{slice_get_within, get_or_from_slice_get}
use Rattle.filter_tree.specs.Datum.{Number, Truth, Bytes, Datum, Missing, Known}
use Rattle.filter_tree.specs.declared.table.Column.{Column}
use Rattle.filter_tree.specs.declared.table.Table.{Table}
use Rattle.pub_catalog.specs.CatalogLimits.{IsLimitedTable, IsLimited}
use Rattle.shard_checker.specs.CheckedView.{CheckedOf}
use Rattle.table_changes.specs.Records as r
use Rattle.tables_log.specs.Commits.{CommitOf}
use Rattle.tables_log.specs.Sendable.{IsSendableValue, IsSendableRow, IsSendablePart, IsSendableChange, IsSendable}
use Rattle.pgoutput_msgs.specs.Ranges.{IsCellWithinRange, IsTupleWithinRange, IsOldWithinRange, IsMaybeOldWithinRange, IsWithinRange}
use Rattle.pgoutput_msgs.specs.Telling.{columns_from, relation_of, old_of, maybe_old_of, message_of, messages_for, oid_of}
use Rattle.pgoutput_msgs.specs.ValueText.{cell_of, cells_of}
use Rattle.pgoutput_msgs.specs.declared.message.Msg.TheVariants as m
use Rattle.pgoutput_msgs.proofs.Everywhere.{all_one, all_messages}
use Rattle.pgoutput_msgs.proofs.RowLemmas.{short_number}

-- ---- rows

short_value : (datum : Datum) → IsSendableValue datum → IsCellWithinRange (cell_of datum)
short_value Missing h = tt
short_value (Known (Number z)) h =
    short_number z 9223372036854775807 9223372036854775807 (lit< tt) (lit< tt) h.above_least h.below_greatest
short_value (Known (Truth true)) h = omega arith
short_value (Known (Truth false)) h = omega arith
short_value (Known (Bytes bytes)) h = omega (arith, h)

pub row_room : (cells : List Datum) → IsSendableRow cells → IsTupleWithinRange (cells_of cells)
row_room cells h = record {
  few = omega (arith, length-map cells cell_of, h.few);
  short = λ k d long.
      let within : k < length cells = omega (arith, length-map cells cell_of, long) in
      subst IsCellWithinRange (sym (get_or-map cell_of cells k Missing d within))
      (short_value (get_or cells k Missing) (h.values k Missing within));
}

pub old_room : (part : r.PartOf) → IsSendablePart (Some part) → IsOldWithinRange (old_of part)
old_room (r.Key row) h = row_room row h
old_room (r.Full row) h = row_room row h

pub maybe_old_room : (part : Option r.PartOf) → IsSendablePart part → IsMaybeOldWithinRange (maybe_old_of part)
maybe_old_room None h = tt
maybe_old_room (Some part) h = old_room part h

message_room : (change : r.ChangeOf) → IsSendableChange change → All IsWithinRange (message_of change)
message_room (r.Insert table new) h = all_one IsWithinRange (m.Insert (oid_of table) (cells_of new)) (row_room new h.1)
message_room (r.Update table part new) h =
    all_one IsWithinRange (m.Update (oid_of table) (maybe_old_of part) (cells_of new))
    (maybe_old_room part h.1, row_room new h.2)
message_room (r.Delete table None) h = All-nil IsWithinRange
message_room (r.Delete table (Some part)) h =
    all_one IsWithinRange (m.Delete (oid_of table) (old_of part)) (old_room part h.1)
message_room (r.Truncate numbers) h =
    all_one IsWithinRange (m.Truncate 0 (map oid_of numbers)) (omega (arith, length-map numbers oid_of, h.0))

-- ---- Relations

pub length_columns : (table : Table) (number : ℕ) (columns : List Column)
    → length (columns_from table number columns) ≡ length columns
length_columns table number [] = refl
length_columns table number (column ∷ columns) = ap suc (length_columns table (number + 1) columns)

pub relation_room : (tables : List Table) (number : ℕ) (found : Option Table) → slice_get tables number ≡ found
    → All IsLimitedTable tables
    → IfSome found (λ table. IsWithinRange (m.Relation (relation_of number table)))
relation_room tables number None e limited = tt
relation_room tables number (Some table) e limited =
    let narrow : IsLimitedTable table =
    subst IsLimitedTable (get_or_from_slice_get tables number table table e)
    (limited number table (slice_get_within tables number table e)) in
    omega (arith, length_columns table 0 table.columns, narrow.columns)

-- ---- all messages

pub messages_room : (checked : CheckedOf) (subscriber : ℕ) (sent : List Bool) (commit : CommitOf) → IsSendable commit
    → IsLimited checked.catalog
    → All IsWithinRange (messages_for checked subscriber sent commit)
messages_room checked subscriber sent commit h limited =
    let tables = checked.catalog.tables in
    all_messages IsWithinRange checked subscriber sent commit h
    (record {
      relations =
          λ number. relation_room tables number (slice_get tables number) refl limited.each_table;
      changes =
          message_room;
    }) tt tt
