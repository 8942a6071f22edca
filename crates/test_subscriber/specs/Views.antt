-- What a subscriber's parts show of the machine that applies a stream.
use Rattle.std.specs.Prelude.{◌≡◌, ℕ, ◌==◌, ◌<◌, Bool, true, false, List, [], length, Option, Some, None}
use Rattle.std.specs.List.{find, position}
use Rattle.filter_tree.specs.Datum.{Datum}
use Rattle.tables_log.specs.Staging.{kept, kept_values, seen}
use Rattle.test_subscriber.specs.Machine.{Machine}
use Rattle.test_subscriber.specs.RowChanges.{Found}
use Rattle.test_subscriber.specs.declared.phase.Phase.{Phase}
use Rattle.test_subscriber.specs.declared.replica.Replica.{Replica}
use Rattle.test_subscriber.specs.declared.shape.TableShape.{TableShape}
use Rattle.test_subscriber.specs.declared.table_copy.TableCopy.{TableCopy}

-- ---- the copy of the table with an OID

abbrev pub has_oid : ℕ → TableCopy → Bool
has_oid oid copy = copy.shape.relation.oid == oid

abbrev pub place_of : List TableCopy → ℕ → Option ℕ
place_of copies oid = position (has_oid oid) copies

abbrev pub copy_of : List TableCopy → ℕ → Option TableCopy
copy_of copies oid = find (has_oid oid) copies

-- ---- what a copy shows, if there is one

abbrev pub shape_in : Option TableCopy → Option TableShape
shape_in None = None
shape_in (Some copy) = Some copy.shape

abbrev pub known_in : Option TableCopy → Bool
known_in None = false
known_in (Some copy) = copy.is_known

abbrev pub kept_in : Option TableCopy → Found
kept_in None key = None
kept_in (Some copy) key = kept copy.rows key

abbrev pub seen_in : Option TableCopy → Found
seen_in None key = None
seen_in (Some copy) key = seen copy.rows key

-- all rows that are kept, in the order of their keys
abbrev pub listed_in : Option TableCopy → List (List Datum)
listed_in None = []
listed_in (Some copy) = kept_values copy.rows

-- with these copies of tables
abbrev pub machine_with : Phase → ℕ → Bool → List TableCopy → Machine
machine_with phase at wants copies = record {
  phase = phase;
  position = at;
  wants_reply = wants;
  kept = λ oid. shape_in (copy_of copies oid);
  known = λ oid. known_in (copy_of copies oid);
  rows = λ oid. kept_in (copy_of copies oid);
  work = λ oid. seen_in (copy_of copies oid);
}

abbrev pub machine_view : Replica → Machine
machine_view replica = machine_with replica.phase replica.position replica.wants_reply replica.copies.items

-- ---- what calls do

-- the copy of the table with this OID has this place, and its Relation came on this connection
pub record IsKnownAt (copies : List TableCopy) (oid place : ℕ) : Type 0 where
  pub there : place_of copies oid ≡ Some place
  pub within : place < length copies
  pub known : known_in (copy_of copies oid) ≡ true
