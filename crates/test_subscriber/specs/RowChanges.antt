-- What changes do to the rows of a subscriber's copy of a table, which are found by their values in the columns of
-- the replica identity: PostgreSQL 15, 55.9. Logical Replication Message Formats (Insert, Update, Delete), and 31.5.
-- Conflicts.
use Rattle.std.specs.Prelude.{is_some, if◌then◌else◌, List, Option, Some, None, Result, Ok, Err}
use Rattle.filter_tree.specs.Datum.{Datum}
use Rattle.filter_tree.specs.Same.{same_row}
use Rattle.pgoutput_msgs.specs.ValueText.{row_in}
use Rattle.pgoutput_msgs.specs.declared.tuple.Cell.{Cell}
use Rattle.pgoutput_msgs.specs.declared.tuple.OldTuple.{OldTuple}
use Rattle.pgoutput_msgs.specs.declared.tuple.OldTuple.TheVariants.{Key, Full}
use Rattle.table_changes.specs.Columns.{values_at}
use Rattle.test_subscriber.specs.declared.fault.SubFault.{SubFault}
use Rattle.test_subscriber.specs.declared.fault.SubFault.TheVariants.{BadValue, DuplicateKey}
use Rattle.test_subscriber.specs.declared.shape.TableShape.{TableShape}

-- the row that is found by a value of the columns of the replica identity
abbrev pub Found : Type 0
Found = List Datum → Option (List Datum)

-- ---- what is read of a message

abbrev pub or_bad : Option (List Datum) → Result (List Datum) SubFault
or_bad None = Err BadValue
or_bad (Some row) = Ok row

-- the row of a tuple
abbrev pub read_in : TableShape → List Cell → Result (List Datum) SubFault
read_in shape cells = or_bad (row_in shape.kinds cells)

abbrev pub cells_in : OldTuple → List Cell
cells_in (Key cells) = cells
cells_in (Full cells) = cells

abbrev pub key_of : TableShape → Result (List Datum) SubFault → Result (List Datum) SubFault
key_of shape (Err fault) = Err fault
key_of shape (Ok row) = Ok (values_at shape.key row)

-- the columns of the replica identity in what is sent of an old row
abbrev pub key_in : TableShape → OldTuple → Result (List Datum) SubFault
key_in shape old = key_of shape (read_in shape (cells_in old))

-- and those of the row that a new one replaces: if nothing is sent of the old row, they are the same in both
abbrev pub gone_of : TableShape → Option OldTuple → List Datum → Result (List Datum) SubFault
gone_of shape None row = Ok (values_at shape.key row)
gone_of shape (Some old) row = key_in shape old

-- ---- what happens to the rows

abbrev pub put_row : Found → List Datum → Option (List Datum) → Found
put_row found key row other = if same_row key other then row else found other

-- a new row, if no other has its key
abbrev pub put_new_row : Found → List Datum → List Datum → Result Found SubFault
put_new_row found key row = if is_some (found key) then Err DuplicateKey else Ok (put_row found key (Some row))

-- a new row in place of the one with the key `gone`; if there is none, the change is skipped
abbrev pub replaced : Found → List Datum → List Datum → List Datum → Result Found SubFault
replaced found gone key row = if is_some (found gone) then put_new_row (put_row found gone None) key row else Ok found

abbrev pub insert_row : TableShape → Found → Result (List Datum) SubFault → Result Found SubFault
insert_row shape found (Err fault) = Err fault
insert_row shape found (Ok row) = put_new_row found (values_at shape.key row) row

abbrev pub inserted : TableShape → Found → List Cell → Result Found SubFault
inserted shape found new = insert_row shape found (read_in shape new)

abbrev pub replace_row : TableShape → Found → Result (List Datum) SubFault → List Datum → Result Found SubFault
replace_row shape found (Err fault) row = Err fault
replace_row shape found (Ok gone) row = replaced found gone (values_at shape.key row) row

abbrev pub update_row : TableShape → Found → Option OldTuple → Result (List Datum) SubFault → Result Found SubFault
update_row shape found old (Err fault) = Err fault
update_row shape found old (Ok row) = replace_row shape found (gone_of shape old row) row

abbrev pub updated : TableShape → Found → Option OldTuple → List Cell → Result Found SubFault
updated shape found old new = update_row shape found old (read_in shape new)

-- no row has the key afterwards
abbrev pub delete_row : Found → Result (List Datum) SubFault → Result Found SubFault
delete_row found (Err fault) = Err fault
delete_row found (Ok key) = Ok (put_row found key None)

abbrev pub deleted : TableShape → Found → OldTuple → Result Found SubFault
deleted shape found old = delete_row found (key_in shape old)
