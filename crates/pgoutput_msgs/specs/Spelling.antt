-- The bytes that spell a message, field by field: PostgreSQL 15, 55.9. Logical Replication Message Formats.
use Rattle.std.specs.Prelude.{ℕ, ℤ, Bool, true, false, List, [], ◌∷◌, ◌++◌, length, codes, Option, Some, None}
use Rattle.std.specs.Int.{to_be_bytes, cast_unsigned, w16, w32, w64}
use Rattle.std.specs.List.{flat_map}
use Rattle.pgoutput_msgs.specs.declared.message.Msg.{Msg}
use Rattle.pgoutput_msgs.specs.declared.message.Msg.TheVariants as m
use Rattle.pgoutput_msgs.specs.declared.relation.Relation.{Relation}
use Rattle.pgoutput_msgs.specs.declared.relation.RelationColumn.{RelationColumn}
use Rattle.pgoutput_msgs.specs.declared.relation.ReplicaIdentity.{ReplicaIdentity}
use Rattle.pgoutput_msgs.specs.declared.relation.ReplicaIdentity.TheVariants as i
use Rattle.pgoutput_msgs.specs.declared.tuple.Cell.{Cell}
use Rattle.pgoutput_msgs.specs.declared.tuple.Cell.TheVariants.{Null, Text}
use Rattle.pgoutput_msgs.specs.declared.tuple.OldTuple.{OldTuple}
use Rattle.pgoutput_msgs.specs.declared.tuple.OldTuple.TheVariants.{Key, Full}

-- ---- fields

-- numbers of 8, 16, 32 and 64 bits, the high byte first
abbrev pub int8 : ℕ → List ℕ
int8 number = number ∷ []

abbrev pub int16 : ℕ → List ℕ
int16 number = to_be_bytes w16 number

abbrev pub int32 : ℕ → List ℕ
int32 number = to_be_bytes w32 number

abbrev pub int64 : ℕ → List ℕ
int64 number = to_be_bytes w64 number

-- a number of 32 bits with a sign
abbrev pub signed_int32 : ℤ → List ℕ
signed_int32 number = int32 (cast_unsigned w32 number)

-- a String: the bytes of a text, and a zero byte
abbrev pub string : List ℕ → List ℕ
string text = text ++ 0 ∷ []

-- ---- TupleData

-- a column: `n` for null, or `t`, the length of the text, and the text
abbrev pub cell_spelling : Cell → List ℕ
cell_spelling Null = codes "n"
cell_spelling (Text text) = codes "t" ++ (int32 (length text) ++ text)

-- a tuple: the number of columns, and each column
abbrev pub tuple_spelling : List Cell → List ℕ
tuple_spelling cells = int16 (length cells) ++ flat_map cell_spelling cells

-- what is sent of an old row: `K` for a key, or `O` for a whole row, and the tuple
abbrev pub old_spelling : OldTuple → List ℕ
old_spelling (Key tuple) = codes "K" ++ tuple_spelling tuple
old_spelling (Full tuple) = codes "O" ++ tuple_spelling tuple

-- nothing if nothing is sent of it
abbrev pub maybe_old_spelling : Option OldTuple → List ℕ
maybe_old_spelling None = []
maybe_old_spelling (Some old) = old_spelling old

-- a new row: `N`, and the tuple
abbrev pub new_spelling : List Cell → List ℕ
new_spelling cells = codes "N" ++ tuple_spelling cells

-- ---- Relation

-- the replica identity as it is in `relreplident` of pg_class (53.11. pg_class)
abbrev pub identity_letter : ReplicaIdentity → ℕ
identity_letter i.Default = 100
identity_letter i.Nothing = 110
identity_letter i.Full = 102
identity_letter i.Index = 105

-- the flag 1 marks a column of the key
abbrev pub key_flag : Bool → ℕ
key_flag false = 0
key_flag true = 1

abbrev pub column_spelling : RelationColumn → List ℕ
column_spelling column =
    int8 (key_flag column.is_key)
    ++ (string column.name ++ (int32 column.type_oid ++ signed_int32 column.type_modifier))

abbrev pub columns_spelling : List RelationColumn → List ℕ
columns_spelling columns = int16 (length columns) ++ flat_map column_spelling columns

abbrev pub relation_spelling : Relation → List ℕ
relation_spelling relation =
    int32 relation.oid ++ (string relation.namespace ++ (string relation.name
    ++ (int8 (identity_letter relation.identity) ++ columns_spelling relation.columns)))

-- ---- messages

-- the first byte
abbrev pub msg_letter : Msg → ℕ
msg_letter (m.Begin final_lsn time xid) = 66
msg_letter (m.Commit lsn end_lsn time) = 67
msg_letter (m.Relation relation) = 82
msg_letter (m.Insert relation new) = 73
msg_letter (m.Update relation old new) = 85
msg_letter (m.Delete relation old) = 68
msg_letter (m.Truncate options relations) = 84

-- the bytes after the letter
abbrev pub fields_spelling : Msg → List ℕ
fields_spelling (m.Begin final_lsn time xid) = int64 final_lsn ++ (int64 time ++ int32 xid)
fields_spelling (m.Commit lsn end_lsn time) = int8 0 ++ (int64 lsn ++ (int64 end_lsn ++ int64 time))
fields_spelling (m.Relation relation) = relation_spelling relation
fields_spelling (m.Insert relation new) = int32 relation ++ new_spelling new
fields_spelling (m.Update relation old new) = int32 relation ++ (maybe_old_spelling old ++ new_spelling new)
fields_spelling (m.Delete relation old) = int32 relation ++ old_spelling old
fields_spelling (m.Truncate options relations) = int32 (length relations) ++ (int8 options ++ flat_map int32 relations)

-- a message: its letter (`B`, `C`, `R`, `I`, `U`, `D`, `T`), and its fields in their order
abbrev pub spelling_of : Msg → List ℕ
spelling_of message = msg_letter message ∷ fields_spelling message

-- a Delete, if something is sent of the old row
abbrev pub maybe_delete_spelling : ℕ → Option OldTuple → List ℕ
maybe_delete_spelling relation None = []
maybe_delete_spelling relation (Some old) = spelling_of (m.Delete relation old)
