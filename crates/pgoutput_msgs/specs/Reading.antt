-- How a message is read from the left: each rule reads bytes from the front of a list, and gives what it reads and the
-- remaining bytes, or the first fault: PostgreSQL 15, 55.9. Logical Replication Message Formats.
use Rattle.std.specs.Prelude.{ℕ, zero, suc, ◌+◌, ◌^◌, ◌==◌, nat_lt, Bool, true, false, if◌then◌else◌, List, [], ◌∷◌, length, take, drop, Option, Some, None, Result, Ok, Err}
use Rattle.std.specs.Int.{Width, w16, w32, w64, byte_len, from_be_bytes, cast_signed}
use Rattle.std.specs.List.{position}
use Rattle.std.specs.Str.{is_utf8}
use Rattle.filter_tree.specs.Memory.{Answers}
use Rattle.pgoutput_msgs.specs.declared.error.MsgError.{MsgError}
use Rattle.pgoutput_msgs.specs.declared.error.MsgError.TheVariants.{Unknown, Toast, BadCount, Short, BadText, Trailing, OutOfMemory}
use Rattle.pgoutput_msgs.specs.declared.message.Msg.{Msg}
use Rattle.pgoutput_msgs.specs.declared.message.Msg.TheVariants as m
use Rattle.pgoutput_msgs.specs.declared.relation.RelationColumn.{RelationColumn}
use Rattle.pgoutput_msgs.specs.declared.relation.ReplicaIdentity.{ReplicaIdentity}
use Rattle.pgoutput_msgs.specs.declared.relation.ReplicaIdentity.TheVariants as i
use Rattle.pgoutput_msgs.specs.declared.tuple.Cell.{Cell}
use Rattle.pgoutput_msgs.specs.declared.tuple.Cell.TheVariants.{Null, Text}
use Rattle.pgoutput_msgs.specs.declared.tuple.OldTuple.{OldTuple}
use Rattle.pgoutput_msgs.specs.declared.tuple.OldTuple.TheVariants.{Key, Full}

-- ---- rules

abbrev pub Outcome : Type 0 → Type 0
Outcome A = Result (A × List ℕ) MsgError

abbrev pub Rule : Type 0 → Type 0
Rule A = List ℕ → Outcome A

abbrev pub pure : {A : Type 0} → A → Rule A
pure a = λ bytes. Ok (a, bytes)

abbrev pub fail : {A : Type 0} → MsgError → Rule A
fail fault = λ bytes. Err fault

abbrev pub and_then : {A B : Type 0} → Outcome A → (A → Rule B) → Outcome B
and_then (Ok read) more = more read.0 read.1
and_then (Err fault) more = Err fault

-- what is read determines how the rest is read
infixl 10 ◌>>=◌
abbrev pub ◌>>=◌ : {A B : Type 0} → Rule A → (A → Rule B) → Rule B
rule >>= more = λ bytes. and_then (rule bytes) more

abbrev pub mapped : {A B : Type 0} → (A → B) → Rule A → Rule B
mapped f rule = rule >>= (λ a. pure (f a))

-- one after the other
infixr 11 ◌&◌
abbrev pub ◌&◌ : {A B : Type 0} → Rule A → Rule B → Rule (A × B)
rule & other = rule >>= (λ a. mapped (λ b. (a, b)) other)

-- what is read must pass a test
abbrev pub if_passed : {A : Type 0} → Bool → MsgError → A → Rule A
if_passed true fault a = pure a
if_passed false fault a = fail fault

abbrev pub passed : {A : Type 0} → (A → Bool) → MsgError → Rule A → Rule A
passed test fault rule = rule >>= (λ a. if_passed (test a) fault a)

-- this number of values, one after the other
unfoldable pub many : {A : Type 0} → Rule A → ℕ → Rule (List A)
many rule zero = pure []
many rule (suc n) = rule >>= (λ a. mapped (λ others. a ∷ others) (many rule n))

-- ---- fields

unfoldable pub byte : Rule ℕ
byte [] = Err Short
byte (first ∷ rest) = Ok (first, rest)

-- this number of bytes
unfoldable pub some : ℕ → Rule (List ℕ)
some n bytes = if nat_lt (length bytes) n then Err Short else Ok (take n bytes, drop n bytes)

-- a number of a width, the high byte first
unfoldable pub big_endian : Width → Rule ℕ
big_endian w = mapped (from_be_bytes w) (some (byte_len w))

-- a count or a length has a sign, and must not be negative
unfoldable pub count16 : Rule ℕ
count16 = passed (λ n. nat_lt n (2 ^ 15)) BadCount (big_endian w16)

unfoldable pub count32 : Rule ℕ
count32 = passed (λ n. nat_lt n (2 ^ 31)) BadCount (big_endian w32)

-- the bytes before the place of a zero byte, if there is one
abbrev pub cut_at : Option ℕ → Rule (List ℕ)
cut_at None bytes = Err Short
cut_at (Some place) bytes = Ok (take place bytes, drop (place + 1) bytes)

unfoldable pub up_to_zero : Rule (List ℕ)
up_to_zero bytes = cut_at (position (λ one. one == 0) bytes) bytes

-- these bytes, if they are UTF-8
unfoldable pub utf8_text : List ℕ → Rule (List ℕ)
utf8_text bytes = if_passed (is_utf8 bytes) BadText bytes

-- a String, which ends with a zero byte
unfoldable pub string_at : Rule (List ℕ)
string_at = up_to_zero >>= utf8_text

-- a text after its length
unfoldable pub text_at : Rule (List ℕ)
text_at = count32 >>= some >>= utf8_text

-- ---- TupleData

abbrev pub cell_by : ℕ → Rule Cell
cell_by kind =
    if kind == 110 then pure Null
    else (if kind == 117 then fail Toast else (if kind == 116 then mapped Text text_at else fail (Unknown kind)))

unfoldable pub cell_at : Rule Cell
cell_at = byte >>= cell_by

unfoldable pub tuple_at : Rule (List Cell)
tuple_at = count16 >>= many cell_at

-- what is sent of an old row, by its letter
unfoldable pub old_by : ℕ → Rule OldTuple
old_by kind =
    if kind == 75 then mapped Key tuple_at else (if kind == 79 then mapped Full tuple_at else fail (Unknown kind))

abbrev pub new_by_letter : ℕ → Rule (List Cell)
new_by_letter kind = if kind == 78 then tuple_at else fail (Unknown kind)

unfoldable pub new_at : Rule (List Cell)
new_at = byte >>= new_by_letter

-- ---- Relation

abbrev pub identity_by_letter : ℕ → Rule ReplicaIdentity
identity_by_letter kind =
    if kind == 100 then pure i.Default
    else (if kind == 110 then pure i.Nothing
    else (if kind == 102 then pure i.Full
    else (if kind == 105 then pure i.Index else fail (Unknown kind))))

unfoldable pub identity_at : Rule ReplicaIdentity
identity_at = byte >>= identity_by_letter

abbrev pub flag_by : ℕ → Rule Bool
flag_by flag = if flag == 0 then pure false else (if flag == 1 then pure true else fail (Unknown flag))

unfoldable pub key_flag_at : Rule Bool
key_flag_at = byte >>= flag_by

unfoldable pub column_at : Rule RelationColumn
column_at = mapped
    (λ f. record { is_key = f.0; name = f.1.0; type_oid = f.1.1.0; type_modifier = cast_signed w32 f.1.1.1 })
    (key_flag_at & string_at & big_endian w32 & big_endian w32)

unfoldable pub relation_columns_at : Rule (List RelationColumn)
relation_columns_at = count16 >>= many column_at

-- ---- messages, after their letter

unfoldable pub begin_at : Rule Msg
begin_at = mapped (λ f. m.Begin f.0 f.1.0 f.1.1) (big_endian w64 & big_endian w64 & big_endian w32)

-- the flags of a commit are not used, and 0
abbrev pub commit_by : ℕ → Rule Msg
commit_by flags =
    if flags == 0 then mapped (λ f. m.Commit f.0 f.1.0 f.1.1) (big_endian w64 & big_endian w64 & big_endian w64)
    else fail (Unknown flags)

unfoldable pub commit_at : Rule Msg
commit_at = byte >>= commit_by

unfoldable pub relation_at : Rule Msg
relation_at = mapped (λ f. m.Relation (record {
  oid = f.0;
  namespace = f.1.0;
  name = f.1.1.0;
  identity = f.1.1.1.0;
  columns = f.1.1.1.1;
}))
    (big_endian w32 & string_at & string_at & identity_at & relation_columns_at)

unfoldable pub insert_at : Rule Msg
insert_at = mapped (λ f. m.Insert f.0 f.1) (big_endian w32 & new_at)

-- a new row alone, or what is sent of the old row and then the new one
abbrev pub rows_by : ℕ → Rule (Option OldTuple × List Cell)
rows_by kind =
    if kind == 78 then mapped (λ new. (None, new)) tuple_at
    else mapped (λ f. (Some f.0, f.1)) (old_by kind & new_at)

unfoldable pub update_at : Rule Msg
update_at = mapped (λ f. m.Update f.0 f.1.0 f.1.1) (big_endian w32 & (byte >>= rows_by))

unfoldable pub delete_at : Rule Msg
delete_at = mapped (λ f. m.Delete f.0 f.1) (big_endian w32 & (byte >>= old_by))

unfoldable pub truncate_at : Rule Msg
truncate_at = count32 >>= (λ n. mapped (λ f. m.Truncate f.0 f.1) (byte & many (big_endian w32) n))

abbrev pub message_by : ℕ → Rule Msg
message_by kind =
    if kind == 66 then begin_at
    else (if kind == 67 then commit_at
    else (if kind == 82 then relation_at
    else (if kind == 73 then insert_at
    else (if kind == 85 then update_at
    else (if kind == 68 then delete_at
    else (if kind == 84 then truncate_at else fail (Unknown kind)))))))

unfoldable pub message_at : Rule Msg
message_at = byte >>= message_by

-- ---- all of the bytes

abbrev pub all_read : Outcome Msg → Result Msg MsgError
all_read (Ok read) = if length read.1 == 0 then Ok read.0 else Err Trailing
all_read (Err fault) = Err fault

-- the message that the bytes spell, or the first fault
unfoldable pub decoded : List ℕ → Result Msg MsgError
decoded bytes = all_read (message_at bytes)

-- ---- what a function of the code reads

-- the fault that an error reports, if any
abbrev pub msg_fault : MsgError → Option MsgError
msg_fault (Unknown found) = Some (Unknown found)
msg_fault Toast = Some Toast
msg_fault BadCount = Some BadCount
msg_fault Short = Some Short
msg_fault BadText = Some BadText
msg_fault Trailing = Some Trailing
msg_fault OutOfMemory = None

-- It gives what a rule gives, seen by `view`, and `rest` is left; or memory was refused.
abbrev pub Reads : {V A : Type 0} → (V → A) → Outcome A → Result V MsgError → List ℕ → Type 0
Reads view outcome result rest = Answers (λ a. (view a, rest)) msg_fault outcome result
