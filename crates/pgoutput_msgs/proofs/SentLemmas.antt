-- Messages that report a commit are read back, and have a limited length.
use Rattle.std.proofs.Common.{◌≡◌, ℕ, ◌+◌, ◌*◌, ◌<◌, ◌≤◌, ◌^◌, Bool, true, false, Option, Some, None, List, [], ◌∷◌, ◌++◌, length, length-append, get_or, map, refl, sym, ap, subst, ◌∙◌, arith, lit<}
use Rattle.std.specs.Prelude.{All, IfSome, slice_get, codes}
use Rattle.std.specs.Int.{w32, cast_unsigned}
use Rattle.std.specs.List.{flat_map}
use Rattle.std.specs.Str.{IsUtf8}
use Rattle.std.proofs.lemmas.List.{length-map}
use Rattle.std.proofs.lemmas.List.Concat.{flat_map-cons}
use Rattle.std.proofs.lemmas.List.Elements.{All-nil, All-cons, All-head, All-tail, All-map}
use Rattle.std.proofs.lemmas.Option.{slice_get_within, get_or_from_slice_get}
use Rattle.filter_tree.specs.Datum.{Number, Truth, Bytes, Datum, Missing, Known}
use Rattle.filter_tree.specs.declared.table.ColType.{ColType}
use Rattle.filter_tree.specs.declared.table.ColType.TheVariants as k
use Rattle.filter_tree.specs.declared.table.Column.{Column}
use Rattle.filter_tree.specs.declared.table.Table.{Table}
use Rattle.pub_catalog.specs.CatalogLimits.{IsPlainName, HasPlainName, IsNamed, IsLimitedTable, IsLimited}
use Rattle.shard_checker.specs.CheckedView.{CheckedOf}
use Rattle.table_changes.specs.Records as r
use Rattle.tables_log.specs.Commits.{CommitOf}
use Rattle.tables_log.specs.Sendable.{IsSendableValue, IsSendableRow, IsSendablePart, IsTableNumber, IsSendableChange, IsSendable}
use Rattle.pgoutput_msgs.specs.Ranges.{IsCellText, AreTexts, IsOldText, IsMaybeOldText, HasTextName, HasTexts, IsName, IsCell, IsTuple, IsOld, IsMaybeOld, IsColumn, IsOid, IsMessage}
use Rattle.pgoutput_msgs.specs.Sent.{IsSent, MessagesAreReadBack}
use Rattle.pgoutput_msgs.specs.Spelling.{int8, int32, string, identity_letter, cell_spelling, tuple_spelling, old_spelling, maybe_old_spelling, column_spelling, columns_spelling, spelling_of}
use Rattle.pgoutput_msgs.specs.Telling.{type_oid_of, identity_of, sent_column, columns_from, relation_of, old_of, maybe_old_of, message_of, begin_msg, commit_msg, messages_for, oid_of}
use Rattle.pgoutput_msgs.specs.ValueText.{cell_of, cells_of}
use Rattle.pgoutput_msgs.specs.declared.message.Msg.{Msg}
use Rattle.pgoutput_msgs.specs.declared.message.Msg.TheVariants as m
use Rattle.pgoutput_msgs.specs.declared.tuple.Cell.TheVariants.{Text}
use Rattle.pgoutput_msgs.proofs.Everywhere.{all_one, all_messages}
use Rattle.pgoutput_msgs.proofs.RoomLemmas.{length_columns}
use Rattle.pgoutput_msgs.proofs.RowLemmas.{few_digits}
use Rattle.pgoutput_msgs.proofs.SpellingLaws.{are_decoded}
use Rattle.pgoutput_msgs.proofs.Writing.{length_fours}

-- a message, if its texts are UTF-8, and a short one in any case
pub record IsPlain (message : Msg) : Type 0 where
  pub read_back : HasTexts message → IsMessage message
  pub short : length (spelling_of message) ≤ 13108011

-- spellings one after the other, each of at most a given number of bytes
flat_at_most : {A : Type 0} (spell : A → List ℕ) (most : ℕ) (xs : List A) → All (λ x. length (spell x) ≤ most) xs
    → length (flat_map spell xs) ≤ most * length xs
flat_at_most spell most [] all = omega arith
flat_at_most {A = A} spell most (x ∷ xs) all =
    let each : A → Type 0 = λ y. length (spell y) ≤ most in
    let split = ap length (flat_map-cons spell x xs) ∙ length-append (spell x) (flat_map spell xs) in
    let first = All-head each x xs all in
    let others = flat_at_most spell most xs (All-tail each x xs all) in
    omega (arith, split, first, others)

-- ---- rows

cell_read : (datum : Datum) → IsSendableValue datum → IsCellText (cell_of datum) → IsCell (cell_of datum)
cell_read Missing h text = tt
cell_read (Known (Number z)) h text = (
  text,
  omega (
    arith,
    few_digits z 9223372036854775807 9223372036854775807 (lit< tt) (lit< tt) h.above_least
        h.below_greatest,
  ),
)
cell_read (Known (Truth true)) h text = (text, omega arith)
cell_read (Known (Truth false)) h text = (text, omega arith)
cell_read (Known (Bytes bytes)) h text = (text, omega (arith, h))

text_at_most : (text : List ℕ) (most : ℕ) → length text ≤ most → length (cell_spelling (Text text)) ≤ most + 5
text_at_most text most h =
    omega (
      arith,
      length-append (codes "t") (int32 (length text) ++ text),
      length-append (int32 (length text)) text,
      h,
    )

cell_short : (datum : Datum) → IsSendableValue datum → length (cell_spelling (cell_of datum)) ≤ 65540
cell_short Missing h = omega arith
cell_short (Known (Number z)) h =
    let digits = few_digits z 9223372036854775807 9223372036854775807 (lit< tt) (lit< tt) h.above_least
    h.below_greatest in
    text_at_most _ 65535 (omega (arith, digits))
cell_short (Known (Truth true)) h = omega arith
cell_short (Known (Truth false)) h = omega arith
cell_short (Known (Bytes bytes)) h = text_at_most bytes 65535 h

cells_read : (cells : List Datum) → IsSendableRow cells → AreTexts (cells_of cells) → IsTuple (cells_of cells)
cells_read cells h texts =
    let read = All-map (λ cell. IsCellText cell → IsCell cell) cell_of cells
    (λ k d within. cell_read (get_or cells k d) (h.values k d within)) in
    (omega (arith, length-map cells cell_of, h.few), λ k d within. read k d within (texts k d within))

cells_short : (cells : List Datum) → IsSendableRow cells → length (tuple_spelling (cells_of cells)) ≤ 6554002
cells_short cells h =
    let each = All-map (λ cell. length (cell_spelling cell) ≤ 65540) cell_of cells
    (λ k d within. cell_short (get_or cells k d) (h.values k d within)) in
    let all = flat_at_most cell_spelling 65540 (cells_of cells) each in
    omega (arith, all, length-map cells cell_of, h.few)

old_read : (part : r.PartOf) → IsSendablePart (Some part) → IsOldText (old_of part) → IsOld (old_of part)
old_read (r.Key row) h texts = cells_read row h texts
old_read (r.Full row) h texts = cells_read row h texts

old_short : (part : r.PartOf) → IsSendablePart (Some part) → length (old_spelling (old_of part)) ≤ 6554003
old_short (r.Key row) h = omega (arith, cells_short row h)
old_short (r.Full row) h = omega (arith, cells_short row h)

maybe_old_read : (part : Option r.PartOf) → IsSendablePart part → IsMaybeOldText (maybe_old_of part)
    → IsMaybeOld (maybe_old_of part)
maybe_old_read None h texts = tt
maybe_old_read (Some part) h texts = old_read part h texts

maybe_old_short : (part : Option r.PartOf) → IsSendablePart part
    → length (maybe_old_spelling (maybe_old_of part)) ≤ 6554003
maybe_old_short None h = omega arith
maybe_old_short (Some part) h = old_short part h

-- ---- messages of changes

is_oid : (table : ℕ) → IsTableNumber table → IsOid (oid_of table)
is_oid table h = omega (arith, h)

pub plain_insert : (table : ℕ) (new : List Datum) → IsTableNumber table → IsSendableRow new
    → IsPlain (m.Insert (oid_of table) (cells_of new))
plain_insert table new number row = record {
  read_back = λ texts. (is_oid table number, cells_read new row texts);
  short = omega (arith, cells_short new row);
}

pub plain_update : (table : ℕ) (part : Option r.PartOf) (new : List Datum) → IsTableNumber table → IsSendablePart part
    → IsSendableRow new
    → IsPlain (m.Update (oid_of table) (maybe_old_of part) (cells_of new))
plain_update table part new number old row = record {
  read_back = λ texts. (is_oid table number, (maybe_old_read part old texts.0, cells_read new row texts.1));
  short =
      let split = length-append (maybe_old_spelling (maybe_old_of part)) (codes "N" ++ tuple_spelling (cells_of new)) in
      omega (arith, split, maybe_old_short part old, cells_short new row);
}

pub plain_delete : (table : ℕ) (part : r.PartOf) → IsTableNumber table → IsSendablePart (Some part)
    → IsPlain (m.Delete (oid_of table) (old_of part))
plain_delete table part number old = record {
  read_back = λ texts. (is_oid table number, old_read part old texts);
  short = omega (arith, old_short part old);
}

pub plain_truncate : (numbers : List ℕ) → length numbers ≤ 64 → All IsTableNumber numbers
    → IsPlain (m.Truncate 0 (map oid_of numbers))
plain_truncate numbers few all = record {
  read_back = λ texts. (
    omega (arith, length-map numbers oid_of, few),
    (omega arith, All-map IsOid oid_of numbers (λ k d within. is_oid (get_or numbers k d) (all k d within))),
  );
  short = omega (arith, length_fours (map oid_of numbers), length-map numbers oid_of, few);
}

plain_message : (change : r.ChangeOf) → IsSendableChange change → All IsPlain (message_of change)
plain_message (r.Insert table new) h =
    all_one IsPlain (m.Insert (oid_of table) (cells_of new)) (plain_insert table new h.0 h.1)
plain_message (r.Update table part new) h =
    all_one IsPlain (m.Update (oid_of table) (maybe_old_of part) (cells_of new))
    (plain_update table part new h.0 h.1 h.2)
plain_message (r.Delete table None) h = All-nil IsPlain
plain_message (r.Delete table (Some part)) h =
    all_one IsPlain (m.Delete (oid_of table) (old_of part)) (plain_delete table part h.0 h.1)
plain_message (r.Truncate numbers) h =
    all_one IsPlain (m.Truncate 0 (map oid_of numbers)) (plain_truncate numbers h.0 h.1)

-- ---- Relations

type_oid_fits : (kind : ColType) → type_oid_of kind < 2 ^ 32
type_oid_fits k.SmallInt = omega arith
type_oid_fits k.Integer = omega arith
type_oid_fits k.BigInt = omega arith
type_oid_fits k.Boolean = omega arith
type_oid_fits k.Text = omega arith

name_read : (name : List ℕ) → IsPlainName name → IsUtf8 name → IsName name
name_read name h text = record { is_text = text; no_zero = h.no_zero }

column_read : (table : Table) (number : ℕ) (column : Column) → HasPlainName column
    → HasTextName (sent_column table number column) → IsColumn (sent_column table number column)
column_read table number column h text = record {
  name = name_read column.name h text;
  type_oid = type_oid_fits column.kind;
  type_modifier = record { sfits = omega arith };
}

column_short : (table : Table) (number : ℕ) (column : Column) → HasPlainName column
    → length (column_spelling (sent_column table number column)) ≤ 73
column_short table number column h =
    let relation = sent_column table number column in
    let split = length-append (string column.name)
    (int32 relation.type_oid ++ int32 (cast_unsigned w32 relation.type_modifier)) in
    omega (arith, split, length-append column.name (0 ∷ []), h.short)

columns_read : (table : Table) (number : ℕ) (columns : List Column) → All HasPlainName columns
    → All HasTextName (columns_from table number columns)
    → All IsColumn (columns_from table number columns)
columns_read table number [] names texts = All-nil IsColumn
columns_read table number (column ∷ columns) names texts =
    All-cons IsColumn (sent_column table number column) (columns_from table (number + 1) columns)
    (column_read table number column (All-head HasPlainName column columns names)
    (All-head HasTextName (sent_column table number column) (columns_from table (number + 1) columns) texts))
    (columns_read table (number + 1) columns (All-tail HasPlainName column columns names)
    (All-tail HasTextName (sent_column table number column) (columns_from table (number + 1) columns) texts))

columns_short : (table : Table) (number : ℕ) (columns : List Column) → All HasPlainName columns
    → All (λ column. length (column_spelling column) ≤ 73) (columns_from table number columns)
columns_short table number [] names = All-nil (λ column. length (column_spelling column) ≤ 73)
columns_short table number (column ∷ columns) names =
    All-cons (λ one. length (column_spelling one) ≤ 73) (sent_column table number column)
    (columns_from table (number + 1) columns)
    (column_short table number column (All-head HasPlainName column columns names))
    (columns_short table (number + 1) columns (All-tail HasPlainName column columns names))

pub plain_relation : (number : ℕ) (table : Table) → number < 64 → length table.columns ≤ 100 → IsNamed table
    → IsPlain (m.Relation (relation_of number table))
plain_relation number table low few names =
    let columns = columns_from table 0 table.columns in
    let long = length_columns table 0 table.columns in
    record {
      read_back = λ texts. record {
        oid = is_oid number low;
        namespace = name_read table.schema names.schema texts.namespace;
        name = name_read table.name names.name texts.name;
        few = omega (arith, long, few);
        columns = columns_read table 0 table.columns names.columns texts.columns;
      };
      short =
          let all = flat_at_most column_spelling 73 columns (columns_short table 0 table.columns names.columns) in
          let schema_split = length-append (string table.schema)
          (string table.name ++ (int8 (identity_letter (identity_of table.identity)) ++ columns_spelling columns))
          in
          let name_split = length-append (string table.name)
          (int8 (identity_letter (identity_of table.identity)) ++ columns_spelling columns) in
          omega (
            arith,
            all,
            long,
            few,
            schema_split,
            name_split,
            length-append table.schema (0 ∷ []),
            length-append table.name (0 ∷ []),
            names.schema.short,
            names.name.short,
          );
    }

relation_found : (tables : List Table) (number : ℕ) (found : Option Table) → slice_get tables number ≡ found
    → length tables ≤ 64 → All IsLimitedTable tables
    → IfSome found (λ table. IsPlain (m.Relation (relation_of number table)))
relation_found tables number None e few limited = tt
relation_found tables number (Some table) e few limited =
    let within = slice_get_within tables number table e in
    let there = get_or_from_slice_get tables number table table e in
    let narrow : IsLimitedTable table = subst IsLimitedTable there (limited number table within) in
    plain_relation number table (omega (arith, within, few)) narrow.columns narrow.named

-- ---- all messages

plain_begin : (commit : CommitOf) → IsSendable commit → IsPlain (begin_msg commit)
plain_begin commit h = record {
  read_back = λ texts. (omega (arith, h.numbered_within), (h.timed, omega (arith, h.numbered_within)));
  short = omega arith;
}

plain_commit : (commit : CommitOf) → IsSendable commit → IsPlain (commit_msg commit)
plain_commit commit h = record {
  read_back = λ texts. (omega (arith, h.numbered_within), (omega (arith, h.numbered_within), h.timed));
  short = omega arith;
}

all_plain : (checked : CheckedOf) (subscriber : ℕ) (sent : List Bool) (commit : CommitOf) → IsSendable commit
    → IsLimited checked.catalog
    → All IsPlain (messages_for checked subscriber sent commit)
all_plain checked subscriber sent commit h limited =
    let tables = checked.catalog.tables in
    all_messages IsPlain checked subscriber sent commit h
    (record {
      relations = λ number. relation_found tables number (slice_get tables number) refl limited.tables
          limited.each_table;
      changes = plain_message;
    })
    (plain_begin commit h) (plain_commit commit h)

pub messages_sent : (checked : CheckedOf) (subscriber : ℕ) (sent : List Bool) (commit : CommitOf)
    (messages : List Msg) → IsSendable commit → IsLimited checked.catalog
    → messages ≡ messages_for checked subscriber sent commit → All HasTexts messages → All IsSent messages
messages_sent checked subscriber sent commit messages h limited are texts =
    let plain = subst (All IsPlain) (sym are) (all_plain checked subscriber sent commit h limited) in
    λ n d within. record {
      read_back = (plain n d within).read_back (texts n d within);
      short =
          (plain n d within).short;
    }

-- ---- laws

pub each_read_back : MessagesAreReadBack
each_read_back messages sent = λ n d within. are_decoded (get_or messages n d) (sent n d within).read_back
