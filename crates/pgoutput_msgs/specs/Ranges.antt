-- Which messages the layout has room for, with signed counts and lengths, and what each field of a message is:
-- PostgreSQL 15, 55.9. Logical Replication Message Formats.
use Rattle.std.specs.Prelude.{ℕ, ◌<◌, ◌^◌, List, length, All, Contains, FitsSigned, Option, Some, None}
use Rattle.std.specs.Int.{w32}
use Rattle.std.specs.Str.{IsUtf8}
use Rattle.pgoutput_msgs.specs.declared.message.Msg.{Msg}
use Rattle.pgoutput_msgs.specs.declared.message.Msg.TheVariants as m
use Rattle.pgoutput_msgs.specs.declared.relation.Relation.{Relation}
use Rattle.pgoutput_msgs.specs.declared.relation.RelationColumn.{RelationColumn}
use Rattle.pgoutput_msgs.specs.declared.tuple.Cell.{Cell}
use Rattle.pgoutput_msgs.specs.declared.tuple.Cell.TheVariants.{Null, Text}
use Rattle.pgoutput_msgs.specs.declared.tuple.OldTuple.{OldTuple}
use Rattle.pgoutput_msgs.specs.declared.tuple.OldTuple.TheVariants.{Key, Full}

-- ---- what the layout has room for

abbrev pub IsCellWithinRange : Cell → Type 0
IsCellWithinRange Null = Unit {0}
IsCellWithinRange (Text text) = length text < 2 ^ 31

-- fewer than 2^15 columns, and each text shorter than 2^31 bytes
pub record IsTupleWithinRange (cells : List Cell) : Type 0 where
  pub few : length cells < 2 ^ 15
  pub short : All IsCellWithinRange cells

abbrev pub IsOldWithinRange : OldTuple → Type 0
IsOldWithinRange (Key tuple) = IsTupleWithinRange tuple
IsOldWithinRange (Full tuple) = IsTupleWithinRange tuple

abbrev pub IsMaybeOldWithinRange : Option OldTuple → Type 0
IsMaybeOldWithinRange None = Unit {0}
IsMaybeOldWithinRange (Some old) = IsOldWithinRange old

abbrev pub IsWithinRange : Msg → Type 0
IsWithinRange (m.Begin final_lsn time xid) = Unit {0}
IsWithinRange (m.Commit lsn end_lsn time) = Unit {0}
IsWithinRange (m.Relation relation) = length relation.columns < 2 ^ 15
IsWithinRange (m.Insert relation new) = IsTupleWithinRange new
IsWithinRange (m.Update relation old new) = IsMaybeOldWithinRange old × IsTupleWithinRange new
IsWithinRange (m.Delete relation old) = IsOldWithinRange old
IsWithinRange (m.Truncate options relations) = length relations < 2 ^ 31

-- ---- messages whose names and texts are UTF-8

abbrev pub IsCellText : Cell → Type 0
IsCellText Null = Unit {0}
IsCellText (Text text) = IsUtf8 text

abbrev pub AreTexts : List Cell → Type 0
AreTexts cells = All IsCellText cells

abbrev pub IsOldText : OldTuple → Type 0
IsOldText (Key tuple) = AreTexts tuple
IsOldText (Full tuple) = AreTexts tuple

abbrev pub IsMaybeOldText : Option OldTuple → Type 0
IsMaybeOldText None = Unit {0}
IsMaybeOldText (Some old) = IsOldText old

abbrev pub HasTextName : RelationColumn → Type 0
HasTextName column = IsUtf8 column.name

pub record HasTextNames (relation : Relation) : Type 0 where
  pub namespace : IsUtf8 relation.namespace
  pub name : IsUtf8 relation.name
  pub columns : All HasTextName relation.columns

abbrev pub HasTexts : Msg → Type 0
HasTexts (m.Begin final_lsn time xid) = Unit {0}
HasTexts (m.Commit lsn end_lsn time) = Unit {0}
HasTexts (m.Relation relation) = HasTextNames relation
HasTexts (m.Insert relation new) = AreTexts new
HasTexts (m.Update relation old new) = IsMaybeOldText old × AreTexts new
HasTexts (m.Delete relation old) = IsOldText old
HasTexts (m.Truncate options relations) = Unit {0}

-- ---- messages: each field is a value of its type, and there is room for it

-- a text that ends with a zero byte
pub record IsName (text : List ℕ) : Type 0 where
  pub is_text : IsUtf8 text
  pub no_zero : ¬ Contains text 0

abbrev pub IsCell : Cell → Type 0
IsCell Null = Unit {0}
IsCell (Text text) = IsUtf8 text × (length text < 2 ^ 31)

abbrev pub IsTuple : List Cell → Type 0
IsTuple cells = (length cells < 2 ^ 15) × All IsCell cells

abbrev pub IsOld : OldTuple → Type 0
IsOld (Key tuple) = IsTuple tuple
IsOld (Full tuple) = IsTuple tuple

abbrev pub IsMaybeOld : Option OldTuple → Type 0
IsMaybeOld None = Unit {0}
IsMaybeOld (Some old) = IsOld old

pub record IsColumn (column : RelationColumn) : Type 0 where
  pub name : IsName column.name
  pub type_oid : column.type_oid < 2 ^ 32
  pub type_modifier : FitsSigned w32 column.type_modifier

pub record IsRelation (relation : Relation) : Type 0 where
  pub oid : relation.oid < 2 ^ 32
  pub namespace : IsName relation.namespace
  pub name : IsName relation.name
  pub few : length relation.columns < 2 ^ 15
  pub columns : All IsColumn relation.columns

abbrev pub IsOid : ℕ → Type 0
IsOid oid = oid < 2 ^ 32

abbrev pub IsMessage : Msg → Type 0
IsMessage (m.Begin final_lsn time xid) = (final_lsn < 2 ^ 64) × ((time < 2 ^ 64) × (xid < 2 ^ 32))
IsMessage (m.Commit lsn end_lsn time) = (lsn < 2 ^ 64) × ((end_lsn < 2 ^ 64) × (time < 2 ^ 64))
IsMessage (m.Relation relation) = IsRelation relation
IsMessage (m.Insert relation new) = IsOid relation × IsTuple new
IsMessage (m.Update relation old new) = IsOid relation × (IsMaybeOld old × IsTuple new)
IsMessage (m.Delete relation old) = IsOid relation × IsOld old
IsMessage (m.Truncate options relations) = (length relations < 2 ^ 31) × ((options < 256) × All IsOid relations)
