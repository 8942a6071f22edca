-- How large a commit is at most, so that each of its messages has room for it: PostgreSQL 15, 55.9. Logical
-- Replication Message Formats.
use Rattle.std.specs.Prelude.{ℕ, ◌<◌, ◌≤◌, ◌^◌, List, All, length, Option, Some, None}
use Rattle.filter_tree.specs.Datum.{Number, Truth, Bytes, Datum, Missing, Known}
use Rattle.filter_tree.specs.Valid.{IsWithin}
use Rattle.filter_tree.specs.declared.table.ColType.TheVariants.{BigInt}
use Rattle.table_changes.specs.Records.{PartOf, Key, Full, ChangeOf, Insert, Update, Delete, Truncate}
use Rattle.tables_log.specs.Commits.{CommitOf}

-- a number has 64 bits, and a text at most 65,535 bytes
abbrev pub IsSendableValue : Datum → Type 0
IsSendableValue Missing = Unit {0}
IsSendableValue (Known (Number number)) = IsWithin BigInt number
IsSendableValue (Known (Truth truth)) = Unit {0}
IsSendableValue (Known (Bytes bytes)) = length bytes ≤ 65535

-- at most 100 columns
pub record IsSendableRow (row : List Datum) : Type 0 where
  pub few : length row ≤ 100
  pub values : All IsSendableValue row

abbrev pub IsSendablePart : Option PartOf → Type 0
IsSendablePart None = Unit {0}
IsSendablePart (Some (Key part)) = IsSendableRow part
IsSendablePart (Some (Full old)) = IsSendableRow old

-- the number of one of 64 tables
abbrev pub IsTableNumber : ℕ → Type 0
IsTableNumber table = table < 64

abbrev pub IsSendableChange : ChangeOf → Type 0
IsSendableChange (Insert table new) = IsTableNumber table × IsSendableRow new
IsSendableChange (Update table part new) = IsTableNumber table × IsSendablePart part × IsSendableRow new
IsSendableChange (Delete table part) = IsTableNumber table × IsSendablePart part
IsSendableChange (Truncate numbers) = (length numbers ≤ 64) × All IsTableNumber numbers

-- One of 1,000,000,000 commits.
pub record IsSendable (commit : CommitOf) : Type 0 where
  pub numbered : 1 ≤ commit.number
  pub numbered_within : commit.number ≤ 1000000000
  pub timed : commit.time < 2 ^ 64
  pub changed : All IsSendableChange commit.changes
