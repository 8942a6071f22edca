-- Which rows of a table a subscriber has, by the values of the columns of the replica identity: PostgreSQL 15,
-- "Logical Replication", 31.1 Publication and 31.3 Row Filters.
use Rattle.std.specs.Prelude.{◌≡◌, ℕ, Bool, ◌&&◌, List, Option, Some}
use Rattle.filter_tree.specs.Datum.{Datum}
use Rattle.table_changes.specs.Setting.{Setting}
use Rattle.table_changes.specs.Tables.{Tables, is_row, holds}

-- the rows that are found are those that pass this test, each by its own key
pub record FindsRows (key_of : List Datum → List Datum) (found : List Datum → Option (List Datum))
    (rows : List Datum → Bool) : Type 0 where
  pub keyed : (key row : List Datum) → found key ≡ Some row → key_of row ≡ key
  pub each : (row : List Datum) → is_row (found (key_of row)) row ≡ rows row

-- the row is in the table, and passes to the subscriber with this number
abbrev pub in_shard : Setting → ℕ → Tables → ℕ → List Datum → Bool
in_shard setting subscriber tables table row =
    holds setting.keys tables table row && setting.passes subscriber table row

-- for each table, the rows of the subscriber's shard are found in its copy
abbrev pub FindsShard : Setting → (ℕ → List Datum → List Datum) → ℕ → (ℕ → List Datum → Option (List Datum)) → Tables
    → Type 0
FindsShard setting key_of subscriber copies tables = (table : ℕ)
    → FindsRows (key_of table) (copies table) (in_shard setting subscriber tables table)
