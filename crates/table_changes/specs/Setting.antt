-- What changes of tables depend on, separate from the catalog that defines it: which tables exist, which rows fit them,
-- their unique keys, what the replica identity records of a row, which subscribers get it, and which get anything from
-- a table: PostgreSQL 15, "Logical Replication", 31.1 Publication and 31.3 Row Filters.
use Rattle.std.specs.Prelude.{ℕ, Bool, ◌&&◌, List, is_none, Option}
use Rattle.filter_tree.specs.Datum.{Datum}
use Rattle.filter_tree.specs.declared.validity.RowFault.{RowFault}
use Rattle.table_changes.specs.Keys.{Keys}

-- what is recorded of an old row: the values of some columns, the whole row, or nothing
pub data Recorded : Type 0 where
  Columns : Recorded
  Whole : Recorded
  Nowhere : Recorded

-- tables and subscribers by their numbers
pub record Setting : Type 0 where
  -- the table exists
  pub known : ℕ → Bool
  -- the first reason why the row may not be in it
  pub fault : ℕ → List Datum → Option RowFault
  pub keys : Keys
  pub recorded : ℕ → Recorded
  -- the values that identify an old row
  pub identity : ℕ → List Datum → List Datum
  -- the row with nulls outside the columns that are recorded
  pub blanked : ℕ → List Datum → List Datum
  -- the row passes to the subscriber: subscriber, table, row
  pub passes : ℕ → ℕ → List Datum → Bool
  -- the subscriber gets anything from the table: subscriber, table
  pub carries : ℕ → ℕ → Bool

-- the table exists, and accepts the row
abbrev pub fits : Setting → ℕ → List Datum → Bool
fits setting table row = setting.known table && is_none (setting.fault table row)
