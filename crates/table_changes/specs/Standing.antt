-- What laws about changes of tables require of a setting, besides that each row has a primary key: that a row's
-- identity determines which subscribers get it, that identities distinguish rows, and that each row that fits passes to
-- exactly one subscriber: PostgreSQL 15, "Logical Replication", 31.1 Publication and 31.3 Row Filters.
use Rattle.std.specs.Prelude.{◌≡◌, ◌≢◌, ℕ, true, List, None}
use Rattle.filter_tree.specs.Datum.{Datum}
use Rattle.table_changes.specs.Commands.{Command, fault_of, applied}
use Rattle.table_changes.specs.Setting.{Setting, Nowhere, fits}
use Rattle.table_changes.specs.Tables.{Tables, holds, Stands}

-- no two rows of a table have the same identity
abbrev pub Apart : Setting → Tables → Type 0
Apart setting tables = (table : ℕ) (one other : List Datum) → holds setting.keys tables table one ≡ true
    → holds setting.keys tables table other ≡ true
    → setting.identity table one ≡ setting.identity table other → one ≡ other

-- each row fits its table
abbrev pub AllFit : Setting → Tables → Type 0
AllFit setting tables = (table : ℕ) (row : List Datum) → holds setting.keys tables table row ≡ true
    → fits setting table row ≡ true

-- What is recorded of an old row determines which subscribers had it.
pub record Covered (setting : Setting) : Type 0 where
  -- rows with the same identity pass alike
  pub decides : (subscriber table : ℕ) (one other : List Datum)
      → setting.identity table one ≡ setting.identity table other
      → setting.passes subscriber table one ≡ setting.passes subscriber table other
  -- a row with nulls outside the columns that are recorded has the row's identity
  pub blanked : (table : ℕ) (row : List Datum)
      → setting.identity table (setting.blanked table row) ≡ setting.identity table row
  -- something is recorded for each table
  pub recorded : (table : ℕ) → setting.recorded table ≢ Nowhere
  -- a subscriber that gets a row gets something from its table
  pub carried : (subscriber table : ℕ) (row : List Datum) → setting.passes subscriber table row ≡ true
      → setting.carries subscriber table ≡ true

-- A command without a fault leaves no two rows of a table with the same identity if there were none.
pub record KeepsApart (setting : Setting) : Type 0 where
  pub kept : (tables : Tables) (command : Command) → fault_of setting tables command ≡ None
      → Stands setting.keys tables → Apart setting tables
      → Apart setting (applied setting tables command)

-- exactly one subscriber gets the row
pub record PassesToOne (setting : Setting) (table : ℕ) (row : List Datum) : Type 0 where
  pub owner : ℕ
  pub takes_it : setting.passes owner table row ≡ true
  pub no_other : (other : ℕ) → setting.passes other table row ≡ true → other ≡ owner

-- Each row that fits a table passes to exactly one subscriber.
pub record DividesRows (setting : Setting) : Type 0 where
  pub one_owner : (table : ℕ) (row : List Datum) → fits setting table row ≡ true → PassesToOne setting table row
