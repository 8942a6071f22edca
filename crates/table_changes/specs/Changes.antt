-- Which rows are in tables as rows and commands without a fault come and go, and what is preserved: PostgreSQL 15,
-- Chapter 6 Data Manipulation, 5.4.4 Primary Keys, 11.6 Unique Indexes, and SQL Commands, TRUNCATE.
use Rattle.std.specs.Prelude.{◌≡◌, ℕ, ◌==◌, Bool, true, not, ◌&&◌, ◌||◌, List, Some, None}
use Rattle.std.specs.List.{list_any}
use Rattle.filter_tree.specs.Datum.{Datum}
use Rattle.filter_tree.specs.Same.{same_row}
use Rattle.table_changes.specs.Commands.{Command, Insert, Update, Delete, Truncate, named, fault_of, applied, all_applied, first_fault}
use Rattle.table_changes.specs.Keys.{Keys, key_at, HasPrimaryKeys}
use Rattle.table_changes.specs.Setting.{Setting}
use Rattle.table_changes.specs.Standing.{Apart, AllFit, KeepsApart}
use Rattle.table_changes.specs.Tables.{Tables, is_row, no_rows, put_in, take_out, emptied, is_free, holds, Stands}

-- the table and the row are these
abbrev pub is_this : ℕ → List Datum → ℕ → List Datum → Bool
is_this table row other another = (table == other) && same_row row another

-- ---- rows that come and go

-- A row that comes, if no row has its value in a unique key, is in the tables along with the rows that were there
-- before.
abbrev pub RowComes : Type 0
RowComes = (keys : Keys) → HasPrimaryKeys keys → (tables : Tables) (table : ℕ) (row : List Datum)
    → is_free keys tables table row ≡ true
    → (other : ℕ) (another : List Datum)
    → holds keys (put_in keys tables table row) other another
    ≡ (is_this table row other another || holds keys tables other another)

-- When a row that was in the tables goes, it is no longer there, and all others are.
abbrev pub RowGoes : Type 0
RowGoes = (keys : Keys) → HasPrimaryKeys keys → (tables : Tables) → Stands keys tables
    → (table : ℕ) (row : List Datum) → holds keys tables table row ≡ true
    → (other : ℕ) (another : List Datum)
    → holds keys (take_out keys tables table row) other another
    ≡ (holds keys tables other another && not (is_this table row other another))

-- Tables that are emptied have no rows, and the others keep all their rows.
abbrev pub TablesAreEmptied : Type 0
TablesAreEmptied = (keys : Keys) → HasPrimaryKeys keys → (tables : Tables) (numbers : List ℕ)
    → (other : ℕ) (another : List Datum)
    → holds keys (emptied tables numbers) other another
    ≡ (holds keys tables other another && not (list_any (λ table. table == other) numbers))

-- Rows stay where they belong as another comes and goes, and as tables are emptied.
pub record StayWhereTheyBelong (keys : Keys) (tables : Tables) : Type 0 where
  pub comes : (table : ℕ) (row : List Datum) → is_free keys tables table row ≡ true
      → Stands keys (put_in keys tables table row)
  pub goes : (table : ℕ) (row : List Datum) → holds keys tables table row ≡ true
      → Stands keys (take_out keys tables table row)
  pub emptied_too : (numbers : List ℕ) → Stands keys (emptied tables numbers)

abbrev pub OthersStay : Type 0
OthersStay = (keys : Keys) (tables : Tables) → Stands keys tables → StayWhereTheyBelong keys tables

-- Rows of a table that share a value in a unique key are one row.
abbrev pub OneRowForKey : Type 0
OneRowForKey = (keys : Keys) (tables : Tables) → Stands keys tables → (table number : ℕ) (one other value : List Datum)
    → holds keys tables table one ≡ true → holds keys tables table other ≡ true
    → key_at keys table number one ≡ Some value → key_at keys table number other ≡ Some value → one ≡ other

-- ---- commands

-- the row is the one that a key names
abbrev pub is_named : Tables → ℕ → List Datum → ℕ → List Datum → Bool
is_named tables table key other another = (table == other) && is_row (named tables table key) another

-- which rows exist after a command: those that it adds, and all that existed before except those that it takes out
abbrev pub stands_after : Setting → Tables → Command → ℕ → List Datum → Bool
stands_after setting tables (Insert table row) other another =
    is_this table row other another || holds setting.keys tables other another
stands_after setting tables (Update table key row) other another =
    is_this table row other another
    || (holds setting.keys tables other another && not (is_named tables table key other another))
stands_after setting tables (Delete table key) other another =
    holds setting.keys tables other another && not (is_named tables table key other another)
stands_after setting tables (Truncate numbers) other another =
    holds setting.keys tables other another && not (list_any (λ table. table == other) numbers)

-- Exactly those rows exist.
abbrev pub RowsStand : Type 0
RowsStand = (setting : Setting) → HasPrimaryKeys setting.keys → (tables : Tables) (command : Command)
    → fault_of setting tables command ≡ None → Stands setting.keys tables
    → (table : ℕ) (row : List Datum)
    → holds setting.keys (applied setting tables command) table row ≡ stands_after setting tables command table row

-- Commands without a fault leave each row where it belongs.
abbrev pub RowsStayKeyed : Type 0
RowsStayKeyed = (setting : Setting) (tables : Tables) (number : ℕ) (commands : List Command)
    → first_fault setting tables number commands ≡ None
    → Stands setting.keys tables → Stands setting.keys (all_applied setting tables commands)

-- And rows that fit their tables.
abbrev pub RowsStayFit : Type 0
RowsStayFit = (setting : Setting) → HasPrimaryKeys setting.keys
    → (tables : Tables) (number : ℕ) (commands : List Command) → first_fault setting tables number commands ≡ None
    → Stands setting.keys tables → AllFit setting tables → AllFit setting (all_applied setting tables commands)

-- And no two rows of a table with one identity.
abbrev pub RowsStayApart : Type 0
RowsStayApart = (setting : Setting) → KeepsApart setting → (tables : Tables) (number : ℕ) (commands : List Command)
    → first_fault setting tables number commands ≡ None
    → Stands setting.keys tables → Apart setting tables → Apart setting (all_applied setting tables commands)

-- All this holds for tables without rows.
pub record BeginsWell (setting : Setting) : Type 0 where
  pub keyed : Stands setting.keys no_rows
  pub fit : AllFit setting no_rows
  pub apart : Apart setting no_rows
