-- Tables, in which a row is found by each of its unique keys: PostgreSQL 15, Chapter 6 Data Manipulation, 5.4.3
-- Unique Constraints, 5.4.4 Primary Keys and 11.6 Unique Indexes.
use Rattle.std.specs.Prelude.{◌≡◌, ℕ, ◌+◌, ◌==◌, Bool, true, false, ◌&&◌, List, [], ◌∷◌, is_none, Option, Some, None, if◌then◌else◌}
use Rattle.std.specs.List.{list_any}
use Rattle.filter_tree.specs.Datum.{Datum}
use Rattle.filter_tree.specs.Same.{same_row}
use Rattle.table_changes.specs.Keys.{UniqueKey, Keys, key_at}

-- for each table, each of its unique keys by its number and each value of that key: the row that is there, if any
abbrev pub Tables : Type 0
Tables = ℕ → ℕ → List Datum → Option (List Datum)

abbrev pub no_rows : Tables
no_rows table number value = None

-- the row, or the value, that was found is this one
abbrev pub is_row : Option (List Datum) → List Datum → Bool
is_row None row = false
is_row (Some found) row = same_row found row

-- ---- rows come and go

-- this is a place of the row: its table, one of the unique keys, and the row's value in it
abbrev pub is_own : Keys → ℕ → List Datum → ℕ → ℕ → List Datum → Bool
is_own keys table row other number value = (table == other) && is_row (key_at keys table number row) value

-- the tables with this row, or none, in each place of the row
abbrev pub put : Keys → Tables → ℕ → List Datum → Option (List Datum) → Tables
put keys tables table row found other number value = if is_own keys table row other number value then
    found else tables other number value

abbrev pub put_in : Keys → Tables → ℕ → List Datum → Tables
put_in keys tables table row = put keys tables table row (Some row)

abbrev pub take_out : Keys → Tables → ℕ → List Datum → Tables
take_out keys tables table row = put keys tables table row None

-- without the row that was found, if there was one
abbrev pub without : Keys → Tables → ℕ → Option (List Datum) → Tables
without keys tables table None = tables
without keys tables table (Some row) = take_out keys tables table row

-- without any row of the tables with these numbers
abbrev pub emptied : Tables → List ℕ → Tables
emptied tables numbers other number value = if list_any (λ table. table == other) numbers then
    None else tables other number value

-- ---- which rows are in a table

-- what is in the place of a value, if there is a value
abbrev pub found_at : (List Datum → Option (List Datum)) → Option (List Datum) → Option (List Datum)
found_at place None = None
found_at place (Some value) = place value

-- no row has the row's value in any of these unique keys, the first of which has this number
abbrev pub is_free_from : (ℕ → List Datum → Option (List Datum)) → ℕ → List UniqueKey → List Datum → Bool
is_free_from places number [] row = true
is_free_from places number (key ∷ keys) row =
    is_none (found_at (places number) (key row)) && is_free_from places (number + 1) keys row

-- no row of the table has the row's value in any of its unique keys
abbrev pub is_free : Keys → Tables → ℕ → List Datum → Bool
is_free keys tables table row = is_free_from (tables table) 0 (keys table) row

-- the row is in the table: it is found by its primary key
abbrev pub holds : Keys → Tables → ℕ → List Datum → Bool
holds keys tables table row = is_row (found_at (tables table 0) (key_at keys table 0 row)) row

-- ---- what holds for tables

-- Rows are found where they belong.
pub record Stands (keys : Keys) (tables : Tables) : Type 0 where
  -- a row that is found by a value in a unique key has that value
  pub keyed : (table number : ℕ) (value row : List Datum) → tables table number value ≡ Some row
      → key_at keys table number row ≡ Some value
  -- a row that is found by one of its unique keys is found by each
  pub whole : (table number other : ℕ) (value another row : List Datum) → tables table number value ≡ Some row
      → key_at keys table other row ≡ Some another
      → tables table other another ≡ Some row

-- The same row is in each place.
abbrev pub SameTables : Tables → Tables → Type 0
SameTables one other = (table number : ℕ) (value : List Datum) → one table number value ≡ other table number value
