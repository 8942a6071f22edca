-- Where rows are in the maps of tables, of which each table has one for each of its unique keys: PostgreSQL 15, 5.4.4
-- Primary Keys and 11.6 Unique Indexes.
use Rattle.std.specs.Prelude.{◌≡◌, ℕ, ◌+◌, ◌==◌, Bool, true, ◌&&◌, List, [], ◌∷◌, map, length, slice_get, is_none, Option, Some, None, if◌then◌else◌}
use Rattle.filter_tree.specs.Datum.{Datum}
use Rattle.filter_tree.specs.Order.{row_cmp}
use Rattle.std.specs.List.Sorted.{IsPermutation, IsSorted}
use Rattle.table_changes.specs.Keys.{UniqueKey}
use Rattle.table_changes.specs.Tables.{Tables, SameTables, is_row, found_at}
use Rattle.tables_log.specs.Layers.{flat}
use Rattle.tables_log.specs.Staging.{kept, seen, kept_values}
use Rattle.tables_log.specs.declared.staged.Staged.{Staged}
use Rattle.tables_log.specs.declared.table_rows.TableRows.{TableRows}

-- of one table: a unique key's number, and a value of that key
abbrev pub Places : Type 0
Places = ℕ → List Datum → Option (List Datum)

-- ---- in maps

-- what a map shows, if there is one
abbrev pub map_shown : (Staged (List Datum) → List Datum → Option (List Datum)) → Option (Staged (List Datum))
    → List Datum → Option (List Datum)
map_shown show None value = None
map_shown show (Some map) value = show map value

abbrev pub kept_at : List (Staged (List Datum)) → Places
kept_at maps number value = map_shown kept (slice_get maps number) value

abbrev pub seen_at : List (Staged (List Datum)) → Places
seen_at maps number value = map_shown seen (slice_get maps number) value

-- ---- in the maps of tables

abbrev pub maps_of : Option TableRows → List (Staged (List Datum))
maps_of None = []
maps_of (Some rows) = rows.maps.items

abbrev pub kept_in : List TableRows → Tables
kept_in tables table = kept_at (maps_of (slice_get tables table))

abbrev pub seen_in : List TableRows → Tables
seen_in tables table = seen_at (maps_of (slice_get tables table))

-- the rows that are kept, in the order of the keys of the first map, which is that of the primary key
abbrev pub first_values : List (Staged (List Datum)) → List (List Datum)
first_values [] = []
first_values (map ∷ maps) = kept_values map

abbrev pub listed_in : List TableRows → ℕ → List (List Datum)
listed_in tables table = first_values (maps_of (slice_get tables table))

-- rows in their order, each exactly once
pub record IsInOrder (listed rows : List (List Datum)) : Type 0 where
  pub same : IsPermutation listed rows
  pub ascending : IsSorted row_cmp rows

-- how many maps each table has
abbrev pub widths : List TableRows → List ℕ
widths tables = map (λ rows. length rows.maps.items) tables

-- ---- rows that come and go in one table

-- the value in the key with this number, if there is one
abbrev pub value_of : List (Option (List Datum)) → ℕ → Option (List Datum)
value_of values number = flat (slice_get values number)

-- this row, or none, in each place that has one of these values
abbrev pub put_at : Places → List (Option (List Datum)) → Option (List Datum) → Places
put_at places values row number value = if is_row (value_of values number) value then row else places number value

-- nothing is found by these values, which are those of the keys from this number on
abbrev pub are_free : Places → ℕ → List (Option (List Datum)) → Bool
are_free places number [] = true
are_free places number (value ∷ values) =
    is_none (found_at (places number) value) && are_free places (number + 1) values

-- a row's value in each of these keys
abbrev pub values_in : List UniqueKey → List Datum → List (Option (List Datum))
values_in keys row = map (λ key. key row) keys

-- ---- what calls do to the rows of one table

pub record KeepsRows (old new : TableRows) : Type 0 where
  pub keeps : (number : ℕ) (value : List Datum)
      → kept_at new.maps.items number value ≡ kept_at old.maps.items number value
  pub width : length new.maps.items ≡ length old.maps.items

-- at the place of this value, if there is one, of the key with this number there is this row, or none
pub record PutsOne (old new : TableRows) (number : ℕ) (value : Option (List Datum)) (row : Option (List Datum)) : Type
    0 where
  pub sees : (other : ℕ) (found : List Datum) → seen_at new.maps.items other found
      ≡ (if (other == number) && is_row value found then row else seen_at old.maps.items other found)

-- at the places of these values there is this row, or none
pub record PutsRow (old new : TableRows) (values : List (Option (List Datum))) (row : Option (List Datum)) : Type 0
  where
    pub sees : (number : ℕ) (value : List Datum)
        → seen_at new.maps.items number value ≡ put_at (seen_at old.maps.items) values row number value

pub record EmptiesRows (new : TableRows) : Type 0 where
  pub sees : (number : ℕ) (value : List Datum) → seen_at new.maps.items number value ≡ None

-- what was seen is kept
pub record SettlesRows (old new : TableRows) : Type 0 where
  pub keeps : (number : ℕ) (value : List Datum)
      → kept_at new.maps.items number value ≡ seen_at old.maps.items number value
  pub sees : (number : ℕ) (value : List Datum)
      → seen_at new.maps.items number value ≡ seen_at old.maps.items number value
  pub width : length new.maps.items ≡ length old.maps.items

-- what was kept is seen
pub record DiscardsRows (old new : TableRows) : Type 0 where
  pub keeps : (number : ℕ) (value : List Datum)
      → kept_at new.maps.items number value ≡ kept_at old.maps.items number value
  pub sees : (number : ℕ) (value : List Datum)
      → seen_at new.maps.items number value ≡ kept_at old.maps.items number value
  pub width : length new.maps.items ≡ length old.maps.items

-- ---- and to those of all tables

pub record KeepsTables (old new : List TableRows) : Type 0 where
  pub keeps : SameTables (kept_in new) (kept_in old)
  pub width : widths new ≡ widths old

-- of the table with this number nothing is seen, and of the others what was seen before
pub record EmptiesTable (old new : List TableRows) (number : ℕ) : Type 0 where
  pub sees : (other key : ℕ) (value : List Datum)
      → seen_in new other key value ≡ (if number == other then None else seen_in old other key value)

-- what was seen is kept
pub record SettlesTables (old new : List TableRows) : Type 0 where
  pub keeps : SameTables (kept_in new) (seen_in old)
  pub sees : SameTables (seen_in new) (seen_in old)
  pub width : widths new ≡ widths old

pub record DiscardsTables (old new : List TableRows) : Type 0 where
  pub keeps : SameTables (kept_in new) (kept_in old)
  pub sees : SameTables (seen_in new) (kept_in old)
  pub width : widths new ≡ widths old
