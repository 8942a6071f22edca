-- The unique keys of tables: the primary key, and each unique index, in which a row with a null has no value, since
-- nulls are not equal: PostgreSQL 15, 5.4.3 Unique Constraints, 5.4.4 Primary Keys and 11.6 Unique Indexes.
use Rattle.std.specs.Prelude.{◌≡◌, ℕ, true, List, is_some, Option, Some, None, slice_get}
use Rattle.filter_tree.specs.Datum.{Datum}

-- the value that a row has in a unique key, if it has one
abbrev pub UniqueKey : Type 0
UniqueKey = List Datum → Option (List Datum)

-- the unique keys of each table by their numbers; 0 is the primary key
abbrev pub Keys : Type 0
Keys = ℕ → List UniqueKey

abbrev pub value_in : Option UniqueKey → List Datum → Option (List Datum)
value_in None row = None
value_in (Some key) row = key row

-- the row's value in the table's unique key with this number; none in a key that the table does not have
abbrev pub key_at : Keys → ℕ → ℕ → List Datum → Option (List Datum)
key_at keys table number row = value_in (slice_get (keys table) number) row

-- Each row has a value in its table's primary key.
pub record HasPrimaryKeys (keys : Keys) : Type 0 where
  pub has_key : (table : ℕ) (row : List Datum) → is_some (key_at keys table 0 row) ≡ true
