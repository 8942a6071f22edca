-- What a list of all that is found by keys says, and which rows a table has in their order: PostgreSQL 15, 5.4.4
-- Primary Keys, and 7.5 Sorting Rows.
use Rattle.std.specs.Prelude.{◌≡◌, List, map, Contains, Option, Some}
use Rattle.std.specs.List.{IsDistinct}
use Rattle.std.specs.List.Sorted.{IsStrictlySortedBy}
use Rattle.filter_tree.specs.Datum.{Datum}
use Rattle.filter_tree.specs.Order.{row_cmp}
use Rattle.filter_tree.specs.Same.{same_row}

abbrev pub there : {V : Type 0} → V → Option V
there value = Some value

-- All that is found by keys, each once for each of its keys.
pub record ListsFound {V : Type 0} (found : List Datum → Option V) (listed : List V) : Type 0 where
  pub keys : List (List Datum)
  pub once : IsDistinct same_row keys
  pub each : map found keys ≡ map there listed
  pub all : (key : List Datum) (value : V) → found key ≡ Some value → Contains keys key

-- The rows of a table in their order: those that are found by the primary key, and no others.
pub record AreRowsOf (found : List Datum → Option (List Datum)) (rows : List (List Datum)) : Type 0 where
  pub all : (key row : List Datum) → found key ≡ Some row → Contains rows row
  pub only : (row : List Datum) → Contains rows row → (key : List Datum) × (found key ≡ Some row)
  -- each comes before the next one, so that none comes twice
  pub ascending : IsStrictlySortedBy row_cmp rows
