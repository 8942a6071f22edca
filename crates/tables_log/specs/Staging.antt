-- What a map holds in which changes are staged: what is kept, and what is seen with the changes: PostgreSQL 15, 3.4.
-- Transactions.
use Rattle.std.specs.Prelude.{◌≡◌, List, ◌++◌, Option, None, if◌then◌else◌}
use Rattle.std.specs.Ordering.{int_cmp}
use Rattle.filter_tree.specs.Datum.{Datum}
use Rattle.filter_tree.specs.Order.{row_cmp}
use Rattle.filter_tree.specs.Same.{same_row}
use Rattle.tables_log.specs.Layers.{kept_under, kept_places, shown, filled}
use Rattle.tables_log.specs.NumberKeys.{by_number}
use Rattle.tables_log.specs.declared.staged.Staged.{Staged}

-- what is kept under a key
unfoldable pub kept : {V : Type 0} → Staged V → List Datum → Option V
kept map key = by_number (kept_under int_cmp map.numbers.base map.numbers.made.items map.numbers.undo.items)
    (kept_under row_cmp map.rows.base map.rows.made.items map.rows.undo.items) key

-- all that is kept: in the order of the keys that are one number, and then in that of the others
abbrev pub kept_values : {V : Type 0} → Staged V → List V
kept_values map =
    filled (kept_places int_cmp map.numbers.base map.numbers.made.items map.numbers.undo.items)
    ++ filled (kept_places row_cmp map.rows.base map.rows.made.items map.rows.undo.items)

-- what is seen under it: the change, if it was changed
unfoldable pub seen : {V : Type 0} → Staged V → List Datum → Option V
seen map key = by_number (shown int_cmp map.numbers.base map.numbers.fresh map.numbers.emptied)
    (shown row_cmp map.rows.base map.rows.fresh map.rows.emptied) key

-- ---- what calls do

pub record Keeps {V : Type 0} (old new : Staged V) : Type 0 where
  pub keeps : (key : List Datum) → kept new key ≡ kept old key

-- under the key this is seen, and under the others the same as before
pub record Puts {V : Type 0} (old new : Staged V) (key : List Datum) (value : Option V) : Type 0 where
  pub sees : (other : List Datum) → seen new other ≡ (if same_row key other then value else seen old other)

pub record Empties {V : Type 0} (new : Staged V) : Type 0 where
  pub sees : (key : List Datum) → seen new key ≡ None

-- what was seen is kept
pub record Settles {V : Type 0} (old new : Staged V) : Type 0 where
  pub keeps : (key : List Datum) → kept new key ≡ seen old key
  pub sees : (key : List Datum) → seen new key ≡ seen old key

-- what was kept is seen
pub record Discards {V : Type 0} (old new : Staged V) : Type 0 where
  pub keeps : (key : List Datum) → kept new key ≡ kept old key
  pub sees : (key : List Datum) → seen new key ≡ kept old key
