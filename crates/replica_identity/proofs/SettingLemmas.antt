-- What the setting of a catalog has for its tables, and which columns identify a row.
use Rattle.std.proofs.Common.{◌≡◌, ℕ, zero, suc, ◌+◌, true, List, [], ◌∷◌, ◌++◌, length, map, refl, sym, ◌∙◌, ap, arith}
use Rattle.std.specs.Prelude.{Option, Some, None, is_some, slice_get, option_map}
use Rattle.std.proofs.lemmas.Option.{slice_get-map, slice_get_within}
use Rattle.std.proofs.lemmas.Bool.{lt-ltb}
use Rattle.filter_tree.specs.Datum.{Datum, value_at}
use Rattle.filter_tree.specs.Expr.{Expr}
use Rattle.filter_tree.specs.declared.table.Identity.{Identity}
use Rattle.filter_tree.specs.declared.table.Identity.TheVariants.{Default, Index, Full, Nothing}
use Rattle.filter_tree.specs.declared.table.Table.{Table}
use Rattle.filter_tree.specs.declared.table.UniqueIndex.{UniqueIndex}
use Rattle.pub_catalog.specs.Catalogs.{CatalogOf}
use Rattle.replica_identity.specs.Identities.{numbers_to, columns_by, identity_columns}
use Rattle.replica_identity.specs.Plans.{PlanOf}
use Rattle.replica_identity.specs.Setting.{recorded_as, table_fault, index_key, keys_in, row_identity, identity_in, setting_of}
use Rattle.replica_identity.specs.SettingLaws.{HasTable}
use Rattle.table_changes.specs.Columns.{values_at, unless_null}
use Rattle.table_changes.specs.Keys.{value_in, HasPrimaryKeys}

-- ---- keys

primary_in : (found : Option Table) (row : List Datum) → is_some (value_in (slice_get (keys_in found) 0) row) ≡ true
primary_in None row = refl
primary_in (Some table) row = refl

pub has_primary_keys : (catalog : CatalogOf Expr) (plan : PlanOf) → HasPrimaryKeys (setting_of catalog plan).keys
has_primary_keys catalog plan = record { has_key = λ table row. primary_in (slice_get catalog.tables table) row }

next_is : (place : ℕ) → place + 1 ≡ suc place
next_is place = omega arith

pub index_in : (table : Table) (place : ℕ) (index : UniqueIndex) → slice_get table.indexes place ≡ Some index
    → (row : List Datum)
    → value_in (slice_get (keys_in (Some table)) (place + 1)) row ≡ unless_null (values_at index.columns row)
index_in table place index there row =
    ap (λ k. value_in (slice_get (keys_in (Some table)) k) row) (next_is place)
    ∙ ap (λ found. value_in found row) (slice_get-map index_key table.indexes place ∙ ap (option_map index_key) there)

pub has_table : (catalog : CatalogOf Expr) (plan : PlanOf) (number : ℕ) (table : Table)
    → slice_get catalog.tables number ≡ Some table → HasTable (setting_of catalog plan) number table
has_table catalog plan number table there = record {
  known = lt-ltb number (length catalog.tables) (slice_get_within catalog.tables number table there);
  fault = λ row. ap (λ found. table_fault found row) there;
  primary = λ row. ap (λ found. value_in (slice_get (keys_in found) 0) row) there;
  indexed = λ place index at row. ap (λ found. value_in (slice_get (keys_in found) (place + 1)) row) there
      ∙ index_in table place index at row;
}

-- ---- identities

map_append : {A B : Type 0} (f : A → B) (xs ys : List A) → map f (xs ++ ys) ≡ map f xs ++ map f ys
map_append f [] ys = refl
map_append f (x ∷ xs) ys = ap (λ rest. f x ∷ rest) (map_append f xs ys)

-- the numbers after 0 are the successors of the first `n` numbers
numbers_after : (n : ℕ) → numbers_to (suc n) ≡ 0 ∷ map suc (numbers_to n)
numbers_after zero = refl
numbers_after (suc n) =
    ap (λ numbers. numbers ++ suc n ∷ []) (numbers_after n)
    ∙ ap (λ numbers. 0 ∷ numbers) (sym (map_append suc (numbers_to n) (n ∷ [])))

values_after : (cell : Datum) (row : List Datum) (numbers : List ℕ)
    → values_at (map suc numbers) (cell ∷ row) ≡ values_at numbers row
values_after cell row [] = refl
values_after cell row (number ∷ numbers) = ap (λ values. value_at row number ∷ values) (values_after cell row numbers)

all_values : (row : List Datum) → values_at (numbers_to (length row)) row ≡ row
all_values [] = refl
all_values (cell ∷ row) =
    ap (λ numbers. values_at numbers (cell ∷ row)) (numbers_after (length row))
    ∙ ap (λ values. cell ∷ values) (values_after cell row (numbers_to (length row)) ∙ all_values row)

by_columns : (identity : Identity) (table : Table) (row : List Datum) → table.identity ≡ identity
    → length row ≡ length table.columns
    → row_identity (recorded_as identity) table row ≡ values_at (identity_columns table) row
by_columns Default table row is wide = refl
by_columns (Index number) table row is wide = refl
by_columns Full table row is wide =
    sym (all_values row) ∙ ap (λ n. values_at (numbers_to n) row) wide
    ∙ ap (λ identity. values_at (columns_by identity table) row) (sym is)
by_columns Nothing table row is wide = refl

pub columns_identify : (table : Table) (row : List Datum) → length row ≡ length table.columns
    → identity_in (Some table) row ≡ values_at (identity_columns table) row
columns_identify table row wide = by_columns table.identity table row refl wide
