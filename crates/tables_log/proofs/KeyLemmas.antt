-- The values of rows in unique keys, as keys of maps.
use Rattle.std.proofs.Common.{◌≡◌, ◌≢◌, ℕ, zero, suc, ◌-◌, ℤ, List, [], ◌∷◌, refl, sym, ◌∙◌, ap, arith}
use Rattle.std.specs.Prelude.{Option, Some, slice_get, unwrap_or}
use Rattle.std.specs.Option.{option_map}
use Rattle.std.proofs.lemmas.Option.{slice_get-map}
use Rattle.filter_tree.specs.Datum.{Datum, Known, Missing, Number}
use Rattle.filter_tree.specs.declared.table.Table.{Table}
use Rattle.filter_tree.specs.declared.table.UniqueIndex.{UniqueIndex}
use Rattle.replica_identity.specs.Setting.{index_key, keys_in}
use Rattle.table_changes.specs.Columns.{values_at, unless_null}
use Rattle.table_changes.specs.Keys.{value_in}
use Rattle.tables_log.specs.NumberKeys.{number_key}

pub only_column : (columns : List ℕ) (column : ℕ) (row : List Datum) (number : ℤ) → columns ≡ column ∷ []
    → slice_get row column ≡ Some (Known (Number number)) → values_at columns row ≡ number_key number
only_column columns column row number only at =
    ap (λ list. values_at list row) only ∙ ap (λ found. unwrap_or found Missing ∷ []) at

pub indexed_number : (index : UniqueIndex) (row : List Datum) (number : ℤ)
    → values_at index.columns row ≡ number_key number → Some (number_key number) ≡ index_key index row
indexed_number index row number is = sym (ap unless_null is)

pub primary_at : (table : Table) (number : ℕ) (row : List Datum) → number ≡ 0
    → value_in (slice_get (keys_in (Some table)) number) row ≡ Some (values_at table.key row)
primary_at table number row first = ap (λ n. value_in (slice_get (keys_in (Some table)) n) row) first

pub index_at : (table : Table) (number : ℕ) (row : List Datum) (found : Option UniqueIndex) → number ≢ 0
    → slice_get table.indexes (number - 1) ≡ found
    → value_in (slice_get (keys_in (Some table)) number) row ≡ value_in (option_map index_key found) row
index_at table zero row found later at = absurd (later refl)
index_at table (suc number) row found later at =
    let same : number ≡ suc number - 1 = omega arith in
    ap (λ key. value_in key row) (slice_get-map index_key table.indexes number
    ∙ ap (λ n. option_map index_key (slice_get table.indexes n)) same ∙ ap (option_map index_key) at)
