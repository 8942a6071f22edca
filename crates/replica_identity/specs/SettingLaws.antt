-- What the setting of each catalog and plan has for its tables, and which columns distinguish rows: PostgreSQL 15,
-- 5.4.4 Primary Keys, 11.6 Unique Indexes, and SQL Commands, ALTER TABLE (REPLICA IDENTITY).
use Rattle.std.specs.Prelude.{◌≡◌, ℕ, ◌+◌, true, List, length, Some, slice_get}
use Rattle.filter_tree.specs.Datum.{Datum}
use Rattle.filter_tree.specs.Expr.{Expr}
use Rattle.filter_tree.specs.Valid.{row_fault}
use Rattle.filter_tree.specs.declared.table.Table.{Table}
use Rattle.filter_tree.specs.declared.table.UniqueIndex.{UniqueIndex}
use Rattle.pub_catalog.specs.Catalogs.{CatalogOf}
use Rattle.replica_identity.specs.Identities.{identity_columns}
use Rattle.replica_identity.specs.Plans.{PlanOf}
use Rattle.replica_identity.specs.Setting.{identity_in, setting_of}
use Rattle.table_changes.specs.Columns.{values_at, unless_null}
use Rattle.table_changes.specs.Keys.{key_at, HasPrimaryKeys}
use Rattle.table_changes.specs.Setting.{Setting}

-- the table with this number exists
pub record HasTable (setting : Setting) (number : ℕ) (table : Table) : Type 0 where
  pub known : setting.known number ≡ true
  pub fault : (row : List Datum) → setting.fault number row ≡ row_fault table.columns row
  pub primary : (row : List Datum) → key_at setting.keys number 0 row ≡ Some (values_at table.key row)
  pub indexed : (place : ℕ) (index : UniqueIndex) → slice_get table.indexes place ≡ Some index
      → (row : List Datum) → key_at setting.keys number (place + 1) row ≡ unless_null (values_at index.columns row)

abbrev pub SettingHasTables : Type 0
SettingHasTables = (catalog : CatalogOf Expr) (plan : PlanOf) (number : ℕ) (table : Table)
    → slice_get catalog.tables number ≡ Some table
    → HasTable (setting_of catalog plan) number table

-- Each row has a primary key.
abbrev pub RowsHaveKeys : Type 0
RowsHaveKeys = (catalog : CatalogOf Expr) (plan : PlanOf) → HasPrimaryKeys (setting_of catalog plan).keys

-- The values of the identity's columns identify a row that is as wide as its table; under FULL they are the row.
abbrev pub ColumnsIdentify : Type 0
ColumnsIdentify = (table : Table) (row : List Datum) → length row ≡ length table.columns
    → identity_in (Some table) row ≡ values_at (identity_columns table) row
