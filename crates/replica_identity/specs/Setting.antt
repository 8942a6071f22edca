-- What a catalog and its plan define for changes of its tables: PostgreSQL 15, "Logical Replication", 31.1 Publication
-- and 31.3 Row Filters, and 5.4.4 Primary Keys and 11.6 Unique Indexes.
use Rattle.std.specs.Prelude.{not, List, [], ◌∷◌, map, length, nat_lt, slice_get, Option, Some, None}
use Rattle.filter_tree.specs.Datum.{Datum}
use Rattle.filter_tree.specs.Expr.{Expr}
use Rattle.filter_tree.specs.Valid.{row_fault}
use Rattle.filter_tree.specs.declared.table.Identity.{Identity}
use Rattle.filter_tree.specs.declared.table.Identity.TheVariants.{Default, Index, Full, Nothing}
use Rattle.filter_tree.specs.declared.table.Table.{Table}
use Rattle.filter_tree.specs.declared.table.UniqueIndex.{UniqueIndex}
use Rattle.filter_tree.specs.declared.validity.RowFault.{RowFault}
use Rattle.table_changes.specs.Columns.{values_at, unless_null, blanked_from}
use Rattle.table_changes.specs.Keys.{UniqueKey}
use Rattle.table_changes.specs.Setting.{Setting, Recorded, Columns, Whole, Nowhere}
use Rattle.pub_catalog.specs.Catalogs.{CatalogOf}
use Rattle.replica_identity.specs.Identities.{identity_columns}
use Rattle.replica_identity.specs.Plans.{PlanOf, share_at}
use Rattle.replica_identity.specs.Shares.{takes, is_nothing}

abbrev pub recorded_as : Identity → Recorded
recorded_as Default = Columns
recorded_as (Index number) = Columns
recorded_as Full = Whole
recorded_as Nothing = Nowhere

-- ---- for a table that exists; otherwise a row has no fault, its key has no column, and it is its own identity

abbrev pub table_fault : Option Table → List Datum → Option RowFault
table_fault None row = None
table_fault (Some table) row = row_fault table.columns row

abbrev pub primary_key : Table → UniqueKey
primary_key table row = Some (values_at table.key row)

-- nulls are not equal, so a row with a null has no value in the index
abbrev pub index_key : UniqueIndex → UniqueKey
index_key index row = unless_null (values_at index.columns row)

abbrev pub no_column : UniqueKey
no_column row = Some []

-- the primary key, and then the unique indexes in their order
abbrev pub keys_in : Option Table → List UniqueKey
keys_in None = no_column ∷ []
keys_in (Some table) = primary_key table ∷ map index_key table.indexes

abbrev pub recorded_in : Option Table → Recorded
recorded_in None = Whole
recorded_in (Some table) = recorded_as table.identity

-- under FULL the row itself identifies it
abbrev pub row_identity : Recorded → Table → List Datum → List Datum
row_identity Whole table row = row
row_identity _ table row = values_at (identity_columns table) row

abbrev pub identity_in : Option Table → List Datum → List Datum
identity_in None row = row
identity_in (Some table) row = row_identity (recorded_as table.identity) table row

abbrev pub blanked_by : Recorded → Table → List Datum → List Datum
blanked_by Whole table row = row
blanked_by _ table row = blanked_from (identity_columns table) 0 row

abbrev pub blanked_in : Option Table → List Datum → List Datum
blanked_in None row = row
blanked_in (Some table) row = blanked_by (recorded_as table.identity) table row

-- what a catalog and its plan define
abbrev pub setting_of : CatalogOf Expr → PlanOf → Setting
setting_of catalog plan = record {
  known = λ table. nat_lt table (length catalog.tables);
  fault = λ table. table_fault (slice_get catalog.tables table);
  keys = λ table. keys_in (slice_get catalog.tables table);
  recorded = λ table. recorded_in (slice_get catalog.tables table);
  identity = λ table. identity_in (slice_get catalog.tables table);
  blanked = λ table. blanked_in (slice_get catalog.tables table);
  passes = λ subscriber table row. takes (share_at plan subscriber table) row;
  carries = λ subscriber table. not (is_nothing (share_at plan subscriber table));
}
