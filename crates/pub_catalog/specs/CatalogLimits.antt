-- How much a catalog can have, that the columns of its keys and unique indexes exist, and what names are: PostgreSQL
-- 15, "SQL Syntax", 4.1.1 Identifiers and Key Words.
use Rattle.std.specs.Prelude.{◌≡◌, ◌<◌, ◌≤◌, true, List, All, length, slice_get}
use Rattle.filter_tree.specs.declared.table.Column.{Column}
use Rattle.filter_tree.specs.declared.table.Identity.{Identity}
use Rattle.filter_tree.specs.declared.table.Identity.TheVariants.{Index}
use Rattle.filter_tree.specs.declared.table.Table.{Table}
use Rattle.filter_tree.specs.declared.table.UniqueIndex.{UniqueIndex}
pub use Rattle.sql_tokens.specs.PlainNames.{IsPlainName}
use Rattle.pub_catalog.specs.Catalogs.{CatalogOf}
use Rattle.pub_catalog.specs.IndexIdentities.{identifies}

-- its columns are among these
abbrev pub IsIndexOf : List Column → UniqueIndex → Type 0
IsIndexOf columns index = All (λ number. number < length columns) index.columns

-- an identity by an index names one of these whose columns are NOT NULL
abbrev pub IsIdentity : List Column → List UniqueIndex → Identity → Type 0
IsIdentity columns indexes (Index number) = identifies columns (slice_get indexes number) ≡ true
IsIdentity columns indexes _ = Unit {0}

abbrev pub HasPlainName : Column → Type 0
HasPlainName column = IsPlainName column.name

-- the table's schema, the table and its columns have names of 1 to 63 bytes of UTF-8, none of which is zero
pub record IsNamed (table : Table) : Type 0 where
  pub schema : IsPlainName table.schema
  pub name : IsPlainName table.name
  pub columns : All HasPlainName table.columns

-- at most 100 columns, those of the key among them, and 8 unique indexes, and names as above
pub record IsLimitedTable (table : Table) : Type 0 where
  pub columns : length table.columns ≤ 100
  pub keyed : All (λ number. number < length table.columns) table.key
  pub indexes : length table.indexes ≤ 8
  pub indexed : All (IsIndexOf table.columns) table.indexes
  pub identified : IsIdentity table.columns table.indexes table.identity
  pub named : IsNamed table

-- at most 64 tables, 64 publications and 32 subscriptions
pub record IsLimited {S : Type 0} (catalog : CatalogOf S) : Type 0 where
  pub tables : length catalog.tables ≤ 64
  pub each_table : All IsLimitedTable catalog.tables
  pub publications : length catalog.publications ≤ 64
  pub subscriptions : length catalog.subscriptions ≤ 32
