-- What a catalog has: tables, publications that carry them, whole or the rows of a filter, and subscriptions to
-- publications: PostgreSQL 15, "Logical Replication", 31.1 Publication, 31.2 Subscription and 31.3 Row Filters.
use Rattle.std.specs.Prelude.{ℕ, zero, suc, true, List, [], ◌∷◌, ◌++◌, map, Option}
use Rattle.std.specs.Option.{option_map}
use Rattle.filter_tree.specs.declared.table.Column.{Column}
use Rattle.filter_tree.specs.declared.table.Identity.{Identity}
use Rattle.filter_tree.specs.declared.table.Table.{Table}
use Rattle.filter_tree.specs.declared.table.UniqueIndex.{UniqueIndex}
use Rattle.pub_catalog.specs.declared.catalog.Operations.{Operations}
use Rattle.pub_catalog.specs.declared.catalog.Subscription.{Subscription}

-- a publication's entry: the number of a table, and the filter of its rows; without a filter it carries the whole table
pub record EntryOf (S : Type 0) : Type 0 where
  pub table : ℕ
  pub filter : Option S

pub record PublicationOf (S : Type 0) : Type 0 where
  pub name : List ℕ
  pub publishes : Operations
  pub entries : List (EntryOf S)

-- tables, publications and subscriptions, each in the order in which they are created
pub record CatalogOf (S : Type 0) : Type 0 where
  pub tables : List Table
  pub publications : List (PublicationOf S)
  pub subscriptions : List Subscription

-- what a publication publishes unless it says otherwise
abbrev pub every_operation : Operations
every_operation = record { insert = true; update = true; delete = true; truncate = true }

-- the schema of the table with this number
abbrev pub schema_at : List Table → ℕ → List ℕ
schema_at [] number = []
schema_at (table ∷ tables) zero = table.schema
schema_at (table ∷ tables) (suc number) = schema_at tables number

-- its columns
abbrev pub columns_at : List Table → ℕ → List Column
columns_at [] number = []
columns_at (table ∷ tables) zero = table.columns
columns_at (table ∷ tables) (suc number) = columns_at tables number

-- its unique indexes
abbrev pub indexes_at : List Table → ℕ → List UniqueIndex
indexes_at [] number = []
indexes_at (table ∷ tables) zero = table.indexes
indexes_at (table ∷ tables) (suc number) = indexes_at tables number

-- the tables, with this identity for the table of this number
abbrev pub identified : List Table → ℕ → Identity → List Table
identified [] number identity = []
identified (table ∷ tables) zero identity = record table { identity = identity } ∷ tables
identified (table ∷ tables) (suc number) identity = table ∷ identified tables number identity

-- the tables, with one more unique index for the table of this number
abbrev pub indexed : List Table → ℕ → UniqueIndex → List Table
indexed [] number index = []
indexed (table ∷ tables) zero index = record table { indexes = table.indexes ++ index ∷ [] } ∷ tables
indexed (table ∷ tables) (suc number) index = table ∷ indexed tables number index

-- ---- the same catalog with other filters

abbrev pub entry_map : {S T : Type 0} → (S → T) → EntryOf S → EntryOf T
entry_map f entry = record { table = entry.table; filter = option_map f entry.filter }

abbrev pub publication_map : {S T : Type 0} → (S → T) → PublicationOf S → PublicationOf T
publication_map f publication =
    record {
      name = publication.name;
      publishes = publication.publishes;
      entries =
          map (entry_map f) publication.entries;
    }

abbrev pub catalog_map : {S T : Type 0} → (S → T) → CatalogOf S → CatalogOf T
catalog_map f catalog =
    record {
      tables = catalog.tables;
      publications = map (publication_map f) catalog.publications;
      subscriptions =
          catalog.subscriptions;
    }
