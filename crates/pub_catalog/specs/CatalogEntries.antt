-- That publications carry tables that exist, and filter their rows by columns that exist: PostgreSQL 15, "Logical
-- Replication", 31.1 Publication and 31.3 Row Filters.
use Rattle.std.specs.Prelude.{ℕ, ◌<◌, List, All, length, Option, Some, None}
use Rattle.filter_tree.specs.Expr.{Expr}
use Rattle.filter_tree.specs.Lists.{NamesWithin}
use Rattle.filter_tree.specs.declared.table.Table.{Table}
use Rattle.pub_catalog.specs.Catalogs.{EntryOf, PublicationOf, CatalogOf, columns_at}

-- for a filter, if there is one
abbrev pub FilterNamesWithin : ℕ → Option Expr → Type 0
FilterNamesWithin count None = Unit {0}
FilterNamesWithin count (Some filter) = NamesWithin count filter

-- an entry for one of these tables, whose filter names columns of it
pub record IsKnownEntry (tables : List Table) (entry : EntryOf Expr) : Type 0 where
  pub table : entry.table < length tables
  pub columns : FilterNamesWithin (length (columns_at tables entry.table)) entry.filter

abbrev pub CarriesKnown : List Table → PublicationOf Expr → Type 0
CarriesKnown tables publication = All (IsKnownEntry tables) publication.entries

-- Each publication has only such entries.
abbrev pub AllCarryKnown : CatalogOf Expr → Type 0
AllCarryKnown catalog = All (CarriesKnown catalog.tables) catalog.publications
