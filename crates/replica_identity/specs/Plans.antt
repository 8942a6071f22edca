-- What each subscriber gets of each table of a catalog: PostgreSQL 15, "Logical Replication", 31.2 Subscription and
-- 31.3.6 Combining Multiple Row Filters.
use Rattle.std.specs.Prelude.{◌≡◌, ℕ, ◌+◌, ◌<◌, ◌==◌, List, [], ◌∷◌, map, flat_map, filter, slice_get, slice_index_or, length, Option, Some, None}
use Rattle.filter_tree.specs.Datum.{Datum}
use Rattle.filter_tree.specs.Expr.{Expr}
use Rattle.filter_tree.specs.declared.table.Table.{Table}
use Rattle.pub_catalog.specs.Catalogs.{CatalogOf, PublicationOf, EntryOf}
use Rattle.pub_catalog.specs.declared.catalog.Subscription.{Subscription}
use Rattle.replica_identity.specs.Passes.{passes}
use Rattle.replica_identity.specs.Shares.{ShareOf, Nothing, share_by, takes, share_view}
use Rattle.replica_identity.specs.declared.shares.Plan.{Plan}

-- what the entries for a table carry of it
abbrev pub filters_for : ℕ → List (EntryOf Expr) → List (Option Expr)
filters_for table entries =
    map (λ (entry : EntryOf Expr). entry.filter) (filter (λ entry. entry.table == table) entries)

abbrev pub share_from : List (EntryOf Expr) → ℕ → ShareOf
share_from entries table = share_by (filters_for table entries)

-- the shares of the tables, the first of which has this number
abbrev pub shares_from : List (EntryOf Expr) → ℕ → List Table → List ShareOf
shares_from entries number [] = []
shares_from entries number (table ∷ tables) = share_from entries number ∷ shares_from entries (number + 1) tables

-- the entries of the publication with this number
abbrev pub entries_in : Option (PublicationOf Expr) → List (EntryOf Expr)
entries_in None = []
entries_in (Some publication) = publication.entries

abbrev pub entries_at : List (PublicationOf Expr) → ℕ → List (EntryOf Expr)
entries_at publications number = entries_in (slice_get publications number)

-- the entries of publications, in the order of a list of their numbers
abbrev pub entries_listed : List (PublicationOf Expr) → List ℕ → List (EntryOf Expr)
entries_listed publications numbers = flat_map (entries_at publications) numbers

-- a subscriber's share of each table
abbrev pub shares_for : CatalogOf Expr → Subscription → List ShareOf
shares_for catalog subscription =
    shares_from (entries_listed catalog.publications subscription.publications) 0 catalog.tables

-- the share of each table, for each subscriber
abbrev pub PlanOf : Type 0
PlanOf = List (List ShareOf)

-- a plan of the program
abbrev pub plan_view : Plan → PlanOf
plan_view plan = map (λ shares. map share_view shares.items) plan.shares.items

abbrev pub plan_of : CatalogOf Expr → PlanOf
plan_of catalog = map (shares_for catalog) catalog.subscriptions

-- a subscriber's share of a table; nothing for others
abbrev pub share_at : PlanOf → ℕ → ℕ → ShareOf
share_at plan subscriber table = slice_index_or (slice_index_or plan subscriber []) table Nothing

-- For each table of the catalog, each subscriber's share takes the rows that pass to it.
pub record TakesWhatPasses (catalog : CatalogOf Expr) (plan : PlanOf) : Type 0 where
  pub same : (subscriber table : ℕ) → table < length catalog.tables → (row : List Datum)
      → takes (share_at plan subscriber table) row ≡ passes catalog subscriber table row
