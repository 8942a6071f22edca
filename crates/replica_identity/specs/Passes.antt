-- Which rows pass to a subscriber: those that one of its publications carries, with the whole table or by a filter that
-- is true: PostgreSQL 15, "Logical Replication", 31.1 Publication, 31.2 Subscription and 31.3 Row Filters.
use Rattle.std.specs.Prelude.{ℕ, ◌==◌, Bool, true, ◌&&◌, List, [], Option, Some, None, slice_get, filter_map}
use Rattle.std.specs.List.{list_any}
use Rattle.filter_tree.specs.Datum.{Datum}
use Rattle.filter_tree.specs.Expr.{Expr, meaning}
use Rattle.pub_catalog.specs.Catalogs.{CatalogOf, PublicationOf, EntryOf}
use Rattle.pub_catalog.specs.declared.catalog.Subscription.{Subscription}
use Rattle.replica_identity.specs.Shares.{is_true}

-- the publications of a subscription's list
abbrev pub listed : List (PublicationOf Expr) → Subscription → List (PublicationOf Expr)
listed publications subscription = filter_map (slice_get publications) subscription.publications

abbrev pub listed_by : List (PublicationOf Expr) → Option Subscription → List (PublicationOf Expr)
listed_by publications None = []
listed_by publications (Some subscription) = listed publications subscription

-- the publications that the subscriber with this number subscribes to
abbrev pub taken : CatalogOf Expr → ℕ → List (PublicationOf Expr)
taken catalog subscriber = listed_by catalog.publications (slice_get catalog.subscriptions subscriber)

-- no filter, or a filter that is true
abbrev pub lets : Option Expr → List Datum → Bool
lets None row = true
lets (Some filter) row = is_true (meaning filter row)

-- an entry carries the row of a table
abbrev pub entry_carries : ℕ → List Datum → EntryOf Expr → Bool
entry_carries table row entry = (entry.table == table) && lets entry.filter row

-- some entry of a publication does
abbrev pub carries : ℕ → List Datum → PublicationOf Expr → Bool
carries table row publication = list_any (entry_carries table row) publication.entries

-- some publication that the subscriber subscribes to does
abbrev pub passes : CatalogOf Expr → ℕ → ℕ → List Datum → Bool
passes catalog subscriber table row = list_any (carries table row) (taken catalog subscriber)
