-- When the sharding of a catalog is sound: each row that may be in its table passes to exactly one subscriber, the
-- subscribed publications publish all four operations, and their filters name only columns of replica identities that
-- distinguish rows. PostgreSQL 15, "Logical Replication", 31.1 Publication and 31.3 Row Filters.
use Rattle.std.specs.Prelude.{◌≡◌, ℕ, ◌==◌, Bool, true, false, List, Option, Some, None, IfSome, slice_get}
use Rattle.std.specs.List.{list_any, list_all}
use Rattle.filter_tree.specs.Datum.{Datum}
use Rattle.filter_tree.specs.Expr.{Expr}
use Rattle.filter_tree.specs.Lists.{distinct_columns}
use Rattle.filter_tree.specs.declared.table.Table.{Table}
use Rattle.pub_catalog.specs.Catalogs.{CatalogOf, EntryOf}
use Rattle.pub_catalog.specs.declared.catalog.Operations.{Operations}
use Rattle.pub_catalog.specs.declared.catalog.Subscription.{Subscription}
use Rattle.replica_identity.specs.Identities.{is_covered, tells_rows_apart}
use Rattle.replica_identity.specs.Passes.{passes}
use Rattle.shard_checker.specs.Rows.{IsTyped}

abbrev pub is_listed : ℕ → Subscription → Bool
is_listed publication subscription = list_any (λ number. number == publication) subscription.publications

-- some subscription names the publication with this number
abbrev pub is_taken : List Subscription → ℕ → Bool
is_taken subscriptions publication = list_any (is_listed publication) subscriptions

-- exactly one subscriber gets the row of the table
pub record RowHasOneOwner (catalog : CatalogOf Expr) (table : ℕ) (row : List Datum) : Type 0 where
  pub owner : ℕ
  pub takes_it : passes catalog owner table row ≡ true
  pub no_other : (other : ℕ) → passes catalog other table row ≡ true → other ≡ owner

pub record PublishesChanges (publishes : Operations) : Type 0 where
  pub inserts : publishes.insert ≡ true
  pub updates : publishes.update ≡ true
  pub deletes : publishes.delete ≡ true
  pub truncates : publishes.truncate ≡ true

-- the table exists, and the filter, if any, names only columns of its replica identity
abbrev pub is_covered_by : Option Table → Option Expr → Bool
is_covered_by None filter = false
is_covered_by (Some table) None = true
is_covered_by (Some table) (Some filter) = list_all (is_covered table) (distinct_columns filter)

abbrev pub entry_is_covered : List Table → EntryOf Expr → Bool
entry_is_covered tables entry = is_covered_by (slice_get tables entry.table) entry.filter

-- Tables and publications by their numbers.
pub record IsSound (catalog : CatalogOf Expr) : Type 0 where
  -- each row that may be in a table passes to exactly one subscriber
  pub one_owner : (number : ℕ)
      → IfSome (slice_get catalog.tables number)
      (λ table. (row : List Datum) → IsTyped table.columns row → RowHasOneOwner catalog number row)
  -- each subscribed publication publishes insert, update, delete and truncate
  pub publishes : (number : ℕ) → is_taken catalog.subscriptions number ≡ true
      → IfSome (slice_get catalog.publications number) (λ publication. PublishesChanges publication.publishes)
  -- and carries only tables that exist, by filters that name only columns of their replica identities
  pub covered : (number : ℕ) → is_taken catalog.subscriptions number ≡ true
      → IfSome (slice_get catalog.publications number)
      (λ publication. list_all (entry_is_covered catalog.tables) publication.entries ≡ true)
  -- each table's replica identity distinguishes its rows
  pub identified : (number : ℕ) → IfSome (slice_get catalog.tables number) (λ table. tells_rows_apart table ≡ true)
