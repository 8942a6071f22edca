-- Which subscribers get a row of a table, and what a router keeps of it: PostgreSQL 15, "Logical Replication", 31.3 Row
-- Filters and 31.3.3 UPDATE Transformations.
use Rattle.std.specs.Prelude.{◌≡◌, ℕ, ◌<◌, Bool, false, List, All, map, length, slice_index_or, Option, Some, None}
use Rattle.filter_tree.specs.Datum.{Datum}
use Rattle.filter_tree.specs.Expr.{Expr}
use Rattle.filter_memo.specs.Atoms.{IsAtomsOf, Locates}
use Rattle.filter_memo.specs.declared.atoms.Atoms.{Atoms}
use Rattle.replica_identity.specs.Plans.{PlanOf}
use Rattle.replica_identity.specs.Shares.{ShareOf, Nothing, Everything, Where}
use Rattle.replica_identity.specs.Transforms.{takes_row}
use Rattle.table_changes.specs.Records.{PartOf, Key, Full}
use Rattle.row_owners.specs.Owners.{OwnedWhere}
use Rattle.row_owners.specs.declared.owner_set.OwnerSet.{OwnerSet}
use Rattle.row_owners.specs.declared.router.Router.{Router}
use Rattle.row_owners.specs.declared.table_router.KeptOwners.{KeptOwners}
use Rattle.row_owners.specs.declared.table_router.TableRouter.{TableRouter}

-- ---- the filters of a table

-- the filter of a share, if it has one
abbrev pub filter_in : ShareOf → Option Expr
filter_in Nothing = None
filter_in Everything = None
filter_in (Where filter) = Some filter

abbrev pub filter_at : ℕ → List ShareOf → Option Expr
filter_at table shares = filter_in (slice_index_or shares table Nothing)

-- the filters of the subscribers' shares of the table
abbrev pub filters_of : PlanOf → ℕ → List (Option Expr)
filters_of plan table = map (filter_at table) plan

-- ---- rows

-- The set has exactly the subscribers that get the row.
abbrev pub OwnsRow : PlanOf → ℕ → List Datum → OwnerSet → Type 0
OwnsRow plan table row set = OwnedWhere set (λ subscriber. takes_row plan subscriber table row)

-- the subscriber gets the recorded part; nobody gets one if nothing is recorded
abbrev pub takes_part : PlanOf → ℕ → Option PartOf → ℕ → Bool
takes_part plan table None subscriber = false
takes_part plan table (Some (Key part)) subscriber = takes_row plan subscriber table part
takes_part plan table (Some (Full old)) subscriber = takes_row plan subscriber table old

-- ---- routers

-- A set that is kept has exactly the subscribers that get each row whose atoms have its values.
pub record IsKept (plan : PlanOf) (table : ℕ) (atoms : Atoms) (slot : Option KeptOwners) : Type 0 where
  pub owns : (kept : KeptOwners) → slot ≡ Some kept → (row : List Datum) → Locates atoms row kept.said
      → OwnsRow plan table row kept.owners

-- The router is one of the table with this number.
pub record RoutesTable (plan : PlanOf) (table : ℕ) (router : TableRouter) : Type 0 where
  pub atoms : IsAtomsOf (filters_of plan table) router.atoms
  pub kept : All (IsKept plan table router.atoms) router.slots.items

-- how many tables the router has
abbrev pub table_count : Router → ℕ
table_count router = length router.tables.items

-- The router is one of this plan.
pub record IsRouterOf (plan : PlanOf) (router : Router) : Type 0 where
  pub tables : (table : ℕ) (own : TableRouter) → table < length router.tables.items
      → RoutesTable plan table (slice_index_or router.tables.items table own)
