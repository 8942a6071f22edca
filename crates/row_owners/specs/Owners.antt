-- Which subscribers get a change, and which get some change of a commit: PostgreSQL 15, "Logical Replication", 31.3.3
-- UPDATE Transformations.
use Rattle.std.specs.Prelude.{◌≡◌, ℕ, ◌<◌, ◌==◌, Bool, false, List, Some, is_some, slice_get}
use Rattle.std.specs.Arc.{arc_value}
use Rattle.std.specs.Int.{bit_at}
use Rattle.std.specs.List.{list_any}
use Rattle.std.specs.Option.{ForSome}
use Rattle.replica_identity.specs.Plans.{PlanOf}
use Rattle.replica_identity.specs.Transforms.{out_for}
use Rattle.table_changes.specs.Records.{ChangeOf}
use Rattle.row_owners.specs.declared.owner_set.OwnerSet.{OwnerSet}
use Rattle.row_owners.specs.declared.routes.Routes.{Routes}

-- the set has the subscriber with this number
abbrev pub owned : OwnerSet → ℕ → Bool
owned set subscriber = bit_at set.bits subscriber == 1

-- The set has those of the 32 subscribers that pass the test.
abbrev pub OwnedWhere : OwnerSet → (ℕ → Bool) → Type 0
OwnedWhere set test = (subscriber : ℕ) → subscriber < 32 → owned set subscriber ≡ test subscriber

-- the subscriber gets something from the change
abbrev pub is_for : PlanOf → ℕ → ChangeOf → Bool
is_for plan subscriber change = is_some (out_for plan subscriber change)

-- it gets something from one of the changes
abbrev pub concerns : PlanOf → List ChangeOf → ℕ → Bool
concerns plan changes subscriber = list_any (is_for plan subscriber) changes

-- The set has exactly the subscribers that get something from the change.
abbrev pub OwnsChange : PlanOf → ChangeOf → OwnerSet → Type 0
OwnsChange plan change set = OwnedWhere set (λ subscriber. is_for plan subscriber change)

-- For each place, the set has exactly the subscribers that get something from the change at that place. Changes without
-- a set may follow.
pub record AreOwners (plan : PlanOf) (changes : List ChangeOf) (sets : List OwnerSet) : Type 0 where
  pub each : (place : ℕ) (change : ChangeOf) (set : OwnerSet) → slice_get changes place ≡ Some change
      → slice_get sets place ≡ Some set → OwnsChange plan change set

-- The sets tell that the subscriber gets nothing from the change at this place.
abbrev pub IsSpared : List OwnerSet → ℕ → ℕ → Type 0
IsSpared sets subscriber place =
    (plan : PlanOf) (changes : List ChangeOf) (change : ChangeOf) → AreOwners plan changes sets
    → slice_get changes place ≡ Some change → is_for plan subscriber change ≡ false

-- They are the routes of these changes.
pub record AreRoutes (plan : PlanOf) (changes : List ChangeOf) (routes : Routes) : Type 0 where
  pub all : OwnedWhere routes.all (concerns plan changes)
  pub each : ForSome routes.each (λ sets. AreOwners plan changes (arc_value sets))
