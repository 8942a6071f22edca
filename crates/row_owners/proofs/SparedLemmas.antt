-- Changes that are only for others: those that a subscriber is spared by their sets, and commits that do not concern
-- it.
use Rattle.std.proofs.Common.{◌≡◌, ℕ, suc, ◌+◌, ◌-◌, ◌<◌, ◌≤◌, Bool, true, false, cond, Some, List, [], ◌∷◌, length, get_or, count_by, refl, sym, ap, subst, ◌∙◌, inl, inr, arith}
use Rattle.std.specs.Prelude.{Option, IfSome, IsTrue, slice_get}
use Rattle.std.specs.List.{list_any}
use Rattle.std.proofs.lemmas.Bool.{cases_eq}
use Rattle.std.proofs.lemmas.List.Sums.{get_or-le-sum_by}
use Rattle.std.proofs.lemmas.Option.{slice_get-get_or, slice_get_cases, slice_get_past}
use Rattle.replica_identity.specs.Plans.{PlanOf}
use Rattle.table_changes.specs.Records.{ChangeOf}
use Rattle.row_owners.specs.Owners.{AreOwners, IsSpared, concerns, is_for, owned}
use Rattle.row_owners.specs.declared.owner_set.OwnerSet.{OwnerSet}

-- ---- the next change

-- the set of this place, which lacks the subscriber
pub spared_by : (sets : List OwnerSet) (subscriber place : ℕ) (set : OwnerSet) → subscriber < 32 → place < length sets
    → owned (get_or sets place set) subscriber ≡ false → IsSpared sets subscriber place
spared_by sets subscriber place set within there lacks = λ plan changes change are at.
    sym (are.each place change (get_or sets place set) at (slice_get-get_or sets place set there) subscriber within)
    ∙ lacks

pub one_spared : (sets : List OwnerSet) (subscriber from place : ℕ) → IsSpared sets subscriber place
    → ((k : ℕ) → from ≤ k → k < place → IsSpared sets subscriber k)
    → (k : ℕ) → from ≤ k → k < place + 1 → IsSpared sets subscriber k
one_spared sets subscriber from place spared before k after below =
    elim (cases_eq k place) [
      | inl same ↦ subst (IsSpared sets subscriber) (sym same) spared
      | inr apart ↦ before k after (omega (arith, below, apart))
    ]

abbrev IsOwn : ℕ → Option OwnerSet → Type 0
IsOwn subscriber found = IfSome found (λ set. IsTrue (owned set subscriber))

-- the set of this place, which has the subscriber
pub own_by : (sets : List OwnerSet) (subscriber place : ℕ) (set : OwnerSet) → place < length sets
    → owned (get_or sets place set) subscriber ≡ true → IsOwn subscriber (slice_get sets place)
own_by sets subscriber place set there has = subst (IsOwn subscriber) (sym (slice_get-get_or sets place set there)) has

-- a place after the sets
pub own_past : (sets : List OwnerSet) (subscriber place : ℕ) → length sets ≤ place
    → IsOwn subscriber (slice_get sets place)
own_past sets subscriber place past = subst (IsOwn subscriber) (sym (slice_get_past sets place past)) tt

-- ---- no change

none_passes : (test : ChangeOf → Bool) (all : List ChangeOf)
    → ((k : ℕ) (change : ChangeOf) → k < length all → slice_get all k ≡ Some change → test change ≡ false)
    → list_any test all ≡ false
none_passes test [] each = refl
none_passes test (change ∷ rest) each =
    rw (each 0 change (omega arith) refl)
    (none_passes test rest (λ k one below there. each (suc k) one (omega (arith, below)) there))

is_false : (b : Bool) → cond b 1 0 ≤ 0 → b ≡ false
is_false true few = absurd (omega (arith, few))
is_false false few = refl

none_owned : (sets : List OwnerSet) (subscriber k : ℕ) (set : OwnerSet) → k < length sets
    → count_by (λ own. owned own subscriber) sets ≡ 0 → owned (get_or sets k set) subscriber ≡ false
none_owned sets subscriber k set within none =
    is_false (owned (get_or sets k set) subscriber)
    (omega (arith, none, get_or-le-sum_by (λ own. cond (owned own subscriber) 1 0) sets k set within))

-- if none is counted, none of the commit's changes is for the subscriber
pub none_concerned : (sets : List OwnerSet) (subscriber changes : ℕ) → subscriber < 32
    → count_by (λ own. owned own subscriber) sets + (changes - length sets) ≡ 0
    → (plan : PlanOf) (all : List ChangeOf) → length all ≤ changes → AreOwners plan all sets
    → concerns plan all subscriber ≡ false
none_concerned sets subscriber changes within none plan all long are =
    none_passes (is_for plan subscriber) all
    (λ k change below there. elim (slice_get_cases sets k).1 [
      | inl found ↦
          sym (are.each k change found.0 there found.2 subscriber within)
          ∙ ap (λ own. owned own subscriber) (sym found.3)
          ∙ none_owned sets subscriber k found.0 found.1 (omega (arith, none))
      | inr past ↦ absurd (omega (arith, none, below, long, past.0))
    ])
