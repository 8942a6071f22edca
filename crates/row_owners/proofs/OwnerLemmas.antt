-- Which subscribers get something from changes: no subscriber that the catalog does not have.
use Rattle.std.proofs.Common.{◌≡◌, ℕ, ◌+◌, ◌≤◌, ◌<◌, Bool, true, false, ◌&&◌, ◌||◌, List, [], ◌∷◌, ◌++◌, map, length, drop, take, refl, sym, ap, subst, ◌∙◌, inl, inr, arith}
use Rattle.std.specs.Prelude.{◌==◌, nat_lt, Option, Some, IfSome, IsSomeAnd, MatchOption, slice_get, slice_index_or}
use Rattle.std.specs.List.{AllZip, list_any}
use Rattle.std.specs.Option.{ForSome}
use Rattle.std.proofs.lemmas.Bool.{cases_eq, cases_lt, eq-eqb, ne_eqb, lt-ltb, le-ltb}
use Rattle.std.proofs.lemmas.List.{drop_more, get_or_past, map-append, take_more}
use Rattle.std.proofs.lemmas.Slice.Zip.{AllZip-left, all_zipped_more}
use Rattle.replica_identity.specs.Plans.{PlanOf, share_at}
use Rattle.replica_identity.specs.Shares.{ShareOf, Nothing}
use Rattle.table_changes.specs.Records as r
use Rattle.row_owners.specs.Owners.{AreOwners, OwnedWhere, OwnsChange, concerns, is_for, owned}
use Rattle.row_owners.specs.declared.owner_set.OwnerSet.{OwnerSet}

-- ---- lists of changes

pub any_viewed : {A B : Type 0} (test : B → Bool) (view : A → B) (xs : List A)
    → list_any test (map view xs) ≡ list_any (λ x. test (view x)) xs
any_viewed test view [] = refl
any_viewed test view (x ∷ xs) = ap (λ b. test (view x) || b) (any_viewed test view xs)

-- ---- subscribers that the catalog does not have

pub past_plan : (plan : PlanOf) (subscriber table : ℕ) → length plan ≤ subscriber
    → share_at plan subscriber table ≡ Nothing
past_plan plan subscriber table past =
    ap (λ (shares : List ShareOf). slice_index_or shares table Nothing) (get_or_past plan subscriber [] past)

-- ---- sets that grow

or_false : (b : Bool) → (b || false) ≡ b
or_false true = refl
or_false false = refl

below_next : (test : ℕ → Bool) (count other : ℕ)
    → ((nat_lt other count && test other) || ((other == count) && test count))
    ≡ (nat_lt other (count + 1) && test other)
below_next test count other =
    elim (cases_lt other count) [
      | inl low ↦ rw (
        lt-ltb other count low,
        lt-ltb other (count + 1) (omega (arith, low)),
        ne_eqb other count (omega (arith, low)),
      ) (or_false (test other))
      | inr high ↦ elim (cases_eq other count) [
        | inl same ↦ rw (
          same,
          le-ltb count count (omega arith),
          lt-ltb count (count + 1) (omega arith),
          eq-eqb count count refl,
        ) refl
        | inr apart ↦ rw (
          le-ltb other count high,
          le-ltb other (count + 1) (omega (arith, high, apart)),
          ne_eqb other count apart,
        ) refl
      ]
    ]

-- those of the first subscribers that pass the test
abbrev pub OwnedBelow : OwnerSet → ℕ → (ℕ → Bool) → Type 0
OwnedBelow set count test = OwnedWhere set (λ subscriber. nat_lt subscriber count && test subscriber)

pub one_more : (old new : OwnerSet) (count : ℕ) (test : ℕ → Bool) (is_there : Bool) → is_there ≡ test count
    → OwnedBelow old count test
    → OwnedWhere new (λ other. owned old other || ((other == count) && is_there))
    → OwnedBelow new (count + 1) test
one_more old new count test is_there is before put subscriber within =
    put subscriber within
    ∙ ap (λ (b : Bool). b || ((subscriber == count) && is_there)) (before subscriber within)
    ∙ ap (λ (b : Bool). (nat_lt subscriber count && test subscriber) || ((subscriber == count) && b)) is
    ∙ below_next test count subscriber

-- ---- sets of several changes

-- the set, and what is left, have those that get something from one of all changes
pub record OwnsRest (plan : PlanOf) (set : OwnerSet) (rest all : List r.ChangeOf) : Type 0 where
  pub same : (subscriber : ℕ) → subscriber < 32
      → (owned set subscriber || concerns plan rest subscriber) ≡ concerns plan all subscriber

or_assoc : (a b c : Bool) → ((a || b) || c) ≡ (a || (b || c))
or_assoc true b c = refl
or_assoc false b c = refl

pub rest_of_all : (plan : PlanOf) (set : OwnerSet) (changes : List r.ChangeOf) → OwnedWhere set (λ subscriber. false)
    → OwnsRest plan set changes changes
rest_of_all plan set changes nobody = record {
  same = λ subscriber within. ap (λ (b : Bool). b || concerns plan changes subscriber) (nobody subscriber within);
}

pub rest_of_one : (plan : PlanOf) (old new one : OwnerSet) (change : r.ChangeOf) (rest left all : List r.ChangeOf)
    → left ≡ change ∷ rest → OwnsRest plan old left all → OwnsChange plan change one
    → ((subscriber : ℕ) → owned new subscriber ≡ (owned old subscriber || owned one subscriber))
    → OwnsRest plan new rest all
rest_of_one plan old new one change rest left all is before owns both = record {
  same = λ subscriber within.
      ap (λ (b : Bool). b || concerns plan rest subscriber)
      (both subscriber ∙ ap (λ (b : Bool). owned old subscriber || b) (owns subscriber within))
      ∙ or_assoc (owned old subscriber) (is_for plan subscriber change) (concerns plan rest subscriber)
      ∙ ap (λ (list : List r.ChangeOf). owned old subscriber || concerns plan list subscriber) (sym is)
      ∙ before.same subscriber within;
}

pub rest_of_none : (plan : PlanOf) (set : OwnerSet) (left all : List r.ChangeOf) → left ≡ []
    → OwnsRest plan set left all → OwnedWhere set (concerns plan all)
rest_of_none plan set left all is before subscriber within =
    sym (or_false (owned set subscriber))
    ∙ ap (λ (list : List r.ChangeOf). owned set subscriber || concerns plan list subscriber) (sym is)
    ∙ before.same subscriber within

-- ---- sets by their places

pub owners_by_places : (plan : PlanOf) (changes : List r.ChangeOf) (sets : List OwnerSet)
    → AllZip (OwnsChange plan) changes sets → AreOwners plan changes sets
owners_by_places plan changes sets zipped = record {
  each = λ place change set there at. by place change set there at;
}
  where
    by : (place : ℕ) (change : r.ChangeOf) (set : OwnerSet) → slice_get changes place ≡ Some change
        → slice_get sets place ≡ Some set → OwnsChange plan change set
    by place change set there at =
        let found : IsSomeAnd (slice_get sets place) (OwnsChange plan change) =
        subst (λ one. MatchOption one (Unit {0}) (λ own. IsSomeAnd (slice_get sets place) (OwnsChange plan own)))
        there (AllZip-left (OwnsChange plan) changes sets zipped place) in
        subst (λ one. IsSomeAnd one (OwnsChange plan change)) at found

pub each_kept : {S : Type 0} (plan : PlanOf) (changes : List r.ChangeOf) (sets : List OwnerSet)
    (view : S → List OwnerSet) (found : Option S) → IfSome found (λ shared. view shared ≡ sets)
    → AreOwners plan changes sets → ForSome found (λ shared. AreOwners plan changes (view shared))
each_kept plan changes sets view found is are shared at =
    let same : view shared ≡ sets = subst (λ one. IfSome one (λ own. view own ≡ sets)) at is in
    subst (AreOwners plan changes) (sym same) are

-- the sets of one more change
pub owners_more : {C : Type 0} (plan : PlanOf) (view : C → r.ChangeOf) (changes : List C) (i : ℕ) (change : C)
    (old new : List OwnerSet) (set : OwnerSet) → i < length changes → change ≡ slice_index_or changes i change
    → AllZip (OwnsChange plan) (map view (take i changes)) old → OwnsChange plan (view change) set
    → new ≡ old ++ set ∷ [] → AllZip (OwnsChange plan) (map view (take (i + 1) changes)) new
owners_more plan view changes i change old new set within at are own pushed =
    let more : take (i + 1) changes ≡ take i changes ++ change ∷ [] = take_more changes i change within
    ∙ ap (λ one. take i changes ++ one ∷ []) (sym at) in
    let seen : map view (take (i + 1) changes) ≡ map view (take i changes) ++ view change ∷ [] =
    ap (map view) more ∙ map-append view (take i changes) (change ∷ []) in
    subst (λ list. AllZip (OwnsChange plan) list new) (sym seen)
    (subst (λ sets. AllZip (OwnsChange plan) (map view (take i changes) ++ view change ∷ []) sets) (sym pushed)
    (all_zipped_more (OwnsChange plan) (map view (take i changes)) old (view change) set are own))

pub rest_more : {C : Type 0} (plan : PlanOf) (view : C → r.ChangeOf) (changes : List C) (i : ℕ) (change : C)
    (old new one : OwnerSet) → i < length changes → change ≡ slice_index_or changes i change
    → OwnsRest plan old (map view (drop i changes)) (map view changes) → OwnsChange plan (view change) one
    → ((subscriber : ℕ) → owned new subscriber ≡ (owned old subscriber || owned one subscriber))
    → OwnsRest plan new (map view (drop (i + 1) changes)) (map view changes)
rest_more plan view changes i change old new one within at before owns both =
    rest_of_one plan old new one (view change) (map view (drop (i + 1) changes)) (map view (drop i changes))
    (map view changes)
    (ap (map view) (drop_more changes i change within)
    ∙ ap (λ own. view own ∷ map view (drop (i + 1) changes)) (sym at))
    before owns both
