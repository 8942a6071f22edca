-- What a router keeps is right for each row with the same values of the atoms.
use Rattle.std.proofs.Common.{◌≡◌, ℕ, ◌+◌, ◌<◌, ◌≤◌, Bool, true, false, ◌&&◌, ◌||◌, List, [], ◌∷◌, ◌++◌, map, length, take, get_or, set, refl, sym, ap, subst, ◌∙◌, inl, inr, arith}
use Rattle.std.specs.Prelude.{All, Option, Some, None, is_some, slice_get, if◌then◌else◌}
use Rattle.std.specs.List.{list_any}
use Rattle.std.specs.Option.{option_map}
use Rattle.std.proofs.lemmas.Bool.{cases_eq, cases_lt, lt-ltb}
use Rattle.std.proofs.lemmas.List.{length-map, length-append, get_or-map, map-append, take_more, get_or-set_same, get_or-set_other, length-set, get_or_append_left, get_or-append-add}
use Rattle.std.proofs.lemmas.List.Elements.{All-set}
use Rattle.std.proofs.lemmas.List.Folds.{list_any-append}
use Rattle.std.proofs.lemmas.Option.{slice_get-map, slice_get-get_or, slice_get_within, get_or_from_slice_get}
use Rattle.filter_tree.specs.Datum.{Datum}
use Rattle.filter_tree.specs.Expr.{Expr, meaning}
use Rattle.filter_memo.specs.Atoms.{says, SayTheSame, IsAtomsOf, Locates, LocateAlike}
use Rattle.filter_memo.specs.declared.atoms.Atoms.{Atoms}
use Rattle.filter_memo.specs.declared.said.Said.{Said}
use Rattle.filter_memo.proofs.AtomLemmas.{say_the_same}
use Rattle.replica_identity.specs.Plans.{PlanOf, share_at}
use Rattle.replica_identity.specs.Shares.{ShareOf, Nothing, Everything, Where, is_true, takes}
use Rattle.replica_identity.specs.Transforms.{takes_row, takes_any}
use Rattle.table_changes.specs.Outs.{out_by}
use Rattle.table_changes.specs.Records as r
use Rattle.row_owners.specs.Owners.{OwnedWhere, OwnsChange, owned, is_for}
use Rattle.row_owners.specs.Routers.{filter_in, filter_at, filters_of, OwnsRow, takes_part, IsKept, RoutesTable}
use Rattle.row_owners.specs.declared.owner_set.OwnerSet.{OwnerSet}
use Rattle.row_owners.specs.declared.table_router.KeptOwners.{KeptOwners}
use Rattle.row_owners.specs.declared.table_router.TableRouter.{TableRouter}
use Rattle.row_owners.proofs.OwnerLemmas.{OwnedBelow, past_plan}

-- ---- the filters of a table

pub filters_more : (plan : PlanOf) (table i : ℕ) (filters : List (Option Expr)) → i < length plan
    → filters ≡ filters_of (take i plan) table
    → filters ++ filter_in (share_at plan i table) ∷ [] ≡ filters_of (take (i + 1) plan) table
filters_more plan table i filters within is =
    ap (λ own. own ++ filter_in (share_at plan i table) ∷ []) is
    ∙ sym (ap (map (filter_at table)) (take_more plan i [] within)
    ∙ map-append (filter_at table) (take i plan) (get_or plan i [] ∷ []))

-- a share's filter is at the subscriber's place
pub filter_there : (plan : PlanOf) (subscriber table : ℕ) (filter : Expr)
    → share_at plan subscriber table ≡ Where filter
    → slice_get (filters_of plan table) subscriber ≡ Some (Some filter)
filter_there plan subscriber table filter is =
    elim (cases_lt subscriber (length plan)) [
      | inl low ↦
          slice_get-map (filter_at table) plan subscriber
          ∙ ap (option_map (filter_at table)) (slice_get-get_or plan subscriber [] low)
          ∙ ap (λ (share : ShareOf). Some (filter_in share)) is
      | inr past ↦
          let none : Nothing ≡ Where filter = sym (past_plan plan subscriber table past) ∙ is in absurd cc
    ]

says_share : (share : ShareOf) (one other : List Datum)
    → says one (filter_in share) ≡ says other (filter_in share) → takes share one ≡ takes share other
says_share Nothing one other same = refl
says_share Everything one other same = refl
says_share (Where filter) one other same =
    let said : meaning filter one ≡ meaning filter other = cc in ap is_true said

-- rows for which each filter has the same value go to the same subscribers
pub same_takers : (plan : PlanOf) (table : ℕ) (one other : List Datum) → SayTheSame (filters_of plan table) one other
    → (subscriber : ℕ) → takes_row plan subscriber table one ≡ takes_row plan subscriber table other
same_takers plan table one other same subscriber =
    elim (cases_lt subscriber (length plan)) [
      | inl low ↦
          let within : subscriber < length (filters_of plan table) =
          omega (arith, low, length-map plan (filter_at table)) in
          let is : get_or (filters_of plan table) subscriber None ≡ filter_in (share_at plan subscriber table) =
          get_or-map (filter_at table) plan subscriber [] None low in
          says_share (share_at plan subscriber table) one other
          (subst (λ (own : Option Expr). says one own ≡ says other own) is (same subscriber None within))
      | inr past ↦
          let none : share_at plan subscriber table ≡ Nothing = past_plan plan subscriber table past in
          rw none refl
    ]

-- ---- sets

pub all_asked : (set : OwnerSet) (count : ℕ) (test : ℕ → Bool) → 32 ≤ count → OwnedBelow set count test
    → OwnedWhere set test
all_asked set count test many below subscriber within =
    below subscriber within
    ∙ ap (λ (b : Bool). b && test subscriber) (lt-ltb subscriber count (omega (arith, many, within)))

pub kept_is : (kept : KeptOwners) (said : Said) → kept.said ≡ said
    → kept ≡ record { said = said; owners = kept.owners }
kept_is kept said is = ap (λ (own : Said). record { said = own; owners = kept.owners }) is

-- ---- a table

module _ (plan : PlanOf) (table : ℕ) where
  pub no_set : (atoms : Atoms) (slots : List (Option KeptOwners)) → All (λ slot. slot ≡ None) slots
      → All (IsKept plan table atoms) slots
  no_set atoms slots empty = λ k d within. record {
    owns = λ kept at. let none : None ≡ Some kept = sym (empty k d within) ∙ at in absurd cc;
  }

  -- a router whose atoms have looked at one more row
  pub looked : (old new : TableRouter) → RoutesTable plan table old → IsAtomsOf (filters_of plan table) new.atoms
      → LocateAlike old.atoms new.atoms → new.slots ≡ old.slots → RoutesTable plan table new
  looked old new is atoms alike slots = record {
    atoms = atoms;
    kept = rw slots (λ k d within. record {
      owns = λ kept at row located. (is.kept k d within).owns kept at row (alike.before row kept.said located);
    });
  }

  pub kept_owns : (router : TableRouter) → RoutesTable plan table router → (slot : ℕ) (kept : KeptOwners)
      → slice_get router.slots.items slot ≡ Some (Some kept) → (row : List Datum)
      → Locates router.atoms row kept.said → OwnsRow plan table row kept.owners
  kept_owns router is slot kept found row located =
      (is.kept slot None (slice_get_within router.slots.items slot (Some kept) found)).owns kept
      (get_or_from_slice_get router.slots.items slot (Some kept) None found) row located

  -- a set that is to be kept
  pub new_set : (atoms : Atoms) → IsAtomsOf (filters_of plan table) atoms → atoms.is_used ≡ true
      → (row : List Datum) (said : Said) (owners : OwnerSet) → Locates atoms row said → OwnsRow plan table row owners
      → IsKept plan table atoms (Some (record { said = said; owners = owners }))
  new_set atoms is used row said owners located owns = record {
    owns = λ kept at other located_other.
        let same : record { said = said; owners = owners } ≡ kept = some_same _ kept at in
        subst (λ (own : KeptOwners). OwnsRow plan table other own.owners) same
        (λ subscriber within. owns subscriber within
        ∙ same_takers plan table row other
        (say_the_same atoms (filters_of plan table) is used row other said located
        (subst (λ (own : KeptOwners). Locates atoms other own.said) (sym same) located_other)) subscriber);
  } where
    some_same : (one other : KeptOwners) → Some one ≡ Some other → one ≡ other
    some_same one other is = cc

  pub with_set : (old new : TableRouter) (slot : ℕ) (kept : KeptOwners) → RoutesTable plan table old
      → IsKept plan table old.atoms (Some kept) → new.atoms ≡ old.atoms
      → new.slots.items ≡ set old.slots.items slot (Some kept) → RoutesTable plan table new
  with_set old new slot kept is own atoms slots = record {
    atoms = rw atoms is.atoms;
    kept = rw (atoms, slots)
        (All-set (IsKept plan table old.atoms) old.slots.items slot (Some kept) own is.kept);
  }

-- ---- all tables

-- each router is one of the table of its place
abbrev pub RouteTables : PlanOf → List TableRouter → Type 0
RouteTables plan routers =
    (table : ℕ) (own : TableRouter) → table < length routers → RoutesTable plan table (get_or routers table own)

pub router_set : (plan : PlanOf) (routers : List TableRouter) (table : ℕ) (own : TableRouter) → table < length routers
    → RouteTables plan routers → RoutesTable plan table own → RouteTables plan (set routers table own)
router_set plan routers table own here are is other d within =
    elim (cases_eq other table) [
      | inl same ↦
          subst (λ (n : ℕ). RoutesTable plan n (get_or (set routers table own) n d)) (sym same)
          (subst (RoutesTable plan table) (sym (get_or-set_same routers table own d here)) is)
      | inr apart ↦
          subst (RoutesTable plan other) (sym (get_or-set_other routers table other own d apart))
          (are other d (omega (arith, within, length-set routers table own)))
    ]

pub router_more : (plan : PlanOf) (routers : List TableRouter) (table : ℕ) (own : TableRouter) → length routers ≡ table
    → RouteTables plan routers → RoutesTable plan table own → RouteTables plan (routers ++ own ∷ [])
router_more plan routers table own count are is other d within =
    elim (cases_lt other (length routers)) [
      | inl low ↦
          subst (RoutesTable plan other) (sym (get_or_append_left routers (own ∷ []) d other low)) (are other d low)
      | inr past ↦
          let here : other ≡ length routers + 0 =
          omega (arith, past, within, length-append routers (own ∷ [])) in
          let at : get_or (routers ++ own ∷ []) other d ≡ own =
          ap (λ (n : ℕ). get_or (routers ++ own ∷ []) n d) here ∙ get_or-append-add routers (own ∷ []) 0 d in
          let same : table ≡ other = omega (arith, here, count) in
          subst (RoutesTable plan other) (sym at) (subst (λ (n : ℕ). RoutesTable plan n own) same is)
    ]

-- ---- changes

some_if : {A : Type 0} (b : Bool) (x : A) → is_some (if b then Some x else None) ≡ b
some_if true x = refl
some_if false x = refl

either_out : (old new : Bool) (part : Option r.PartOf) (row : List Datum)
    → is_some (out_by old new part row) ≡ (new || old)
either_out false false part row = refl
either_out false true part row = refl
either_out true false part row = refl
either_out true true part row = refl

or_self : (b : Bool) → (b || b) ≡ (b || false)
or_self true = refl
or_self false = refl

pub insert_owned : (plan : PlanOf) (table : ℕ) (row : List Datum) (set : OwnerSet) → OwnsRow plan table row set
    → OwnsChange plan (r.Insert table row) set
insert_owned plan table row set owns subscriber within =
    owns subscriber within ∙ sym (some_if (takes_row plan subscriber table row) _)

-- the asked row passes or the new one does
update_for : (plan : PlanOf) (table : ℕ) (part : Option r.PartOf) (row : List Datum) (subscriber : ℕ)
    → is_for plan subscriber (r.Update table part row)
    ≡ (takes_row plan subscriber table row || takes_part plan table part subscriber)
update_for plan table None row subscriber =
    either_out (takes_row plan subscriber table row) (takes_row plan subscriber table row) None row
    ∙ or_self (takes_row plan subscriber table row)
update_for plan table (Some (r.Key part)) row subscriber =
    either_out (takes_row plan subscriber table part) (takes_row plan subscriber table row) (Some (r.Key part)) row
update_for plan table (Some (r.Full old)) row subscriber =
    either_out (takes_row plan subscriber table old) (takes_row plan subscriber table row) (Some (r.Full old)) row

pub update_owned : (plan : PlanOf) (table : ℕ) (part : Option r.PartOf) (row : List Datum) (new both old : OwnerSet)
    → OwnsRow plan table row new → OwnedWhere old (takes_part plan table part)
    → ((subscriber : ℕ) → owned both subscriber ≡ (owned new subscriber || owned old subscriber))
    → OwnsChange plan (r.Update table part row) both
update_owned plan table part row new both old owns_new owns_old joined subscriber within =
    joined subscriber
    ∙ ap (λ (b : Bool). b || owned old subscriber) (owns_new subscriber within)
    ∙ ap (λ (b : Bool). takes_row plan subscriber table row || b) (owns_old subscriber within)
    ∙ sym (update_for plan table part row subscriber)

delete_for : (plan : PlanOf) (table : ℕ) (part : Option r.PartOf) (subscriber : ℕ)
    → is_for plan subscriber (r.Delete table part) ≡ takes_part plan table part subscriber
delete_for plan table None subscriber = refl
delete_for plan table (Some (r.Key part)) subscriber = some_if (takes_row plan subscriber table part) _
delete_for plan table (Some (r.Full old)) subscriber = some_if (takes_row plan subscriber table old) _

pub delete_owned : (plan : PlanOf) (table : ℕ) (part : Option r.PartOf) (set : OwnerSet)
    → OwnedWhere set (takes_part plan table part) → OwnsChange plan (r.Delete table part) set
delete_owned plan table part set owns subscriber within =
    owns subscriber within ∙ sym (delete_for plan table part subscriber)

pub truncate_owned : (plan : PlanOf) (numbers : List ℕ) (set : OwnerSet)
    → OwnedWhere set (λ subscriber. list_any (takes_any plan subscriber) numbers)
    → OwnsChange plan (r.Truncate numbers) set
truncate_owned plan numbers set owns subscriber within =
    owns subscriber within ∙ sym (some_if (list_any (takes_any plan subscriber) numbers) _)

-- one more table
pub carriers_more : (plan : PlanOf) (numbers : List ℕ) (i number : ℕ) (old new one : OwnerSet) → i < length numbers
    → number ≡ get_or numbers i number
    → OwnedWhere old (λ subscriber. list_any (takes_any plan subscriber) (take i numbers))
    → OwnedWhere one (λ subscriber. takes_any plan subscriber number)
    → ((subscriber : ℕ) → owned new subscriber ≡ (owned old subscriber || owned one subscriber))
    → OwnedWhere new (λ subscriber. list_any (takes_any plan subscriber) (take (i + 1) numbers))
carriers_more plan numbers i number old new one here at before own joined subscriber within =
    let more : take (i + 1) numbers ≡ take i numbers ++ number ∷ [] =
    take_more numbers i number here ∙ ap (λ (n : ℕ). take i numbers ++ n ∷ []) (sym at) in
    joined subscriber
    ∙ ap (λ (b : Bool). b || owned one subscriber) (before subscriber within)
    ∙ ap (λ (b : Bool). list_any (takes_any plan subscriber) (take i numbers) || b)
    (own subscriber within ∙ sym (or_false (takes_any plan subscriber number)))
    ∙ sym (ap (list_any (takes_any plan subscriber)) more
    ∙ list_any-append (takes_any plan subscriber) (take i numbers) (number ∷ []))
  where
    or_false : (b : Bool) → (b || false) ≡ b
    or_false true = refl
    or_false false = refl
