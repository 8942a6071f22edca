-- What a map that is changed in place shows after each step, and what its undo list keeps of it.
use Rattle.std.proofs.Common.{◌≡◌, Bool, true, false, List, [], ◌∷◌, ◌++◌, refl, sym, ◌∙◌, ap}
use Rattle.std.specs.Prelude.{Option, Some, None, Result, Ok, Err, OnOk, OnErr, is_some, if◌then◌else◌}
use Rattle.std.specs.BTreeMap.{BTreeMap, get, is_at, Updates, IsUnchanged}
use Rattle.std.specs.Cmp.{IsTotalOrder, Equal-is}
use Rattle.std.specs.Map.{lookup}
use Rattle.std.specs.Ordering.{eq_by_cmp, is_eq}
use Rattle.std.specs.declared.cmp.Ordering.{Ordering}
use Rattle.std.specs.declared.cmp.Ordering.TheVariants.{Equal}
use Rattle.std.proofs.lemmas.Cmp.{eq_by_cmp_equiv}
use Rattle.tables_log.specs.Layers.{flat, over, below, has_place, made_by_change, was_in, rewound, kept_under, HasRoom}
use Rattle.filter_tree.proofs.Tests.{by_test}

-- ---- by cases

flat_if : {V : Type 0} (b : Bool) (one another : Option (Option V))
    → flat (if b then one else another) ≡ (if b then flat one else flat another)
flat_if true one another = refl
flat_if false one another = refl

over_if : {V : Type 0} (b : Bool) (place found : Option V)
    → over (if b then Some place else None) found ≡ (if b then place else found)
over_if true place found = refl
over_if false place found = refl

over_first : {V : Type 0} (b : Bool) (place : Option V) (rest other : Option (Option V)) (found under : Option V)
    → over rest found ≡ over other under
    → over (if b then Some place else rest) found ≡ over (if b then Some place else other) under
over_first true place rest other found under h = refl
over_first false place rest other found under h = h

some_first : {V : Type 0} (b : Bool) (place : V) (rest : Option V) → is_some rest ≡ true
    → is_some (if b then Some place else rest) ≡ true
some_first true place rest h = refl
some_first false place rest h = h

some_if : {V : Type 0} (b : Bool) (place : V) (rest other : Option V) → (is_some rest ≡ true → is_some other ≡ true)
    → is_some (if b then Some place else rest) ≡ true → is_some (if b then Some place else other) ≡ true
some_if true place rest other f h = refl
some_if false place rest other f h = f h

pub if_same : {V : Type 0} (b : Bool) (value : V) → (if b then value else value) ≡ value
if_same true value = refl
if_same false value = refl

-- nothing, as when nothing was found and nothing is kept of it
pub over_none : {V : Type 0} (was : Option (Option V)) → (is_some was ≡ true → ⊥) → over was None ≡ None
over_none None never = refl
over_none (Some place) never = absurd (never refl)

-- a call that may fail did not, because what its failure says is impossible
did_not_fail : {A E : Type 0} (result : Result A E) (P Q : Type 0) → OnOk result P → OnErr result Q → (Q → ⊥) → P
did_not_fail (Ok value) P Q ok err never = ok
did_not_fail (Err error) P Q ok err never = absurd (never err)

-- ---- lists of what was found

over_append : {K V : Type 0} (test : K → Bool) (undo : List (K × Option V)) (key : K) (place found : Option V)
    → over (lookup test (undo ++ (key, place) ∷ [])) found ≡ over (lookup test undo) (if test key then place else found)
over_append test [] key place found = over_if (test key) place found
over_append test ((other, was) ∷ undo) key place found =
    over_first (test other) was (lookup test (undo ++ (key, place) ∷ [])) (lookup test undo) found
    (if test key then place else found)
    (over_append test undo key place found)

some_append : {K V : Type 0} (test : K → Bool) (undo : List (K × V)) (key : K) (place : V)
    → is_some (lookup test undo) ≡ true
    → is_some (lookup test (undo ++ (key, place) ∷ [])) ≡ true
some_append test [] key place h = absurd cc
some_append test ((other, was) ∷ undo) key place h =
    some_if (test other) was (lookup test undo) (lookup test (undo ++ (key, place) ∷ []))
    (some_append test undo key place) h

some_before : {K V : Type 0} (test : K → Bool) (undo : List (K × V)) (key : K) (place : V) → test key ≡ false
    → is_some (lookup test (undo ++ (key, place) ∷ [])) ≡ true → is_some (lookup test undo) ≡ true
some_before test [] key place apart h = sym (ap (λ b. is_some (if b then Some place else None)) apart) ∙ h
some_before test ((other, was) ∷ undo) key place apart h =
    some_if (test other) was (lookup test (undo ++ (key, place) ∷ [])) (lookup test undo)
    (some_before test undo key place apart) h

module _ {K : Type 0} (cmp : K → K → Ordering) where
  -- ---- one map

  -- after a change under a key: at that key, and at another
  get_after : {V : Type 0} (old new : BTreeMap K V) (key : K) (place : Option V) → Updates cmp old new key place
      → (other : K) → get cmp new other ≡ (if eq_by_cmp cmp key other then place else get cmp old other)
  get_after old new key place updates other = updates.0 other

  get_at : {V : Type 0} (old new : BTreeMap K V) (key : K) (place : Option V) → Updates cmp old new key place
      → (other : K) → eq_by_cmp cmp key other ≡ true → get cmp new other ≡ place
  get_at old new key place updates other same =
      get_after old new key place updates other ∙ ap (λ b. if b then place else get cmp old other) same

  get_beside : {V : Type 0} (old new : BTreeMap K V) (key : K) (place : Option V) → Updates cmp old new key place
      → (other : K) → eq_by_cmp cmp key other ≡ false → get cmp new other ≡ get cmp old other
  get_beside old new key place updates other apart =
      get_after old new key place updates other ∙ ap (λ b. if b then place else get cmp old other) apart

  pub below_unchanged : {V : Type 0} (old new : BTreeMap K (Option V)) → IsUnchanged old new → (key : K)
      → below cmp new key ≡ below cmp old key
  below_unchanged old new same key = ap (λ entries. flat (lookup (is_at (cmp key)) entries)) same

  pub below_after : {V : Type 0} (old new : BTreeMap K (Option V)) (key : K) (place : Option (Option V))
      → Updates cmp old new key place
      → (other : K) → below cmp new other ≡ (if eq_by_cmp cmp key other then flat place else below cmp old other)
  below_after old new key place updates other =
      ap flat (get_after old new key place updates other) ∙ flat_if (eq_by_cmp cmp key other) place (get cmp old other)

  no_place : {V : Type 0} (map : BTreeMap K (Option V)) (key : K) → has_place cmp map key ≡ true
      → get cmp map key ≡ None → ⊥
  no_place map key has none = let lacks : has_place cmp map key ≡ false = ap is_some none in cc

  -- an insert at a place that exists
  pub writes : {V E : Type 0} (old new : BTreeMap K (Option V)) (key : K) (value : Option V)
      (result : Result (Option (Option V)) E)
      → OnOk result (Updates cmp old new key (Some value)) → OnErr result (get cmp old key ≡ None)
      → has_place cmp old key ≡ true
      → Updates cmp old new key (Some value)
  writes old new key value result ok err has =
      did_not_fail result (Updates cmp old new key (Some value)) (get cmp old key ≡ None) ok err (no_place old key has)

  -- ---- what was kept, if nothing is undone, and after a call that changes nothing

  pub kept_same : {V : Type 0} (base new_base : BTreeMap K (Option V)) (made new_made : List K)
      (undo new_undo : List (K × Option V))
      → new_made ≡ made → new_undo ≡ undo → ((other : K) → below cmp new_base other ≡ below cmp base other)
      → (other : K) → kept_under cmp new_base new_made new_undo other ≡ kept_under cmp base made undo other
  kept_same base new_base made new_made undo new_undo same_made same_undo same other =
      ap (λ (keys : List K). rewound cmp keys new_undo other (below cmp new_base other)) same_made
      ∙ ap (λ places. rewound cmp made places other (below cmp new_base other)) same_undo
      ∙ ap (rewound cmp made undo other) (same other)

  pub room_same : {V : Type 0} (base new_base : BTreeMap K (Option V)) (undo new_undo : List (K × Option V))
      → new_undo ≡ undo
      → ((other : K) → has_place cmp base other ≡ true → has_place cmp new_base other ≡ true)
      → HasRoom cmp base undo → HasRoom cmp new_base new_undo
  room_same base new_base undo new_undo same stay room = λ key has.
      stay key (room key (sym (ap (λ places. is_some (was_in cmp places key)) same) ∙ has))

  -- ---- while the places get back what they had

  pub record Rewinds {V : Type 0} (base first_base : BTreeMap K (Option V)) (undo first_undo : List (K × Option V)) :
      Type 0 where
    pub back : (key : K) → over (was_in cmp undo key) (below cmp base key)
        ≡ over (was_in cmp first_undo key) (below cmp first_base key)
    pub room : HasRoom cmp base undo

-- ---- with keys in a total order, where keys that tie find the same

module _ {K : Type 0} {cmp : K → K → Ordering} (total : IsTotalOrder cmp) where
  turned : (key other : K) → is_at (cmp other) key ≡ eq_by_cmp cmp key other
  turned key other = (eq_by_cmp_equiv total).symm other key

  -- tests by keys that tie
  pub tests_same : (key other : K) → eq_by_cmp cmp key other ≡ true → is_at (cmp key) ≡ is_at (cmp other)
  tests_same key other same =
      let tied : cmp key other ≡ Equal = (Equal-is (cmp key other)).0 same in
      λ i k. is_eq (total.congr key other k tied i)

  get_same : {V : Type 0} (map : BTreeMap K V) (key other : K) → eq_by_cmp cmp key other ≡ true
      → get cmp map other ≡ get cmp map key
  get_same map key other same = sym (ap (λ (test : K → Bool). lookup test map.entries) (tests_same key other same))

  -- ---- places

  pub stay_after : {V : Type 0} (old new : BTreeMap K (Option V)) (key : K) (place : Option V)
      → Updates cmp old new key (Some place)
      → (other : K) → has_place cmp old other ≡ true → has_place cmp new other ≡ true
  stay_after old new key place updates other h = by_test (eq_by_cmp cmp key other)
      (λ same. ap is_some (get_at cmp old new key (Some place) updates other same))
      (λ apart. ap is_some (get_beside cmp old new key (Some place) updates other apart) ∙ h)

  pub there_after : {V : Type 0} (old new : BTreeMap K (Option V)) (key : K) (place : Option V)
      → Updates cmp old new key (Some place)
      → has_place cmp new key ≡ true
  there_after old new key place updates =
      ap is_some (get_at cmp old new key (Some place) updates key ((eq_by_cmp_equiv total).refl key))

  -- ---- a change of a place that existed

  pub keeps_undone : {V : Type 0} (base new_base : BTreeMap K (Option V)) (made : List K) (undo : List (K × Option V))
      (key : K) (was value : Option V)
      → get cmp base key ≡ Some was
      → ((other : K) → below cmp new_base other ≡ (if eq_by_cmp cmp key other then value else below cmp base other))
      → (other : K) → kept_under cmp new_base made (undo ++ (key, was) ∷ []) other ≡ kept_under cmp base made undo other
  keeps_undone {V} base new_base made undo key was value is puts other =
      let there : (if eq_by_cmp cmp key other then was else below cmp new_base other) ≡ below cmp base other =
      by_test (eq_by_cmp cmp key other)
      (λ same. ap (λ (b : Bool). if b then was else below cmp new_base other) same
      ∙ sym (ap flat (get_same base key other same ∙ is)))
      (λ apart.
      ap (λ (b : Bool). if b then was else below cmp new_base other) apart ∙ puts other
      ∙ ap (λ (b : Bool). if b then value else below cmp base other) apart) in
      let found : over (was_in cmp (undo ++ (key, was) ∷ []) other) (below cmp new_base other)
      ≡ over (was_in cmp undo other) (below cmp base other) =
      over_append (is_at (cmp other)) undo key was (below cmp new_base other)
      ∙ ap (λ (b : Bool). over (was_in cmp undo other) (if b then was else below cmp new_base other)) (turned key other)
      ∙ ap (λ (x : Option V). over (was_in cmp undo other) x) there in
      ap (λ (x : Option V). if made_by_change cmp made other then None else x) found

  pub room_undone : {V : Type 0} (base new_base : BTreeMap K (Option V)) (undo : List (K × Option V)) (key : K)
      (was : Option V)
      → ((other : K) → has_place cmp base other ≡ true → has_place cmp new_base other ≡ true)
      → has_place cmp new_base key ≡ true
      → HasRoom cmp base undo → HasRoom cmp new_base (undo ++ (key, was) ∷ [])
  room_undone base new_base undo key was stay there room = λ other has. by_test (eq_by_cmp cmp key other)
      (λ same. ap is_some (get_same new_base key other same) ∙ there)
      (λ apart. stay other (room other (some_before (is_at (cmp other)) undo key was (turned key other ∙ apart) has)))

  -- ---- while the places get back what they had

  pub rewinds_one : {V : Type 0} (base new_base first_base : BTreeMap K (Option V))
      (undo new_undo first_undo : List (K × Option V)) (key : K) (was : Option V)
      → undo ≡ new_undo ++ (key, was) ∷ []
      → ((other : K) → below cmp new_base other ≡ (if eq_by_cmp cmp key other then was else below cmp base other))
      → ((other : K) → has_place cmp base other ≡ true → has_place cmp new_base other ≡ true)
      → Rewinds cmp base first_base undo first_undo → Rewinds cmp new_base first_base new_undo first_undo
  rewinds_one base new_base first_base undo new_undo first_undo key was is puts stay rewinds = record {
    back = λ other.
        ap (over (was_in cmp new_undo other))
        (puts other ∙ sym (ap (λ b. if b then was else below cmp base other) (turned key other)))
        ∙ sym (over_append (is_at (cmp other)) new_undo key was (below cmp base other))
        ∙ sym (ap (λ places. over (was_in cmp places other) (below cmp base other)) is)
        ∙ rewinds.back other;
    room = λ other has. stay other (rewinds.room other
        (ap (λ places. is_some (was_in cmp places other)) is ∙ some_append (is_at (cmp other)) new_undo key was has));
  }

  last_found : {V : Type 0} (places : List (K × Option V)) (key : K) (was : Option V)
      → is_some (was_in cmp (places ++ (key, was) ∷ []) key) ≡ true
  last_found [] key was = ap (λ (b : Bool). is_some (if b then Some was else None)) ((eq_by_cmp_equiv total).refl key)
  last_found ((other, place) ∷ places) key was =
      some_first (is_at (cmp key) other) place (was_in cmp (places ++ (key, was) ∷ []) key)
      (last_found places key was)

  pub last_room : {V : Type 0} (base first_base : BTreeMap K (Option V))
      (undo new_undo first_undo : List (K × Option V)) (key : K) (was : Option V)
      → undo ≡ new_undo ++ (key, was) ∷ [] → Rewinds cmp base first_base undo first_undo → has_place cmp base key ≡ true
  last_room base first_base undo new_undo first_undo key was is rewinds = rewinds.room key
      (ap (λ places. is_some (was_in cmp places key)) is ∙ last_found new_undo key was)
