-- A map that is changed in place, with what undoes the changes: what is seen in it, what was kept, and that each key
-- that was changed has a place.
use Rattle.std.specs.Prelude.{◌≡◌, Bool, true, List, [], ◌∷◌, map, is_some, Option, Some, None, Result, IfOk, OnOk, OnErr, if◌then◌else◌}
use Rattle.std.specs.BTreeMap.{BTreeMap, get, is_at}
use Rattle.std.specs.List.{list_any}
use Rattle.std.specs.Map.{lookup}
use Rattle.std.specs.Ordering.{eq_by_cmp}
use Rattle.std.specs.declared.cmp.Ordering.{Ordering}

-- a place may be empty
abbrev pub flat : {V : Type 0} → Option (Option V) → Option V
flat None = None
flat (Some place) = place

-- what is in places that are not empty
abbrev pub filled : {V : Type 0} → List (Option V) → List V
filled [] = []
filled (None ∷ places) = filled places
filled (Some value ∷ places) = value ∷ filled places

-- what was found first, and if nothing was, this
abbrev pub over : {V : Type 0} → Option (Option V) → Option V → Option V
over None below = below
over (Some place) below = place

abbrev pub below : {K V : Type 0} → (K → K → Ordering) → BTreeMap K (Option V) → K → Option V
below cmp base key = flat (get cmp base key)

-- what is seen: in a new map, once all was removed
abbrev pub shown : {K V : Type 0} → (K → K → Ordering) → BTreeMap K (Option V) → BTreeMap K (Option V) → Bool → K
    → Option V
shown cmp base fresh emptied key = if emptied then below cmp fresh key else below cmp base key

abbrev pub has_place : {K V : Type 0} → (K → K → Ordering) → BTreeMap K (Option V) → K → Bool
has_place cmp map key = is_some (get cmp map key)

-- ---- what was kept

-- whether the key's place was made by a change
abbrev pub made_by_change : {K : Type 0} → (K → K → Ordering) → List K → K → Bool
made_by_change cmp made key = list_any (is_at (cmp key)) made

-- what the first change of a place that existed found in it
abbrev pub was_in : {K V : Type 0} → (K → K → Ordering) → List (K × Option V) → K → Option (Option V)
was_in cmp undo key = lookup (is_at (cmp key)) undo

-- What was kept under a key, if this is found now.
abbrev pub rewound : {K V : Type 0} → (K → K → Ordering) → List K → List (K × Option V) → K → Option V → Option V
rewound cmp made undo key found = if made_by_change cmp made key then None else over (was_in cmp undo key) found

abbrev pub kept_under : {K V : Type 0} → (K → K → Ordering) → BTreeMap K (Option V) → List K → List (K × Option V) → K
    → Option V
kept_under cmp base made undo key = rewound cmp made undo key (below cmp base key)

-- what was kept in each place, in the order of the keys
abbrev pub kept_places : {K V : Type 0} → (K → K → Ordering) → BTreeMap K (Option V) → List K → List (K × Option V)
    → List (Option V)
kept_places cmp base made undo = map (λ entry. rewound cmp made undo entry.0 entry.1) base.entries

-- each key whose place was changed still has it
abbrev pub HasRoom : {K V : Type 0} → (K → K → Ordering) → BTreeMap K (Option V) → List (K × Option V) → Type 0
HasRoom {K} cmp base undo = (key : K) → is_some (was_in cmp undo key) ≡ true → has_place cmp base key ≡ true

-- what a call leaves that puts this value, or none, under a key: what was kept stays, and so does what was seen if
-- memory ran out. It says whether something was seen there.
pub record PutsUnder {K V E : Type 0} (cmp : K → K → Ordering) (key : K) (value : Option V)
    (old_kept old_seen : K → Option V) (result : Result Bool E) (new_kept new_seen : K → Option V) : Type 0 where
  pub keeps : (other : K) → new_kept other ≡ old_kept other
  pub was : IfOk result (λ was. was ≡ is_some (old_seen key))
  pub puts : OnOk result ((other : K) → new_seen other ≡ (if eq_by_cmp cmp key other then value else old_seen other))
  pub err : OnErr result ((other : K) → new_seen other ≡ old_seen other)
