-- The numbers of acquisitions, each of which is one connection's own.
use Rattle.std.proofs.Common.{◌≡◌, ℕ, zero, suc, ◌+◌, ◌<◌, ◌≤◌, List, [], ◌∷◌, ◌++◌, set, refl, sym, ap, arith}
use mathlib.Core.Option.{some, some-injective, some-ne-none}
use mathlib.Core.Logic.{dite}
use native.Mathlib.Decide.{ℕ_discrete}
use lib.ListN.{get_elem?}
use Rattle.publisher_desk.specs.SlotEvents.{acquisitions}
use Rattle.publisher_desk.specs.SlotSights.{added_in, given, joined, left, nobody, only_in, owned_by, owned_in, rest_in, shown_in}
use Rattle.publisher_desk.specs.declared.slot_event.Acquisition.{Acquisition}
use Rattle.publisher_desk.specs.declared.slot_event.Advance.{Advance}
use Rattle.publisher_desk.specs.declared.slot_event.Confirmation.{Confirmation}
use Rattle.publisher_desk.specs.declared.slot_event.Release.{Release}
use Rattle.publisher_desk.specs.declared.slot_event.SlotEvent.{SlotEvent}
use Rattle.publisher_desk.specs.declared.slot_event.SlotEvent.TheVariants.{Acquired, Advanced, Confirmed, Released}
use Rattle.publisher_desk.specs.declared.slot_sight.SlotSight.{SlotSight}
use Rattle.publisher_desk.specs.declared.slot_sight.SlotView.{SlotView}
use Rattle.publisher_desk.proofs.KeptLemmas.{only, only_else, only_here, times_append}

-- ---- how many streams have acquired slots

acquisitions_append : (events more : List SlotEvent)
    → acquisitions (events ++ more) ≡ acquisitions events + acquisitions more
acquisitions_append [] more = omega arith
acquisitions_append (Acquired one ∷ events) more = let rest = acquisitions_append events more in omega (arith, rest)
acquisitions_append (Advanced one ∷ events) more = acquisitions_append events more
acquisitions_append (Confirmed one ∷ events) more = acquisitions_append events more
acquisitions_append (Released one ∷ events) more = acquisitions_append events more

pub acquired_count : (events : List SlotEvent) (one : Acquisition)
    → acquisitions (events ++ Acquired one ∷ []) ≡ acquisitions events + 1
acquired_count events one = acquisitions_append events (Acquired one ∷ [])

pub advanced_count : (events : List SlotEvent) (one : Advance)
    → acquisitions (events ++ Advanced one ∷ []) ≡ acquisitions events
advanced_count events one = let all = acquisitions_append events (Advanced one ∷ []) in omega (arith, all)

pub confirmed_count : (events : List SlotEvent) (one : Confirmation)
    → acquisitions (events ++ Confirmed one ∷ []) ≡ acquisitions events
confirmed_count events one = let all = acquisitions_append events (Confirmed one ∷ []) in omega (arith, all)

pub released_count : (events : List SlotEvent) (one : Release)
    → acquisitions (events ++ Released one ∷ []) ≡ acquisitions events
released_count events one = let all = acquisitions_append events (Released one ∷ []) in omega (arith, all)

-- ---- whose they are

owned_in_append : (n : ℕ) (sights more : List SlotSight)
    → owned_in n (sights ++ more) ≡ owned_in n sights + owned_in n more
owned_in_append n [] more = omega arith
owned_in_append n (one ∷ sights) more = let rest = owned_in_append n sights more in omega (arith, rest)

owned_append : (n : ℕ) (views more : List SlotView) → owned_by n (views ++ more) ≡ owned_by n views + owned_by n more
owned_append n [] more = omega arith
owned_append n (view ∷ views) more = let rest = owned_append n views more in omega (arith, rest)

pub owned_set : (n : ℕ) (views : List SlotView) (by : ℕ) (v w : SlotView) → get_elem? views by ≡ some v
    → owned_by n (set views by w) + owned_in n v.sights ≡ owned_by n views + owned_in n w.sights
owned_set n [] by v w at = absurd (some-ne-none v (sym at))
owned_set n (view ∷ views) zero v w at =
    let same = ap (λ (u : SlotView). owned_in n u.sights) (some-injective view v at) in omega (arith, same)
owned_set n (view ∷ views) (suc by) v w at = let rest = owned_set n views by v w at in omega (arith, rest)

pub owned_one : (n : ℕ) (views : List SlotView) (by : ℕ) (v : SlotView) → get_elem? views by ≡ some v
    → owned_in n v.sights ≤ owned_by n views
owned_one n [] by v at = absurd (some-ne-none v (sym at))
owned_one n (view ∷ views) zero v at =
    let same = ap (λ (u : SlotView). owned_in n u.sights) (some-injective view v at) in omega (arith, same)
owned_one n (view ∷ views) (suc by) v at = let rest = owned_one n views by v at in omega (arith, rest)

-- ---- steps

pub shown_owned : (n : ℕ) (all : List SlotEvent) (sights : List SlotSight)
    → owned_in n (shown_in all sights) ≡ owned_in n sights
shown_owned n all [] = refl
shown_owned n all (one ∷ sights) = refl

-- whether the event is the acquisition of this number
abbrev pub newly : ℕ → SlotEvent → ℕ → ℕ
newly n (Acquired one) count = only (count + 1) n
newly n (Advanced one) count = 0
newly n (Confirmed one) count = 0
newly n (Released one) count = 0

pub added_owned : (n : ℕ) (all : List SlotEvent) (event : SlotEvent) (sights : List SlotSight)
    → owned_in n (added_in all event sights) ≤ owned_in n sights + newly n event (acquisitions all)
added_owned n all event [] = omega arith
added_owned n all (Acquired one) (first ∷ sights) =
    let more = times_append n first.own ((acquisitions all + 1) ∷ []) in omega (arith, more)
added_owned n all (Advanced one) (first ∷ sights) = omega arith
added_owned n all (Confirmed one) (first ∷ sights) = omega arith
added_owned n all (Released one) (first ∷ sights) = omega arith

-- no acquisition of this number has come before
pub newly_single : (n : ℕ) (event : SlotEvent) (count owned : ℕ) → (count < n → owned ≡ 0) → owned ≤ 1
    → owned + newly n event count ≤ 1
newly_single n (Acquired one) count owned low single = dite (ℕ_discrete (count + 1) n)
    (λ here. let new = only_here (count + 1) n here in let none = low (omega (arith, here)) in omega (arith, new, none))
    (λ apart. let old = only_else (count + 1) n apart in omega (arith, old, single))
newly_single n (Advanced one) count owned low single = omega (arith, single)
newly_single n (Confirmed one) count owned low single = omega (arith, single)
newly_single n (Released one) count owned low single = omega (arith, single)

-- nor has it come now
pub newly_low : (n : ℕ) (event : SlotEvent) (all : List SlotEvent) (owned : ℕ)
    → (acquisitions all < n → owned ≡ 0) → acquisitions (all ++ event ∷ []) < n
    → owned + newly n event (acquisitions all) ≡ 0
newly_low n (Acquired one) all owned low above =
    let count = acquired_count all one in
    let old = only_else (acquisitions all + 1) n (λ here. omega (arith, here, above, count)) in
    let none = low (omega (arith, above, count)) in omega (arith, old, none)
newly_low n (Advanced one) all owned low above =
    let count = advanced_count all one in let none = low (omega (arith, above, count)) in omega (arith, none)
newly_low n (Confirmed one) all owned low above =
    let count = confirmed_count all one in let none = low (omega (arith, above, count)) in omega (arith, none)
newly_low n (Released one) all owned low above =
    let count = released_count all one in let none = low (omega (arith, above, count)) in omega (arith, none)

-- ---- cutting and joining

cut_owned : (n : ℕ) (sights : List SlotSight)
    → owned_in n sights ≡ owned_in n (only_in sights) + owned_in n (rest_in sights)
cut_owned n [] = refl
cut_owned n (one ∷ sights) = omega arith

pub cuts_owned : (n : ℕ) (views : List SlotView) (by : ℕ) (v : SlotView) → get_elem? views by ≡ some v
    → owned_by n (set views by (left v) ++ given v ∷ []) ≡ owned_by n views
cuts_owned n views by v at =
    let change = owned_set n views by v (left v) at in
    let more = owned_append n (set views by (left v)) (given v ∷ []) in
    let cut = cut_owned n v.sights in omega (arith, change, more, cut)

pub joins_owned : (n : ℕ) (views : List SlotView) (by other : ℕ) (v w : SlotView) → get_elem? views by ≡ some v
    → get_elem? (set views by (joined v w)) other ≡ some w
    → owned_by n (set (set views by (joined v w)) other nobody) ≡ owned_by n views
joins_owned n views by other v w at there =
    let change = owned_set n views by v (joined v w) at in
    let spent = owned_set n (set views by (joined v w)) other w nobody there in
    let sum = owned_in_append n w.sights v.sights in omega (arith, change, spent, sum)
