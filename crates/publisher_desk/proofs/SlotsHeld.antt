-- Which views have a slot, and what an event leaves of what they know.
use Rattle.std.proofs.Common.{◌≡◌, ◌≢◌, ℕ, zero, suc, ◌+◌, ◌≤◌, List, [], ◌∷◌, ◌++◌, set, refl, sym, ap, ◌∙◌, arith, append_assoc, append-nil, cond, eq-eqb, ne_eqb}
use Rattle.std.specs.Prelude.{Option, Some, None}
use mathlib.Core.Option.{some, some-injective, some-ne-none}
use lib.ListN.{get_elem?}
use Rattle.publisher_desk.specs.SlotEvents.{slot_in}
use Rattle.publisher_desk.specs.SlotSights.{BeginsWith, MayHaveSlot, AreKnown, has_slot, held_in, held_by, shown_in, rest_in, only_in}
use Rattle.publisher_desk.specs.declared.slot_event.Advance.{Advance}
use Rattle.publisher_desk.specs.declared.slot_event.SlotEvent.{SlotEvent}
use Rattle.publisher_desk.specs.declared.slot_event.SlotEvent.TheVariants.{Acquired, Advanced, Confirmed, Released}
use Rattle.publisher_desk.specs.declared.slot_sight.Hold.{Hold}
use Rattle.publisher_desk.specs.declared.slot_sight.SlotSight.{SlotSight}
use Rattle.publisher_desk.specs.declared.slot_sight.SlotView.{SlotView}
use Rattle.publisher_desk.proofs.EventLemmas.{advanced_stays, stays_held}

-- ---- which views have a slot

pub has_here : (slot : ℕ) (held : Hold) → held.acquisition.slot ≡ slot → has_slot slot (Some held) ≡ 1
has_here slot held same = ap (λ b. cond b 1 0) (eq-eqb held.acquisition.slot slot same)

pub has_else : (slot : ℕ) (held : Hold) → held.acquisition.slot ≢ slot → has_slot slot (Some held) ≡ 0
has_else slot held apart = ap (λ b. cond b 1 0) (ne_eqb held.acquisition.slot slot apart)

pub held_in_append : (slot : ℕ) (sights more : List SlotSight)
    → held_in slot (sights ++ more) ≡ held_in slot sights + held_in slot more
held_in_append slot [] more = omega arith
held_in_append slot (one ∷ sights) more = let rest = held_in_append slot sights more in omega (arith, rest)

pub held_append : (slot : ℕ) (views more : List SlotView)
    → held_by slot (views ++ more) ≡ held_by slot views + held_by slot more
held_append slot [] more = omega arith
held_append slot (view ∷ views) more = let rest = held_append slot views more in omega (arith, rest)

pub held_set : (slot : ℕ) (views : List SlotView) (by : ℕ) (v w : SlotView) → get_elem? views by ≡ some v
    → held_by slot (set views by w) + held_in slot v.sights ≡ held_by slot views + held_in slot w.sights
held_set slot [] by v w at = absurd (some-ne-none v (sym at))
held_set slot (view ∷ views) zero v w at =
    let same = ap (λ (u : SlotView). held_in slot u.sights) (some-injective view v at) in omega (arith, same)
held_set slot (view ∷ views) (suc by) v w at = let rest = held_set slot views by v w at in omega (arith, rest)

pub held_one : (slot : ℕ) (views : List SlotView) (by : ℕ) (v : SlotView) → get_elem? views by ≡ some v
    → held_in slot v.sights ≤ held_by slot views
held_one slot [] by v at = absurd (some-ne-none v (sym at))
held_one slot (view ∷ views) zero v at =
    let same = ap (λ (u : SlotView). held_in slot u.sights) (some-injective view v at) in omega (arith, same)
held_one slot (view ∷ views) (suc by) v at = let rest = held_one slot views by v at in omega (arith, rest)

-- two views have no slot in common
pub held_two : (slot : ℕ) (views : List SlotView) (i j : ℕ) (v w : SlotView) → i ≢ j → get_elem? views i ≡ some v
    → get_elem? views j ≡ some w → held_in slot v.sights + held_in slot w.sights ≤ held_by slot views
held_two slot [] i j v w apart at there = absurd (some-ne-none v (sym at))
held_two slot (view ∷ views) zero zero v w apart at there = absurd (apart refl)
held_two slot (view ∷ views) zero (suc j) v w apart at there =
    let same = ap (λ (u : SlotView). held_in slot u.sights) (some-injective view v at) in
    let rest = held_one slot views j w there in omega (arith, same, rest)
held_two slot (view ∷ views) (suc i) zero v w apart at there =
    let same = ap (λ (u : SlotView). held_in slot u.sights) (some-injective view w there) in
    let rest = held_one slot views i v at in omega (arith, same, rest)
held_two slot (view ∷ views) (suc i) (suc j) v w apart at there =
    let rest = held_two slot views i j v w (λ same. apart (ap suc same)) at there in omega (arith, rest)

-- ---- beginnings

pub begins_longer : (all more events : List SlotEvent) → BeginsWith all events → BeginsWith (all ++ more) events
begins_longer all more events begins =
    (begins.0 ++ more, ap (λ (list : List SlotEvent). list ++ more) begins.1 ∙ append_assoc events begins.0 more)

pub begins_whole : (all events : List SlotEvent) → events ≡ all → BeginsWith all events
begins_whole all events same = ([], sym same ∙ sym (append-nil events))

-- None that hold a slot so often have that of the event, unless a sender advances, which leaves slots to their streams.
abbrev pub Spares : SlotEvent → (ℕ → ℕ) → Type 0
Spares (Acquired one) count = count one.slot ≡ 0
Spares (Advanced one) count = Unit {0}
Spares (Confirmed one) count = count one.slot ≡ 0
Spares (Released one) count = count one.slot ≡ 0

-- so it is of fewer
spares_fewer : (event : SlotEvent) (more fewer : ℕ → ℕ) → ((slot : ℕ) → fewer slot ≤ more slot) → Spares event more
    → Spares event fewer
spares_fewer (Acquired one) more fewer low none = let here = low one.slot in omega (arith, here, none)
spares_fewer (Advanced one) more fewer low none = tt
spares_fewer (Confirmed one) more fewer low none = let here = low one.slot in omega (arith, here, none)
spares_fewer (Released one) more fewer low none = let here = low one.slot in omega (arith, here, none)

-- an event of another slot leaves it
apart_stay : (all : List SlotEvent) (event : SlotEvent) (held : Option Hold) → has_slot (slot_in event) held ≡ 0
    → MayHaveSlot all held → MayHaveSlot (all ++ event ∷ []) held
apart_stay all event None none has = tt
apart_stay all event (Some held) none has = stays_held all event held has
    (λ same. let one = has_here (slot_in event) held (sym same) in omega (arith, one, none))

pub advanced_stay : (all : List SlotEvent) (one : Advance) (held : Option Hold) → MayHaveSlot all held
    → MayHaveSlot (all ++ Advanced one ∷ []) held
advanced_stay all one None has = tt
advanced_stay all one (Some held) has = advanced_stays all one held has

may_stay : (all : List SlotEvent) (event : SlotEvent) (held : Option Hold) → Spares event (λ slot. has_slot slot held)
    → MayHaveSlot all held → MayHaveSlot (all ++ event ∷ []) held
may_stay all (Acquired one) held none has = apart_stay all (Acquired one) held none has
may_stay all (Advanced one) held none has = advanced_stay all one held has
may_stay all (Confirmed one) held none has = apart_stay all (Confirmed one) held none has
may_stay all (Released one) held none has = apart_stay all (Released one) held none has

pub known_longer : (all : List SlotEvent) (event : SlotEvent) (sights : List SlotSight)
    → Spares event (λ slot. held_in slot sights) → AreKnown all sights → AreKnown (all ++ event ∷ []) sights
known_longer all event [] none known = tt
known_longer all event (one ∷ sights) none known = (
  begins_longer all (event ∷ []) one.events known.0,
  may_stay all event one.held (spares_fewer event (λ slot. held_in slot (one ∷ sights))
      (λ slot. has_slot slot one.held) (λ slot. omega arith) none) known.1,
  known_longer all event sights (spares_fewer event (λ slot. held_in slot (one ∷ sights))
      (λ slot. held_in slot sights) (λ slot. omega arith) none) known.2,
)

pub known_append : (all : List SlotEvent) (sights more : List SlotSight) → AreKnown all sights → AreKnown all more
    → AreKnown all (sights ++ more)
known_append all [] more known other = other
known_append all (one ∷ sights) more known other = (known.0, known.1, known_append all sights more known.2 other)

pub shown_known : (log all : List SlotEvent) (sights : List SlotSight) → all ≡ log → AreKnown log sights
    → AreKnown log (shown_in all sights)
shown_known log all [] same known = tt
shown_known log all (one ∷ sights) same known = (begins_whole log all same, known.1, known.2)

pub shown_held : (slot : ℕ) (all : List SlotEvent) (sights : List SlotSight)
    → held_in slot (shown_in all sights) ≡ held_in slot sights
shown_held slot all [] = refl
shown_held slot all (one ∷ sights) = refl

pub rest_known : (all : List SlotEvent) (sights : List SlotSight) → AreKnown all sights → AreKnown all (rest_in sights)
rest_known all [] known = tt
rest_known all (one ∷ sights) known = known.2

pub only_known : (all : List SlotEvent) (sights : List SlotSight) → AreKnown all sights → AreKnown all (only_in sights)
only_known all [] known = tt
only_known all (one ∷ sights) known = (known.0, known.1, tt)

pub cut_held : (slot : ℕ) (sights : List SlotSight)
    → held_in slot sights ≡ held_in slot (only_in sights) + held_in slot (rest_in sights)
cut_held slot [] = refl
cut_held slot (one ∷ sights) = omega arith
