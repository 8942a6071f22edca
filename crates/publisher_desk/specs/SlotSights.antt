-- What tokens know of what happens to slots: which events have come, and which token has a slot.
use Rattle.std.specs.Prelude.{◌≡◌, ℕ, ◌+◌, ◌<◌, ◌≤◌, ◌==◌, Bool, true, false, if◌then◌else◌, List, [], ◌∷◌, ◌++◌, Option, Some, None}
use mathlib.Core.Option.{some}
use lib.ListN.{get_elem?}
use Rattle.publisher_desk.specs.Sights.{times}
use Rattle.publisher_desk.specs.SlotEvents.{KeepSlot, acquisitions, confirmed_after, use_after}
use Rattle.publisher_desk.specs.declared.slot_event.Acquisition.{Acquisition}
use Rattle.publisher_desk.specs.declared.slot_event.SlotEvent.{SlotEvent}
use Rattle.publisher_desk.specs.declared.slot_event.SlotEvent.TheVariants.{Acquired, Advanced, Confirmed, Released}
use Rattle.publisher_desk.specs.declared.slot_sight.Hold.{Hold}
use Rattle.publisher_desk.specs.declared.slot_sight.SlotSight.{SlotSight}
use Rattle.publisher_desk.specs.declared.slot_sight.SlotView.{SlotView}

abbrev pub slot_sight : List SlotEvent → Option Hold → List ℕ → SlotSight
slot_sight events held own = record { events = events; held = held; own = own }

abbrev pub slot_view : Bool → List SlotEvent → List SlotSight → SlotView
slot_view keeps all sights = record { keeps = keeps; all = all; sights = sights }

abbrev pub hold : Acquisition → ℕ → ℕ → ℕ → Hold
hold acquisition number found confirmed =
    record { acquisition = acquisition; number = number; found = found; confirmed = confirmed }

-- All events begin with these.
abbrev pub BeginsWith : List SlotEvent → List SlotEvent → Type 0
BeginsWith all events = (rest : List SlotEvent) × (all ≡ events ++ rest)

-- The stream acquired its slot in these events while it was free, and no event after that acquires or releases it. Up
-- to where it was confirmed then, and is after all events, is known.
pub record HasSlot (events : List SlotEvent) (held : Hold) : Type 0 where
  pub before : List SlotEvent
  pub after : List SlotEvent
  pub events_are : events ≡ before ++ Acquired held.acquisition ∷ after
  pub number_is : held.number ≡ acquisitions before + 1
  pub was_free : use_after before held.acquisition.slot ≡ false
  pub keep : KeepSlot held.acquisition.slot after
  pub found_is : held.found ≡ confirmed_after before held.acquisition.slot
  pub confirmed_is : held.confirmed ≡ confirmed_after events held.acquisition.slot

abbrev pub MayHaveSlot : List SlotEvent → Option Hold → Type 0
MayHaveSlot events None = Unit {0}
MayHaveSlot events (Some held) = HasSlot events held

-- The sights have seen first events, and have the slots that they hold.
abbrev pub AreKnown : List SlotEvent → List SlotSight → Type 0
AreKnown all [] = Unit {0}
AreKnown all (one ∷ sights) = BeginsWith all one.events × MayHaveSlot all one.held × AreKnown all sights

-- how many have this slot
abbrev pub has_slot : ℕ → Option Hold → ℕ
has_slot slot None = 0
has_slot slot (Some held) = if held.acquisition.slot == slot then 1 else 0

abbrev pub held_in : ℕ → List SlotSight → ℕ
held_in slot [] = 0
held_in slot (one ∷ sights) = has_slot slot one.held + held_in slot sights

abbrev pub held_by : ℕ → List SlotView → ℕ
held_by slot [] = 0
held_by slot (view ∷ views) = held_in slot view.sights + held_by slot views

-- how often the number is among those of the acquisitions of these sights
abbrev pub owned_in : ℕ → List SlotSight → ℕ
owned_in n [] = 0
owned_in n (one ∷ sights) = times n one.own + owned_in n sights

abbrev pub owned_by : ℕ → List SlotView → ℕ
owned_by n [] = 0
owned_by n (view ∷ views) = owned_in n view.sights + owned_by n views

abbrev pub FitsEvents : ℕ → List SlotEvent → ℕ → SlotView → Type 0
FitsEvents keeper all by view = (view.keeps ≡ true → (by ≡ keeper) × (view.all ≡ all)) × AreKnown all view.sights

-- One view at most has all events, and each sight has seen first ones of them. No slot is held twice, or while it is
-- not in use. No acquisition belongs to two sights, or to any before it has come.
pub record AreSlotsKept (views : List SlotView) : Type 0 where
  pub keeper : ℕ
  pub all : List SlotEvent
  pub each : (by : ℕ) (view : SlotView) → get_elem? views by ≡ some view → FitsEvents keeper all by view
  pub once : (slot : ℕ) → held_by slot views ≤ 1
  pub free : (slot : ℕ) → use_after all slot ≡ false → held_by slot views ≡ 0
  pub single : (n : ℕ) → owned_by n views ≤ 1
  pub low : (n : ℕ) → acquisitions all < n → owned_by n views ≡ 0

-- ---- steps

abbrev pub begun : SlotView → SlotView
begun view = slot_view view.keeps view.all (slot_sight [] None [] ∷ view.sights)

abbrev pub shown_in : List SlotEvent → List SlotSight → List SlotSight
shown_in all [] = []
shown_in all (one ∷ sights) = slot_sight all one.held one.own ∷ sights

abbrev pub shown : SlotView → SlotView
shown view = slot_view view.keeps view.all (shown_in view.all view.sights)

-- the slot that a connection holds, confirmed up to here
abbrev pub hold_with : ℕ → Option Hold → Option Hold
hold_with position None = None
hold_with position (Some mine) = Some (hold mine.acquisition mine.number mine.found position)

-- what the connection of an event holds after it, if these events came before, and it held this
abbrev pub held_after : SlotEvent → List SlotEvent → Option Hold → Option Hold
held_after (Acquired one) all held =
    Some (hold one (acquisitions all + 1) (confirmed_after all one.slot) (confirmed_after all one.slot))
held_after (Advanced one) all held = held
held_after (Confirmed one) all held = hold_with one.position held
held_after (Released one) all held = None

-- the numbers of the acquisitions of its connection
abbrev pub own_after : SlotEvent → ℕ → List ℕ → List ℕ
own_after (Acquired one) count own = own ++ (count + 1) ∷ []
own_after (Advanced one) count own = own
own_after (Confirmed one) count own = own
own_after (Released one) count own = own

abbrev pub added_in : List SlotEvent → SlotEvent → List SlotSight → List SlotSight
added_in all event [] = []
added_in all event (one ∷ sights) =
    slot_sight (all ++ event ∷ []) (held_after event all one.held) (own_after event (acquisitions all) one.own) ∷ sights

abbrev pub added : SlotEvent → SlotView → SlotView
added event view = slot_view view.keeps (view.all ++ event ∷ []) (added_in view.all event view.sights)

-- the connection has this slot
abbrev pub HasIt : Option Hold → ℕ → Type 0
HasIt held slot = (mine : Hold) × (held ≡ Some mine) × (mine.acquisition.slot ≡ slot)

-- A slot is acquired only if it is free, and confirmed and released only by the connection that has it.
abbrev pub MayHappen : SlotEvent → List SlotEvent → Option Hold → Type 0
MayHappen (Acquired one) all held = use_after all one.slot ≡ false
MayHappen (Advanced one) all held = Unit {0}
MayHappen (Confirmed one) all held = HasIt held one.slot
MayHappen (Released one) all held = HasIt held one.slot

-- ---- cutting and joining

abbrev pub first_in : List SlotSight → SlotSight
first_in [] = slot_sight [] None []
first_in (one ∷ sights) = one

abbrev pub rest_in : List SlotSight → List SlotSight
rest_in [] = []
rest_in (one ∷ sights) = sights

abbrev pub only_in : List SlotSight → List SlotSight
only_in [] = []
only_in (one ∷ sights) = one ∷ []

abbrev pub holder : SlotSight → SlotView
holder one = slot_view false [] (one ∷ [])

abbrev pub left : SlotView → SlotView
left view = slot_view view.keeps view.all (rest_in view.sights)

abbrev pub given : SlotView → SlotView
given view = slot_view false [] (only_in view.sights)

abbrev pub joined : SlotView → SlotView → SlotView
joined view other = slot_view view.keeps view.all (other.sights ++ view.sights)

abbrev pub nobody : SlotView
nobody = slot_view false [] []

abbrev pub slot_sight_of : Option SlotSight → SlotSight
slot_sight_of None = slot_sight [] None []
slot_sight_of (Some one) = one

-- ---- connections

-- The number of the acquisition of the slot that it has is among these.
abbrev pub OwnsHeld : Option Hold → List ℕ → Type 0
OwnsHeld None own = Unit {0}
OwnsHeld (Some held) own = 1 ≤ times held.number own

-- The connection has seen all events, and holds what it held.
pub record SeesEvents (all : List SlotEvent) (old new : SlotSight) : Type 0 where
  pub begins : BeginsWith all old.events
  pub kept : MayHaveSlot all old.held
  pub seen : new.events ≡ all
  pub held : new.held ≡ old.held
  pub own : new.own ≡ old.own

-- It has seen all events and then its own.
pub record AddsEvent (all : List SlotEvent) (event : SlotEvent) (old new : SlotSight) : Type 0 where
  pub begins : BeginsWith all old.events
  pub kept : MayHaveSlot all old.held
  pub may : MayHappen event all old.held
  pub seen : new.events ≡ all ++ event ∷ []
  pub held : new.held ≡ held_after event all old.held
  pub own : new.own ≡ own_after event (acquisitions all) old.own
