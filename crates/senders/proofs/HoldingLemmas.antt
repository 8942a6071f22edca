-- The slot that a connection has after a piece, up to where it is confirmed, and the slots that were in use before it.
use Rattle.std.proofs.Common.{◌≡◌, ℕ, suc, ◌<◌, max, length, List, [], ◌∷◌, ◌++◌, refl, sym, ◌∙◌, ap, subst, append-nil, append_assoc, arith}
use Rattle.std.specs.Prelude.{Bool, Contains, Option, Some, None}
use Rattle.tables_log.specs.Slots.{confirmed_at}
use Rattle.tables_log.specs.declared.slots.Slot.{Slot}
use Rattle.copy_both.specs.Ears.{ear_confirmed, ear_started}
use Rattle.publisher_desk.specs.SlotEvents.{AreConfirmed, confirmed_after, events_then, events_with, no_use, use_after, use_by, use_from, uses_from, uses_in}
use Rattle.publisher_desk.specs.SlotSights.{MayHaveSlot, hold}
use Rattle.publisher_desk.specs.Viewers.{HoldsFor, HoldsIf, hold_at, held_with}
use Rattle.publisher_desk.specs.declared.slot_event.Acquisition.{Acquisition}
use Rattle.publisher_desk.specs.declared.slot_event.Confirmation.{Confirmation}
use Rattle.publisher_desk.specs.declared.slot_event.SlotEvent.{SlotEvent}
use Rattle.publisher_desk.specs.declared.slot_event.SlotEvent.TheVariants.{Acquired, Confirmed}
use Rattle.publisher_desk.specs.declared.slot_sight.Hold.{Hold}
use Rattle.senders.specs.Listening.{AcquiresFor, HoldsStream, HoldsStreamOf}
use Rattle.senders.specs.Results.{StartsFrom, acquisition}
use Rattle.senders.specs.declared.listener.Listener.{Listener}
use Rattle.copy_both.proofs.RaisedSlots.{Raises}

-- ---- the slot

pub kept_start : (was now : Option (ℕ × ℕ)) → ((started : ℕ × ℕ) → was ≡ Some started → now ≡ Some started)
    → (was ≡ None → now ≡ None) → now ≡ was
kept_start None now stays none = none refl
kept_start (Some started) now stays none = stays started refl

same_hold : (started : ℕ × ℕ) (is_requested : Bool) (number found confirmed position : ℕ) (held : Option Hold)
    → position ≡ max found confirmed
    → held ≡ Some (hold (acquisition started.0 started.1 is_requested) number found position)
    → StartsFrom found started.1 is_requested → HoldsStreamOf started is_requested number confirmed held
same_hold started is_requested number found confirmed position held same is from = record {
  found = found;
  held_is = is
      ∙ ap (λ (n : ℕ). Some (hold (acquisition started.0 started.1 is_requested) number found n)) same;
  from = from;
}

greatest_of : (found confirmed now greatest : ℕ) → now ≡ max confirmed greatest
    → max (max found confirmed) greatest ≡ max found now
greatest_of found confirmed now greatest is = omega (arith, is)

only_greatest : (n : ℕ) → max 0 n ≡ n
only_greatest n = omega arith

-- what is confirmed for the slot that a connection has
confirmed_for : (events : List SlotEvent) (was : Option Hold) (mine : Hold) → MayHaveSlot events was → was ≡ Some mine
    → mine.confirmed ≡ confirmed_after events mine.acquisition.slot
confirmed_for events was mine has is = (subst (MayHaveSlot events) is has).confirmed_is

-- ---- a piece

module _ (before after : Listener) (old new : List Slot) (events later : List SlotEvent) (was now : Option Hold)
    (number : ℕ) (found : AreConfirmed (confirmed_after events) old) (known : AreConfirmed (confirmed_after later) new)
    (had : MayHaveSlot events was)
    (sent : ℕ) (raises : Raises sent (ear_started before.ear) (ear_started after.ear) old new
    (ear_confirmed before.ear) (ear_confirmed after.ear))
    (said : (started : ℕ × ℕ) → ear_started before.ear ≡ Some started → after.is_requested ≡ before.is_requested) where
  -- what it confirms then
  moved : (slot position : ℕ) → confirmed_after events slot ≡ position
      → confirmed_at new slot ≡ max (confirmed_at old slot) raises.greatest
      → confirmed_after later slot ≡ max position raises.greatest
  moved slot position is at =
      sym (known slot) ∙ (at ∙ ap (λ (n : ℕ). max n raises.greatest) (found slot ∙ is))

  runs_on : (started : ℕ × ℕ) → ear_started before.ear ≡ Some started → started.0 < length old
      → after.number ≡ before.number → now ≡ hold_at (confirmed_after later) was
      → HoldsStreamOf started before.is_requested before.number (ear_confirmed before.ear) was
      → HoldsStreamOf started after.is_requested after.number (ear_confirmed after.ear) now
  runs_on started is low same holds_is holds =
      let position : ℕ = max holds.found (ear_confirmed before.ear) in
      let mine : Hold = hold (acquisition started.0 started.1 before.is_requested) before.number holds.found position in
      let at : confirmed_after events started.0 ≡ position = sym (confirmed_for events was mine had holds.held_is) in
      let then : confirmed_after later started.0 ≡ max holds.found (ear_confirmed after.ear) =
      moved started.0 position at (raises.here started (raises.stays started is) low)
      ∙ greatest_of holds.found (ear_confirmed before.ear) (ear_confirmed after.ear) raises.greatest raises.after_is in
      subst (λ (n : ℕ). HoldsStreamOf started after.is_requested n (ear_confirmed after.ear) now) (sym same)
      (subst (λ (b : Bool). HoldsStreamOf started b before.number (ear_confirmed after.ear) now)
      (sym (said started is))
      (same_hold started before.is_requested before.number holds.found (ear_confirmed after.ear)
      (confirmed_after later started.0) now then (holds_is ∙ ap (hold_at (confirmed_after later)) holds.held_is)
      holds.from))

  stays_on : (start : Option (ℕ × ℕ)) → ear_started before.ear ≡ start
      → ((started : ℕ × ℕ) → start ≡ Some started → started.0 < length old)
      → after.number ≡ before.number → after.is_requested ≡ before.is_requested
      → now ≡ hold_at (confirmed_after later) was → HoldsStream start before.is_requested before.number (ear_confirmed before.ear) was
      → HoldsStream start after.is_requested after.number (ear_confirmed after.ear) now
  stays_on None is low same asked holds_is holds =
      (holds_is ∙ ap (hold_at (confirmed_after later)) holds.0, same ∙ holds.1, asked ∙ holds.2)
  stays_on (Some started) is low same asked holds_is holds = runs_on started is (low started refl) same holds_is holds

  starts_on : (one : Acquisition) → AcquiresFor before after number (Some one) → ear_confirmed before.ear ≡ 0
      → StartsFrom (confirmed_at old one.slot) one.start after.is_requested
      → now ≡ Some (hold one number (confirmed_after events one.slot) (confirmed_after later one.slot))
      → HoldsStreamOf (one.slot, one.start) after.is_requested after.number (ear_confirmed after.ear) now
  starts_on one acquires none from holds_is =
      let is_from = raises.begins acquires.0 (one.slot, one.start) acquires.1 in
      let then : confirmed_after later one.slot ≡ max (confirmed_after events one.slot) (ear_confirmed after.ear) =
      moved one.slot (confirmed_after events one.slot) refl
      (raises.here (one.slot, one.start) acquires.1 is_from.exists)
      ∙ ap (max (confirmed_after events one.slot))
      (sym (raises.after_is ∙ ap (λ (n : ℕ). max n raises.greatest) none ∙ only_greatest raises.greatest)) in
      same_hold (one.slot, one.start) after.is_requested after.number (confirmed_after events one.slot)
      (ear_confirmed after.ear) (confirmed_after later one.slot) now then
      (holds_is
      ∙ (ap (λ (b : Bool). Some (hold (acquisition one.slot one.start b) number (confirmed_after events one.slot)
      (confirmed_after later one.slot))) (sym acquires.2)
      ∙ ap (λ (n : ℕ). Some (hold (acquisition one.slot one.start after.is_requested) n (confirmed_after events one.slot)
      (confirmed_after later one.slot))) (sym acquires.3)))
      (subst (λ (n : ℕ). StartsFrom n one.start after.is_requested) (found one.slot) from)

  -- a piece keeps what the connection has, or it acquires the slot of the stream that starts
  pub holding_after : (acquired : Option Acquisition) → AcquiresFor before after number acquired
      → ((started : ℕ × ℕ) → ear_started before.ear ≡ Some started → started.0 < length old)
      → (ear_started before.ear ≡ None → ear_confirmed before.ear ≡ 0)
      → (ear_started before.ear ≡ None → (slot start : ℕ) → ear_started after.ear ≡ Some (slot, start)
      → StartsFrom (confirmed_at old slot) start after.is_requested)
      → now ≡ held_with acquired number (confirmed_after events) (confirmed_after later) was
      → HoldsStream (ear_started before.ear) before.is_requested before.number (ear_confirmed before.ear) was
      → HoldsStream (ear_started after.ear) after.is_requested after.number (ear_confirmed after.ear) now
  holding_after None acquires low none from holds_is holds =
      subst (λ (start : Option (ℕ × ℕ)).
      HoldsStream start after.is_requested after.number (ear_confirmed after.ear) now)
      (sym (kept_start (ear_started before.ear) (ear_started after.ear) raises.stays acquires.0))
      (stays_on (ear_started before.ear) refl low acquires.1 acquires.2 holds_is holds)
  holding_after (Some one) acquires low none from holds_is holds =
      subst (λ (start : Option (ℕ × ℕ)).
      HoldsStream start after.is_requested after.number (ear_confirmed after.ear) now) (sym acquires.1)
      (starts_on one acquires (none acquires.0) (from acquires.0 one.slot one.start acquires.1) holds_is)

-- it has the slot of the stream that was started
still_has : (stream : ℕ × ℕ) (known : ℕ → ℕ) (was now : Option Hold) → now ≡ hold_at known was → HoldsFor was stream
    → HoldsFor now stream
still_has stream known was now is has = record {
  mine = hold has.mine.acquisition has.mine.number has.mine.found (known has.mine.acquisition.slot);
  held_is = is ∙ ap (hold_at known) has.held_is;
  slot_is = has.slot_is;
  start_is = has.start_is;
}

still_has_if : (stream : Option (ℕ × ℕ)) (known : ℕ → ℕ) (was now : Option Hold) → now ≡ hold_at known was
    → HoldsIf was stream → HoldsIf now stream
still_has_if None known was now is has = tt
still_has_if (Some stream) known was now is has = still_has stream known was now is has

pub mine_after : (before after : Listener) (was now : Option Hold) (number : ℕ) (found known : ℕ → ℕ)
    (acquired : Option Acquisition) → AcquiresFor before after number acquired
    → ((started : ℕ × ℕ) → ear_started before.ear ≡ Some started → ear_started after.ear ≡ Some started)
    → now ≡ held_with acquired number found known was → HoldsIf was (ear_started before.ear)
    → HoldsIf now (ear_started after.ear)
mine_after before after was now number found known None acquires stays holds_is has =
    subst (HoldsIf now) (sym (kept_start (ear_started before.ear) (ear_started after.ear) stays acquires.0))
    (still_has_if (ear_started before.ear) known was now holds_is has)
mine_after before after was now number found known (Some one) acquires stays holds_is has =
    subst (HoldsIf now) (sym acquires.1) (record {
      mine = hold one number (found one.slot) (known one.slot);
      held_is = holds_is;
      slot_is = refl;
      start_is = refl;
    })

-- ---- the slots in use

-- the slots in use after all events are among those of its beginnings
pub uses_last : (used : ℕ → Bool) (events more : List SlotEvent)
    → Contains (uses_from used (events ++ more)) (use_from used events)
uses_last used [] [] = (0, omega arith, refl)
uses_last used [] (event ∷ more) = (0, omega arith, refl)
uses_last used (event ∷ events) more =
    let rest = uses_last (use_by event used) events more in
    let low = rest.1 in (suc rest.0, omega (arith, low), rest.2)

-- what a use adds to the events
abbrev added : Option Acquisition → Option Confirmation → List SlotEvent
added None None = []
added None (Some one) = Confirmed one ∷ []
added (Some it) None = Acquired it ∷ []
added (Some it) (Some one) = Acquired it ∷ Confirmed one ∷ []

adds_both : (acquired : Option Acquisition) (confirmed : Option Confirmation) (events : List SlotEvent)
    → events_then confirmed (events_with acquired events) ≡ events ++ added acquired confirmed
adds_both None None events = sym (append-nil events)
adds_both None (Some one) events = refl
adds_both (Some it) None events = refl
adds_both (Some it) (Some one) events = append_assoc events (Acquired it ∷ []) (Confirmed one ∷ [])

pub use_among : (acquired : Option Acquisition) (confirmed : Option Confirmation) (events now : List SlotEvent)
    → now ≡ events_then confirmed (events_with acquired events) → Contains (uses_in now) (use_after events)
use_among acquired confirmed events now same =
    subst (λ (list : List SlotEvent). Contains (uses_in list) (use_after events))
    (sym (same ∙ adds_both acquired confirmed events)) (uses_last no_use events (added acquired confirmed))
