-- What one more event changes: which slots are in use, and up to where they are confirmed.
use Rattle.std.proofs.Common.{◌≡◌, ◌≢◌, ℕ, List, [], ◌∷◌, ◌++◌, ◌+◌, Bool, true, false, max, refl, sym, ap, subst, ◌∙◌, cond, eq-eqb, ne_eqb, append-nil, append_assoc}
use Rattle.std.specs.Prelude.{Option}
use Rattle.tables_log.specs.Lsn.{end_lsn_of}
use Rattle.tables_log.specs.Slots.{with_use}
use Rattle.publisher_desk.specs.SlotEvents.{AreInTurn, AreWithinReach, IsInTurn, IsWithinReach, KeepSlot, KeepsSlot, acquisitions, advanced_after, advanced_by, advanced_from, begun_after, begun_by, begun_from, confirmed_after, no_position, no_use, position_by, positions_from, over_after, over_by, over_from, slot_in, use_after, use_by, use_from}
use Rattle.publisher_desk.specs.SlotSights.{HasIt, HasSlot, MayHaveSlot, hold}
use Rattle.publisher_desk.specs.declared.slot_event.Acquisition.{Acquisition}
use Rattle.publisher_desk.specs.declared.slot_event.Advance.{Advance}
use Rattle.publisher_desk.specs.declared.slot_event.Confirmation.{Confirmation}
use Rattle.publisher_desk.specs.declared.slot_event.SlotEvent.{SlotEvent}
use Rattle.publisher_desk.specs.declared.slot_event.SlotEvent.TheVariants.{Acquired, Advanced, Confirmed, Released}
use Rattle.publisher_desk.specs.declared.slot_sight.Hold.{Hold}

-- ---- which slots are in use

use_push : (used : ℕ → Bool) (events : List SlotEvent) (event : SlotEvent)
    → use_from used (events ++ event ∷ []) ≡ use_by event (use_from used events)
use_push used [] event = refl
use_push used (first ∷ events) event = use_push (use_by first used) events event

pub use_more : (events : List SlotEvent) (event : SlotEvent)
    → use_after (events ++ event ∷ []) ≡ use_by event (use_after events)
use_more events event = use_push no_use events event

-- ---- up to where they are confirmed

positions_push : (known : ℕ → ℕ) (events : List SlotEvent) (event : SlotEvent)
    → positions_from known (events ++ event ∷ []) ≡ position_by event (positions_from known events)
positions_push known [] event = refl
positions_push known (first ∷ events) event = positions_push (position_by first known) events event

pub confirmed_more : (events : List SlotEvent) (event : SlotEvent)
    → confirmed_after (events ++ event ∷ []) ≡ position_by event (confirmed_after events)
confirmed_more events event = positions_push no_position events event

position_here : (one : Confirmation) (known : ℕ → ℕ) (slot : ℕ) → slot ≡ one.slot
    → position_by (Confirmed one) known slot ≡ one.position
position_here one known slot here = ap (λ b. cond b one.position (known slot)) (eq-eqb slot one.slot here)

position_else : (event : SlotEvent) (known : ℕ → ℕ) (slot : ℕ) → slot_in event ≢ slot
    → position_by event known slot ≡ known slot
position_else (Acquired one) known slot apart = refl
position_else (Advanced one) known slot apart = refl
position_else (Confirmed one) known slot apart =
    ap (λ b. cond b one.position (known slot)) (ne_eqb slot one.slot (λ same. apart (sym same)))
position_else (Released one) known slot apart = refl

pub confirmed_here : (events : List SlotEvent) (one : Confirmation) (slot : ℕ) → slot ≡ one.slot
    → confirmed_after (events ++ Confirmed one ∷ []) slot ≡ one.position
confirmed_here events one slot here =
    ap (λ (known : ℕ → ℕ). known slot) (confirmed_more events (Confirmed one))
    ∙ position_here one (confirmed_after events) slot here

pub confirmed_else : (events : List SlotEvent) (event : SlotEvent) (slot : ℕ) → slot_in event ≢ slot
    → confirmed_after (events ++ event ∷ []) slot ≡ confirmed_after events slot
confirmed_else events event slot apart =
    ap (λ (known : ℕ → ℕ). known slot) (confirmed_more events event)
    ∙ position_else event (confirmed_after events) slot apart

-- ---- up to where clients were sent the log

advances_push : (known : ℕ → ℕ) (events : List SlotEvent) (event : SlotEvent)
    → advanced_from known (events ++ event ∷ []) ≡ advanced_by event (advanced_from known events)
advances_push known [] event = refl
advances_push known (first ∷ events) event = advances_push (advanced_by first known) events event

pub advanced_more : (events : List SlotEvent) (event : SlotEvent)
    → advanced_after (events ++ event ∷ []) ≡ advanced_by event (advanced_after events)
advanced_more events event = advances_push no_position events event

-- ---- the order of events

pub turn_push : (used : ℕ → Bool) (known : ℕ → ℕ) (events : List SlotEvent) (event : SlotEvent)
    → AreInTurn used known events → IsInTurn (use_from used events) (positions_from known events) event
    → AreInTurn used known (events ++ event ∷ [])
turn_push used known [] event turns is = (is, tt)
turn_push used known (first ∷ events) event turns is =
    (turns.0, turn_push (use_by first used) (position_by first known) events event turns.1 is)

use_append : (used : ℕ → Bool) (events more : List SlotEvent)
    → use_from used (events ++ more) ≡ use_from (use_from used events) more
use_append used [] more = refl
use_append used (first ∷ events) more = use_append (use_by first used) events more

test_else : (used : ℕ → Bool) (number slot : ℕ) (is : Bool) → number ≢ slot → with_use number is used slot ≡ used slot
test_else used number slot is apart = ap (λ b. cond b is (used slot)) (ne_eqb slot number (λ same. apart (sym same)))

one_keeps : (used : ℕ → Bool) (slot : ℕ) (event : SlotEvent) → KeepsSlot slot event → use_by event used slot ≡ used slot
one_keeps used slot (Acquired one) keeps = test_else used one.slot slot true keeps
one_keeps used slot (Advanced one) keeps = refl
one_keeps used slot (Confirmed one) keeps = refl
one_keeps used slot (Released one) keeps = test_else used one.slot slot false keeps

all_keep : (used : ℕ → Bool) (slot : ℕ) (events : List SlotEvent) → KeepSlot slot events
    → use_from used events slot ≡ used slot
all_keep used slot [] keep = refl
all_keep used slot (event ∷ events) keep =
    all_keep (use_by event used) slot events keep.1 ∙ one_keeps used slot event keep.0

-- a slot that a stream has is in use
pub in_use : (all : List SlotEvent) (held : Hold) → HasSlot all held → use_after all held.acquisition.slot ≡ true
in_use all held has =
    let slot : ℕ = held.acquisition.slot in
    ap (λ (list : List SlotEvent). use_after list slot) has.events_are
    ∙ (ap (λ (used : ℕ → Bool). used slot) (use_append no_use has.before (Acquired held.acquisition ∷ has.after))
    ∙ (all_keep (use_by (Acquired held.acquisition) (use_after has.before)) slot has.after has.keep
    ∙ ap (λ b. cond b true (use_after has.before slot)) (eq-eqb slot slot refl)))

pub its_in_use : (all : List SlotEvent) (held : Option Hold) (slot : ℕ) → MayHaveSlot all held → HasIt held slot
    → use_after all slot ≡ true
its_in_use all held slot has (mine, is, same) =
    subst (λ (n : ℕ). use_after all n ≡ true) same (in_use all mine (subst (MayHaveSlot all) is has))

-- ---- whether streams are over

over_push : (over : ℕ → Bool) (events : List SlotEvent) (event : SlotEvent)
    → over_from over (events ++ event ∷ []) ≡ over_by event (over_from over events)
over_push over [] event = refl
over_push over (first ∷ events) event = over_push (over_by first over) events event

pub over_more : (events : List SlotEvent) (event : SlotEvent)
    → over_after (events ++ event ∷ []) ≡ over_by event (over_after events)
over_more events event = over_push no_use events event

-- ---- where streams start

begun_push : (known : ℕ → ℕ) (events : List SlotEvent) (event : SlotEvent)
    → begun_from known (events ++ event ∷ []) ≡ begun_by event (begun_from known events)
begun_push known [] event = refl
begun_push known (first ∷ events) event = begun_push (begun_by first known) events event

begun_append : (known : ℕ → ℕ) (events more : List SlotEvent)
    → begun_from known (events ++ more) ≡ begun_from (begun_from known events) more
begun_append known [] more = refl
begun_append known (first ∷ events) more = begun_append (begun_by first known) events more

begun_once : (known : ℕ → ℕ) (slot : ℕ) (event : SlotEvent) → KeepsSlot slot event
    → begun_by event known slot ≡ known slot
begun_once known slot (Acquired one) keeps =
    ap (λ b. cond b (max (end_lsn_of 0) one.start) (known slot)) (ne_eqb slot one.slot (λ same. keeps (sym same)))
begun_once known slot (Advanced one) keeps = refl
begun_once known slot (Confirmed one) keeps = refl
begun_once known slot (Released one) keeps = refl

begun_still : (known : ℕ → ℕ) (slot : ℕ) (events : List SlotEvent) → KeepSlot slot events
    → begun_from known events slot ≡ known slot
begun_still known slot [] keep = refl
begun_still known slot (event ∷ events) keep =
    begun_still (begun_by event known) slot events keep.1 ∙ begun_once known slot event keep.0

-- that of a stream that acquires its slot now
pub begun_here : (events : List SlotEvent) (one : Acquisition)
    → begun_after (events ++ Acquired one ∷ []) one.slot ≡ max (end_lsn_of 0) one.start
begun_here events one =
    ap (λ (known : ℕ → ℕ). known one.slot) (begun_push no_position events (Acquired one))
    ∙ ap (λ b. cond b (max (end_lsn_of 0) one.start) (begun_after events one.slot)) (eq-eqb one.slot one.slot refl)

-- and that of one that has its slot
pub begun_held : (all : List SlotEvent) (held : Hold) → HasSlot all held
    → begun_after all held.acquisition.slot ≡ max (end_lsn_of 0) held.acquisition.start
begun_held all held has =
    let slot : ℕ = held.acquisition.slot in
    ap (λ (list : List SlotEvent). begun_after list slot) has.events_are
    ∙ (ap (λ (known : ℕ → ℕ). known slot) (begun_append no_position has.before (Acquired held.acquisition ∷ has.after))
    ∙ (begun_still (begun_by (Acquired held.acquisition) (begun_after has.before)) slot has.after has.keep
    ∙ ap (λ b. cond b (max (end_lsn_of 0) held.acquisition.start) (begun_after has.before slot)) (eq-eqb slot slot refl)))

-- one more event within reach
within_after : (before events : List SlotEvent) (event : SlotEvent) → AreWithinReach before events
    → IsWithinReach (before ++ events) event → AreWithinReach before (events ++ event ∷ [])
within_after before [] event within is =
    (subst (λ (list : List SlotEvent). IsWithinReach list event) (append-nil before) is, tt)
within_after before (first ∷ events) event within is = (
  within.0,
  within_after (before ++ first ∷ []) events event within.1
      (subst (λ (list : List SlotEvent). IsWithinReach list event) (sym (append_assoc before (first ∷ []) events)) is),
)

pub within_push : (events : List SlotEvent) (event : SlotEvent) → AreWithinReach [] events → IsWithinReach events event
    → AreWithinReach [] (events ++ event ∷ [])
within_push events event within is = within_after [] events event within is

-- ---- the stream that has a slot

pub keep_append : (slot : ℕ) (events : List SlotEvent) (event : SlotEvent) → KeepSlot slot events
    → KeepsSlot slot event → KeepSlot slot (events ++ event ∷ [])
keep_append slot [] event keep keeps = (keeps, tt)
keep_append slot (first ∷ events) event keep keeps = (keep.0, keep_append slot events event keep.1 keeps)

apart_keeps : (slot : ℕ) (event : SlotEvent) → slot_in event ≢ slot → KeepsSlot slot event
apart_keeps slot (Acquired one) apart = apart
apart_keeps slot (Advanced one) apart = tt
apart_keeps slot (Confirmed one) apart = tt
apart_keeps slot (Released one) apart = apart

-- one more event after the acquisition
then_more : (all : List SlotEvent) (event : SlotEvent) (held : Hold) (has : HasSlot all held)
    → all ++ event ∷ [] ≡ has.before ++ Acquired held.acquisition ∷ (has.after ++ event ∷ [])
then_more all event held has =
    ap (λ (list : List SlotEvent). list ++ event ∷ []) has.events_are
    ∙ append_assoc has.before (Acquired held.acquisition ∷ has.after) (event ∷ [])

-- an event of another slot leaves it
pub stays_held : (all : List SlotEvent) (event : SlotEvent) (held : Hold) → HasSlot all held
    → slot_in event ≢ held.acquisition.slot → HasSlot (all ++ event ∷ []) held
stays_held all event held has other = record {
  before = has.before;
  after = has.after ++ event ∷ [];
  events_are = then_more all event held has;
  number_is = has.number_is;
  was_free = has.was_free;
  keep = keep_append held.acquisition.slot has.after event has.keep
      (apart_keeps held.acquisition.slot event other);
  found_is = has.found_is;
  confirmed_is = has.confirmed_is ∙ sym (confirmed_else all event held.acquisition.slot other);
}

-- a sender that advances leaves it
pub advanced_stays : (all : List SlotEvent) (one : Advance) (held : Hold) → HasSlot all held
    → HasSlot (all ++ Advanced one ∷ []) held
advanced_stays all one held has = record {
  before = has.before;
  after = has.after ++ Advanced one ∷ [];
  events_are = then_more all (Advanced one) held has;
  number_is = has.number_is;
  was_free = has.was_free;
  keep = keep_append held.acquisition.slot has.after (Advanced one) has.keep tt;
  found_is = has.found_is;
  confirmed_is = has.confirmed_is
      ∙ sym (ap (λ (known : ℕ → ℕ). known held.acquisition.slot) (confirmed_more all (Advanced one)));
}

pub acquired_has : (all : List SlotEvent) (one : Acquisition) → use_after all one.slot ≡ false
    → HasSlot (all ++ Acquired one ∷ [])
    (hold one (acquisitions all + 1) (confirmed_after all one.slot) (confirmed_after all one.slot))
acquired_has all one free = record {
  before = all;
  after = [];
  events_are = refl;
  number_is = refl;
  was_free = free;
  keep = tt;
  found_is = refl;
  confirmed_is = sym (ap (λ (known : ℕ → ℕ). known one.slot) (confirmed_more all (Acquired one)));
}

-- what is confirmed for the slot leaves it to its connection
pub confirmed_has : (all : List SlotEvent) (one : Confirmation) (held : Hold) → HasSlot all held
    → held.acquisition.slot ≡ one.slot
    → HasSlot (all ++ Confirmed one ∷ []) (hold held.acquisition held.number held.found one.position)
confirmed_has all one held has same = record {
  before = has.before;
  after = has.after ++ Confirmed one ∷ [];
  events_are = then_more all (Confirmed one) held has;
  number_is = has.number_is;
  was_free = has.was_free;
  keep = keep_append held.acquisition.slot has.after (Confirmed one) has.keep tt;
  found_is = has.found_is;
  confirmed_is = sym (confirmed_here all one held.acquisition.slot same);
}
