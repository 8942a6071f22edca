-- A stream that a piece starts, and the slot that is acquired for it.
use Rattle.std.proofs.Common.{◌≡◌, ◌≢◌, ℕ, zero, suc, ◌<◌, ◌≤◌, max, Bool, true, false, List, [], ◌∷◌, length, refl, sym, ◌∙◌, ap, subst, arith, cond, eq-eqb, ne_eqb}
use Rattle.std.specs.Arc.{arc_value}
use Rattle.std.specs.Prelude.{◌==◌, is_some, slice_get, slice_index, Option, Some, None}
use mathlib.Core.Logic.{dite}
use native.Mathlib.Decide.{ℕ_discrete}
use Rattle.tables_log.specs.BookView.{book_slots}
use Rattle.tables_log.specs.Lsn.{end_lsn_of}
use Rattle.tables_log.specs.Slots.{confirmed_at}
use Rattle.tables_log.specs.declared.book.Book.{Book}
use Rattle.tables_log.specs.declared.slots.Slot.{Slot}
use Rattle.copy_both.specs.Ears.{ChangesUse, ear_confirmed, ear_started}
use Rattle.copy_both.specs.HeardFrames.{sent_then}
use Rattle.copy_both.specs.Hearing.{first_sent}
use Rattle.publisher_desk.specs.SlotEvents.{KeepsConfirmed, MayAcquire, MayConfirm, sent_at, sent_of, sent_with, stream_with}
use Rattle.publisher_desk.specs.declared.connection_state.ConnectionState.{ConnectionState}
use Rattle.publisher_desk.specs.declared.slot_event.Acquisition.{Acquisition}
use Rattle.publisher_desk.specs.declared.slot_event.Confirmation.{Confirmation}
use Rattle.senders.specs.Listening.{AcquiresFor, Compares, NotesConfirmed, NotesStart, NotesStartIf}
use Rattle.senders.specs.Hearing.{sent_after, sent_by}
use Rattle.senders.specs.Results.{StartsFrom}
use Rattle.senders.specs.declared.listener.Listener.{Listener}
use Rattle.copy_both.proofs.RaisedSlots.{IsFrom, Raises}
use Rattle.filter_tree.proofs.Tests.{by_test}
use Rattle.senders.proofs.HoldingLemmas.{kept_start}

some_number : (one other : ℕ) → ◌≡◌ {A = Option ℕ} (Some one) (Some other) → one ≡ other
some_number one other same = cc

its_slot : (one other : ℕ × ℕ) → ◌≡◌ {A = Option (ℕ × ℕ)} (Some one) (Some other) → one.0 ≡ other.0
its_slot one other same = let alike : one ≡ other = cc in ap (λ (s : ℕ × ℕ). s.0) alike

-- a slot of which something is confirmed exists
exists_if : (slots : List Slot) (slot : ℕ) → 0 < confirmed_at slots slot → slot < length slots
exists_if [] slot some = absurd (omega (arith, some))
exists_if (one ∷ slots) zero some = omega arith
exists_if (one ∷ slots) (suc slot) some = let rest = exists_if slots slot some in omega (arith, rest)

-- the first position of a stream is its start, or the beginning of the log
first_low : (start : ℕ) → first_sent start ≤ max (end_lsn_of 0) start
first_low start = by_test (start == 0)
    (λ yes. let is : first_sent start ≡ 64 = ap (λ b. cond b 64 start) yes in omega (arith, is))
    (λ no. let is : first_sent start ≡ start = ap (λ b. cond b 64 start) no in omega (arith, is))

pub sent_on : (first : ℕ) (connection : Option ConnectionState) → sent_after first connection ≡ max first (sent_of connection)
sent_on first None = omega arith
sent_on first (Some connection) = refl

-- there are no more slots than subscriptions
pub slots_few : (book : Book) → length (book_slots book) ≤ 32
slots_few book =
    let each = book.each in
    let few = (arc_value book.checked).catalog.few_subscriptions in omega (arith, each, few)

not_started : (started : Option (ℕ × ℕ)) → is_some started ≡ false → started ≡ None
not_started None fresh = cc
not_started (Some one) fresh = absurd cc

has_started : (started : Option (ℕ × ℕ)) (one : ℕ × ℕ) → started ≡ Some one → is_some started ≡ true
has_started started one is = ap is_some is

same_place : (slot start other at : ℕ) → ◌≡◌ {A = Option (ℕ × ℕ)} (Some (slot, start)) (Some (other, at)) → (slot ≡ other) × (start ≡ at)
same_place slot start other at both =
    let pair : ◌≡◌ {A = ℕ × ℕ} (slot, start) (other, at) = cc in
    (ap (λ (p : ℕ × ℕ). p.0) pair, ap (λ (p : ℕ × ℕ). p.1) pair)

starts_use : (was now : Option (ℕ × ℕ)) (old new : List Slot) (one : Acquisition) → was ≡ None
    → now ≡ Some (one.slot, one.start) → ChangesUse was now old new → ChangesUse None (Some (one.slot, one.start)) old new
starts_use was now old new one none some uses =
    subst (λ (o : Option (ℕ × ℕ)). ChangesUse None o old new) some
    (subst (λ (o : Option (ℕ × ℕ)). ChangesUse o now old new) none uses)

keeps_use : (was now : Option (ℕ × ℕ)) (old new : List Slot) → (was ≡ None → now ≡ None)
    → ChangesUse was now old new → MayAcquire old new None
keeps_use (Some started) now old new none uses = uses
keeps_use None None old new none uses = uses
keeps_use None (Some started) old new none uses = absurd (let nothing : Some started ≡ None = none cc in cc)

module _ (before heard after : Listener) (old new : Book) (was_started : Bool) (confirmed : List ℕ) (number : ℕ)
    (was_is : was_started ≡ is_some (ear_started before.ear))
    (positions : (slot : ℕ) → slot < length confirmed
    → slice_index confirmed slot ≡ confirmed_at (book_slots old) slot)
    (few : length (book_slots old) ≤ length confirmed)
    (connections : List ConnectionState)
    (raises : Raises (sent_by (ear_started before.ear) connections) (ear_started before.ear) (ear_started heard.ear)
    (book_slots old) (book_slots new) (ear_confirmed before.ear) (ear_confirmed heard.ear))
    (kept_number : heard.number ≡ before.number) (kept_request : heard.is_requested ≡ before.is_requested) where
  none_before : was_started ≡ false → ear_started before.ear ≡ None
  none_before fresh = not_started (ear_started before.ear) (sym was_is ∙ fresh)

  some_before : (started : ℕ × ℕ) → ear_started before.ear ≡ Some started → was_started ≡ true
  some_before started is = was_is ∙ has_started (ear_started before.ear) started is

  pub acquires_for : (acquired : Option Acquisition)
      → NotesStartIf was_started confirmed number heard after acquired → AcquiresFor before after number acquired
  acquires_for None (same, none) = (
    λ before_none. ap (λ (listener : Listener). ear_started listener.ear) same
        ∙ none (was_is ∙ ap is_some before_none),
    ap (λ (listener : Listener). listener.number) same ∙ kept_number,
    ap (λ (listener : Listener). listener.is_requested) same ∙ kept_request,
  )
  acquires_for (Some one) notes = (
    none_before notes.began,
    ap ear_started notes.ear_is ∙ notes.started_is,
    notes.requested_is,
    notes.number_is,
  )

  -- of the slot of a stream that starts, what was confirmed before is known
  position_of : (one : Acquisition) → NotesStart was_started confirmed number heard after one
      → IsFrom (book_slots old) (one.slot, one.start)
  position_of one notes = raises.begins (none_before notes.began) (one.slot, one.start) notes.started_is

  starts_from : (one : Acquisition) → NotesStart was_started confirmed number heard after one → (b : Bool)
      → one.is_requested ≡ b → StartsFrom (confirmed_at (book_slots old) one.slot) one.start b
  starts_from one notes true requested =
      let is = position_of one notes in
      let low : one.slot < length confirmed = omega (arith, is.exists, few) in
      subst (λ (n : ℕ). n < one.start) (positions one.slot low) (notes.late low requested)
  starts_from one notes false other =
      let is = position_of one notes in
      let low : one.slot < length confirmed = omega (arith, is.exists, few) in
      omega (arith, is.low, positions one.slot low, notes.early low other)

  from_by : (acquired : Option Acquisition) → NotesStartIf was_started confirmed number heard after acquired
      → ear_started before.ear ≡ None → (slot start : ℕ) → ear_started after.ear ≡ Some (slot, start)
      → StartsFrom (confirmed_at (book_slots old) slot) start after.is_requested
  from_by None (same, none) before_none slot start is =
      absurd (let no : None ≡ Some (slot, start) =
      sym (ap (λ (listener : Listener). ear_started listener.ear) same ∙ none (was_is ∙ ap is_some before_none)) ∙ is in
      cc)
  from_by (Some one) notes before_none slot start is =
      let same : (one.slot ≡ slot) × (one.start ≡ start) =
      same_place one.slot one.start slot start (sym (ap ear_started notes.ear_is ∙ notes.started_is) ∙ is) in
      subst (λ (s : ℕ). StartsFrom (confirmed_at (book_slots old) s) start after.is_requested) same.0
      (subst (λ (n : ℕ). StartsFrom (confirmed_at (book_slots old) one.slot) n after.is_requested) same.1
      (subst (StartsFrom (confirmed_at (book_slots old) one.slot) one.start) (sym notes.requested_is)
      (starts_from one notes one.is_requested refl)))

  stays_by : (acquired : Option Acquisition) → NotesStartIf was_started confirmed number heard after acquired
      → (started : ℕ × ℕ) → ear_started before.ear ≡ Some started → after.is_requested ≡ before.is_requested
  stays_by None (same, none) started is = ap (λ (listener : Listener). listener.is_requested) same ∙ kept_request
  stays_by (Some one) notes started is =
      absurd (let no : true ≡ false = sym (some_before started is) ∙ notes.began in cc)

  pub compares_by : (acquired : Option Acquisition)
      → NotesStartIf was_started confirmed number heard after acquired → Compares before after old
  compares_by acquired notes = record { from = from_by acquired notes; stays = stays_by acquired notes }

  pub may_acquire : (acquired : Option Acquisition)
      → NotesStartIf was_started confirmed number heard after acquired
      → ChangesUse (ear_started before.ear) (ear_started heard.ear) (book_slots old) (book_slots new)
      → MayAcquire (book_slots old) (book_slots new) acquired
  may_acquire None (same, none) uses =
      keeps_use (ear_started before.ear) (ear_started heard.ear) (book_slots old) (book_slots new)
      (λ before_none. none (was_is ∙ ap is_some before_none)) uses
  may_acquire (Some one) notes uses = record {
    takes = starts_use (ear_started before.ear) (ear_started heard.ear) (book_slots old) (book_slots new) one
        (none_before notes.began) notes.started_is uses;
    late = λ requested. starts_from one notes true requested;
  }

  pub ear_kept : (acquired : Option Acquisition) → NotesStartIf was_started confirmed number heard after acquired
      → after.ear ≡ heard.ear
  ear_kept None notes = ap (λ (listener : Listener). listener.ear) notes.0
  ear_kept (Some one) notes = notes.ear_is

  pub room_kept : (acquired : Option Acquisition) → NotesStartIf was_started confirmed number heard after acquired
      → length after.piece.items ≡ length heard.piece.items
  room_kept None notes = ap (λ (listener : Listener). length listener.piece.items) notes.0
  room_kept (Some one) notes = notes.room

  -- ---- what is confirmed

  other_slot : (o : Option (ℕ × ℕ)) → ear_started heard.ear ≡ o → (number : ℕ)
      → ((s : ℕ × ℕ) → o ≡ Some s → s.0 ≢ number)
      → confirmed_at (book_slots new) number ≡ confirmed_at (book_slots old) number
  other_slot o is number apart = raises.beside number (λ s at same. apart s (sym is ∙ at) same)

  stays_confirmed : (o : Option (ℕ × ℕ)) → ear_started heard.ear ≡ o
      → NotesConfirmed o confirmed (book_slots new) None → KeepsConfirmed (book_slots old) (book_slots new)
  stays_confirmed None is notes number = other_slot None is number (λ s same. cc)
  stays_confirmed (Some s) is notes number = dite (ℕ_discrete s.0 number)
      (λ here.
      let at = notes s.0 s.1 refl in
      subst (λ (n : ℕ). confirmed_at (book_slots new) n ≡ confirmed_at (book_slots old) n) here
      (at.1 ∙ positions s.0 at.0))
      (λ apart. other_slot (Some s) is number (λ t same at. apart (its_slot s t same ∙ at)))

  -- the stream that the connection then has
  stream_then : (acquired : Option Acquisition) → NotesStartIf was_started confirmed number heard after acquired
      → stream_with acquired (ear_started before.ear) ≡ ear_started heard.ear
  stream_then None (same, none) =
      sym (kept_start (ear_started before.ear) (ear_started heard.ear) raises.stays
      (λ before_none. none (was_is ∙ ap is_some before_none)))
  stream_then (Some one) notes = sym notes.started_is

  -- what was sent on it then
  sent_within : (acquired : Option Acquisition) → NotesStartIf was_started confirmed number heard after acquired
      → (slot start : ℕ) → ear_started heard.ear ≡ Some (slot, start)
      → sent_then (ear_started before.ear) (sent_by (ear_started before.ear) connections) (ear_started heard.ear)
      ≤ max (max (end_lsn_of 0) start) (sent_with acquired (sent_at connections) slot)
  sent_within None (same, none) slot start is =
      let before_is : ear_started before.ear ≡ Some (slot, start) =
      sym (kept_start (ear_started before.ear) (ear_started heard.ear) raises.stays
      (λ before_none. none (was_is ∙ ap is_some before_none))) ∙ is in
      subst (λ (o : Option (ℕ × ℕ)). sent_then o (sent_by o connections) (ear_started heard.ear)
      ≤ max (max (end_lsn_of 0) start) (sent_at connections slot)) (sym before_is)
      (let same = sent_on (first_sent start) (slice_get connections slot) in let first = first_low start in
      omega (arith, same, first))
  sent_within (Some one) notes slot start is =
      subst (λ (o : Option (ℕ × ℕ)). sent_then o (sent_by o connections) (ear_started heard.ear)
      ≤ max (max (end_lsn_of 0) start) (sent_with (Some one) (sent_at connections) slot))
      (sym (none_before notes.began))
      (subst (λ (o : Option (ℕ × ℕ)). sent_then None 0 o
      ≤ max (max (end_lsn_of 0) start) (sent_with (Some one) (sent_at connections) slot)) (sym is)
      (let first = first_low start in omega (arith, first)))

  -- what is confirmed anew was sent
  newly_sent : (acquired : Option Acquisition) → NotesStartIf was_started confirmed number heard after acquired
      → (one : Confirmation) → (start : ℕ) → ear_started heard.ear ≡ Some (one.slot, start)
      → one.position ≡ confirmed_at (book_slots new) one.slot
      → confirmed_at (book_slots old) one.slot < one.position
      → one.position ≤ max (max (end_lsn_of 0) start) (sent_with acquired (sent_at connections) one.slot)
  newly_sent acquired starts one start is at above =
      let low : one.slot < length (book_slots new) =
      exists_if (book_slots new) one.slot (omega (arith, at, above)) in
      let here = raises.here (one.slot, start) is (let long = raises.long in omega (arith, low, long)) in
      let sent = sent_within acquired starts one.slot start is in
      let least = raises.low in omega (arith, here, sent, least, at, above)

  pub may_confirm : (acquired : Option Acquisition) → NotesStartIf was_started confirmed number heard after acquired
      → (noted : Option Confirmation) → NotesConfirmed (ear_started heard.ear) confirmed (book_slots new) noted
      → MayConfirm (ear_started before.ear) acquired noted connections (book_slots old) (book_slots new)
  may_confirm acquired starts None notes = stays_confirmed (ear_started heard.ear) refl notes
  may_confirm acquired starts (Some one) notes = record {
    start = notes.0.0;
    mine = stream_then acquired starts ∙ notes.0.1;
    within = newly_sent acquired starts one notes.0.0 notes.0.1 notes.1;
    rises = subst (λ (n : ℕ). confirmed_at (book_slots old) one.slot ≤ n) (sym notes.1) (raises.rises one.slot);
    positions = λ number. dite (ℕ_discrete number one.slot)
        (λ here. ap (confirmed_at (book_slots new)) here ∙ (sym notes.1
        ∙ sym (ap (λ b. cond b one.position (confirmed_at (book_slots old) number)) (eq-eqb number one.slot here))))
        (λ apart. other_slot (ear_started heard.ear) refl number
        (λ s same at. apart (sym at ∙ its_slot s (one.slot, notes.0.0) (sym same ∙ notes.0.1)))
        ∙ sym (ap (λ b. cond b one.position (confirmed_at (book_slots old) number)) (ne_eqb number one.slot apart)));
  }
