-- What a client had been sent when a status of it was refused, by the events.
use Rattle.std.proofs.Common.{◌≡◌, ◌≤◌, ◌+◌, ℕ, max, List, [], ◌∷◌, ◌++◌, refl, sym, ◌∙◌, ap, subst, arith, cond, eq-eqb, true}
use Rattle.std.specs.Prelude.{Option, Some, None, Result, Err, slice_get}
use Rattle.table_changes.proofs.TableLemmas.{some_is}
use Rattle.tables_log.specs.Lsn.{end_lsn_of}
use Rattle.copy_both.specs.Ears.{ear_confirmed, ear_started}
use Rattle.copy_both.specs.HeardFrames.{sent_then}
use Rattle.copy_both.specs.Hearing.{first_sent}
use Rattle.copy_both.specs.declared.heard.Heard.{Heard}
use Rattle.copy_both.specs.declared.link_fault.LinkFault.{LinkFault}
use Rattle.copy_both.specs.declared.link_fault.LinkFault.TheVariants.{StatusAhead}
use Rattle.publisher_desk.specs.SlotEvents.{AreSent, acquisitions, advanced_after, events_then, events_with, IsSentWithin}
use Rattle.publisher_desk.specs.SlotSights.{HasSlot, MayHaveSlot, hold}
use Rattle.publisher_desk.specs.Viewers.{MayNote}
use Rattle.publisher_desk.specs.declared.connection_state.ConnectionState.{ConnectionState}
use Rattle.publisher_desk.specs.declared.slot_event.Acquisition.{Acquisition}
use Rattle.publisher_desk.specs.declared.slot_event.Confirmation.{Confirmation}
use Rattle.publisher_desk.specs.declared.slot_event.SlotEvent.{SlotEvent}
use Rattle.publisher_desk.specs.declared.slot_event.SlotEvent.TheVariants.{Acquired, Confirmed}
use Rattle.publisher_desk.specs.declared.slot_sight.Hold.{Hold}
use Rattle.publisher_desk.proofs.EventLemmas.{advanced_more}
use Rattle.senders.specs.Confirming.{HasItStill, IsRefusedAt}
use Rattle.senders.specs.Hearing.{IsSentFrom, StaysStarted, sent_by}
use Rattle.senders.specs.Listening.{AcquiresFor, HoldsStream, HoldsStreamOf, NotesAhead}
use Rattle.senders.specs.Results.{acquisition}
use Rattle.senders.specs.declared.listener.Listener.{Listener}
use Rattle.senders.proofs.HoldingLemmas.{kept_start}
use Rattle.senders.proofs.StartingLemmas.{sent_on}

still_has_it : (events : List SlotEvent) (held : Hold) → HasSlot events held
    → HasItStill held.acquisition.slot held.number events
still_has_it events held has = record {
  first = has.before;
  acquisition = held.acquisition;
  between = has.after;
  events_are = has.events_are;
  slot_is = refl;
  number_is = has.number_is;
  keep = has.keep;
}

module _ (before after : Listener) (events later : List SlotEvent) (acquired : Option Acquisition)
    (confirmed : Option Confirmation) (was : Option Hold) (number : ℕ) (connections : List ConnectionState)
    (commits : ℕ) (heard : Result Heard LinkFault) where
  abbrev sent_now : ℕ
  sent_now = sent_then (ear_started before.ear) (sent_by (ear_started before.ear) connections) (ear_started after.ear)

  -- on a stream that had started
  refused_on : (one : Confirmation) (s : ℕ × ℕ) → ear_started before.ear ≡ Some s → after.number ≡ before.number
      → MayHaveSlot events was → MayNote None (Some one) was → later ≡ events ++ Confirmed one ∷ []
      → one.is_ahead ≡ true → AreSent (advanced_after events) connections
      → HoldsStreamOf s before.is_requested before.number (ear_confirmed before.ear) was
      → IsRefusedAt s after.number later sent_now
  refused_on one s is same had mine later_is ahead sent holds =
      let held : Hold = hold (acquisition s.0 s.1 before.is_requested) before.number holds.found
      (max holds.found (ear_confirmed before.ear)) in
      let its : held ≡ mine.mine = some_is held mine.mine (sym holds.held_is ∙ mine.held_is) in
      record {
        before = events;
        one = one;
        after = [];
        events_are = later_is;
        ahead = ahead;
        slot_is = sym (ap (λ (h : Hold). h.acquisition.slot) its ∙ mine.slot_is);
        own = subst (λ (n : ℕ). HasItStill s.0 n events) (sym same)
            (still_has_it events held (subst (MayHaveSlot events) holds.held_is had));
        sent_is = ap (λ (o : Option (ℕ × ℕ)). sent_then o (sent_by o connections) (ear_started after.ear)) is
            ∙ (sent_on (first_sent s.1) (slice_get connections s.0) ∙ ap (max (first_sent s.1)) (sent s.0));
      }

  -- on one that starts with the piece
  refused_first : (it : Acquisition) (one : Confirmation) → ear_started before.ear ≡ None
      → ear_started after.ear ≡ Some (it.slot, it.start) → after.number ≡ number → number ≡ acquisitions events + 1
      → it.slot ≡ one.slot → later ≡ (events ++ Acquired it ∷ []) ++ Confirmed one ∷ [] → one.is_ahead ≡ true
      → IsRefusedAt (it.slot, it.start) after.number later sent_now
  refused_first it one none some is number_is slot later_is ahead = record {
    before = events ++ Acquired it ∷ [];
    one = one;
    after = [];
    events_are = later_is;
    ahead = ahead;
    slot_is = sym slot;
    own = record {
      first = events;
      acquisition = it;
      between = [];
      events_are = refl;
      slot_is = refl;
      number_is = is ∙ number_is;
      keep = tt;
    };
    sent_is =
        let nothing : advanced_after (events ++ Acquired it ∷ []) it.slot ≡ 0 =
        ap (λ (known : ℕ → ℕ). known it.slot) (advanced_more events (Acquired it))
        ∙ ap (λ b. cond b 0 (advanced_after events it.slot)) (eq-eqb it.slot it.slot refl) in
        ap (λ (o : Option (ℕ × ℕ)). sent_then o (sent_by o connections) (ear_started after.ear)) none
        ∙ (ap (λ (o : Option (ℕ × ℕ)). sent_then None 0 o) some ∙ omega (arith, nothing));
  }

  -- the log has what was sent
  sent_low : (s : ℕ × ℕ) → ear_started after.ear ≡ Some s → StaysStarted before.ear after.ear
      → (start : Option (ℕ × ℕ)) → ear_started before.ear ≡ start → first_sent s.1 ≤ end_lsn_of commits
      → AreSent (advanced_after events) connections → IsSentWithin commits (advanced_after events)
      → sent_now ≤ end_lsn_of commits
  sent_low s some stays None none first sent ends =
      subst (λ (o : Option (ℕ × ℕ)). sent_then o (sent_by o connections) (ear_started after.ear) ≤ end_lsn_of commits)
      (sym none)
      (subst (λ (o : Option (ℕ × ℕ)). sent_then None 0 o ≤ end_lsn_of commits) (sym some) first)
  sent_low s some stays (Some t) is first sent ends =
      let same : t ≡ s = some_is t s (sym (stays t is) ∙ some) in
      subst (λ (o : Option (ℕ × ℕ)). sent_then o (sent_by o connections) (ear_started after.ear) ≤ end_lsn_of commits)
      (sym (is ∙ ap (λ (p : ℕ × ℕ). Some p) same))
      (let on = sent_on (first_sent s.1) (slice_get connections s.0) in let at = sent s.0 in let low = ends s.0 in
      omega (arith, on, at, low, first))

  refused_as : (acquired_is : Option Acquisition) → acquired ≡ acquired_is → (one : Confirmation) → confirmed ≡ Some one
      → one.is_ahead ≡ true → AcquiresFor before after number acquired_is → StaysStarted before.ear after.ear
      → MayHaveSlot events was → MayNote acquired_is (Some one) was → number ≡ acquisitions events + 1
      → later ≡ events_then (Some one) (events_with acquired_is events) → AreSent (advanced_after events) connections
      → HoldsStream (ear_started before.ear) before.is_requested before.number (ear_confirmed before.ear) was
      → (s : ℕ × ℕ) → ear_started after.ear ≡ Some s → IsRefusedAt s after.number later sent_now
  refused_as None is one noted ahead acquires stays had mine number_is later_is sent holds s some =
      let before_is : ear_started before.ear ≡ Some s =
      sym (kept_start (ear_started before.ear) (ear_started after.ear) stays acquires.0) ∙ some in
      refused_on one s before_is acquires.1 had mine later_is ahead sent
      (subst (λ (o : Option (ℕ × ℕ)). HoldsStream o before.is_requested before.number (ear_confirmed before.ear) was)
      before_is holds)
  refused_as (Some it) is one noted ahead acquires stays had mine number_is later_is sent holds s some =
      let same : (it.slot, it.start) ≡ s = some_is (it.slot, it.start) s (sym acquires.1 ∙ some) in
      subst (λ (p : ℕ × ℕ). IsRefusedAt p after.number later sent_now) same
      (refused_first it one acquires.0 acquires.1 acquires.3 number_is mine later_is ahead)

  pub refused_then : AcquiresFor before after number acquired → NotesAhead (ear_started after.ear) heard confirmed
      → StaysStarted before.ear after.ear → MayHaveSlot events was → MayNote acquired confirmed was
      → number ≡ acquisitions events + 1 → later ≡ events_then confirmed (events_with acquired events)
      → AreSent (advanced_after events) connections → IsSentWithin commits (advanced_after events)
      → HoldsStream (ear_started before.ear) before.is_requested before.number (ear_confirmed before.ear) was
      → (heard ≡ Err StatusAhead → IsSentFrom (ear_started after.ear) (end_lsn_of commits)) → heard ≡ Err StatusAhead
      → (s : ℕ × ℕ) → ear_started after.ear ≡ Some s
      → (sent_now ≤ end_lsn_of commits) × IsRefusedAt s after.number later sent_now
  refused_then acquires notes stays had mine number_is later_is sent ends holds reaches ahead s some =
      let noted = notes ahead s some in (
        sent_low s some stays (ear_started before.ear) refl
            (subst (λ (o : Option (ℕ × ℕ)). IsSentFrom o (end_lsn_of commits)) some (reaches ahead)) sent ends,
        refused_as acquired refl noted.0 noted.1 noted.2 acquires stays had
            (subst (λ (o : Option Confirmation). MayNote acquired o was) noted.1 mine) number_is
            (later_is ∙ ap (λ (o : Option Confirmation). events_then o (events_with acquired events)) noted.1) sent holds
            s some,
      )
