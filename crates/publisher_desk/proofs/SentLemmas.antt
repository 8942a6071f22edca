-- What the client of each slot was sent, by the events.
use Rattle.std.proofs.Common.{◌≡◌, ◌≤◌, ℕ, ◌<◌, arith, max, List, [], ◌∷◌, ◌++◌, Bool, length, refl, sym, ap, ◌∙◌, subst, cond, eq-eqb, ne_eqb}
use Rattle.std.specs.Prelude.{◌==◌, Option, Some, None, false, slice_set, true}
use mathlib.Core.Logic.{dite}
use native.Mathlib.Decide.{ℕ_discrete}
use Rattle.tables_log.specs.BookView.{book_log, book_slots}
use Rattle.tables_log.specs.Lsn.{end_lsn_of}
use Rattle.tables_log.specs.Slots.{AreInUse, confirmed_at}
use Rattle.tables_log.specs.declared.slots.Slot.{Slot}
use Rattle.tables_log.specs.declared.book.Book.{Book}
use Rattle.table_changes.proofs.TableLemmas.{some_is}
use Rattle.tables_log.proofs.PlaceLemmas.{get_set_beside, get_set_here}
use Rattle.publisher_desk.specs.Held.{AreEventsOf}
use Rattle.publisher_desk.specs.SlotEvents.{AreDated, AreSent, Confirms, IsDated, IsSentWithin, IsWithinReach, KeepsSent, advanced_after, advanced_by, advanced_from, begun_after, confirmed_after, events_then, events_with, no_position, no_use, over_after, sent_at, sent_of, sent_with, stream_with, with_position}
use Rattle.publisher_desk.specs.SlotSights.{MayHaveSlot, slot_view}
use Rattle.publisher_desk.specs.Viewers.{HoldsFor, HoldsIf}
use Rattle.publisher_desk.specs.declared.connection_state.ConnectionState.{ConnectionState}
use Rattle.publisher_desk.specs.declared.slot_event.Acquisition.{Acquisition}
use Rattle.publisher_desk.specs.declared.slot_event.Advance.{Advance}
use Rattle.publisher_desk.specs.declared.slot_event.Confirmation.{Confirmation}
use Rattle.publisher_desk.specs.declared.slot_event.Release.{Release}
use Rattle.publisher_desk.specs.declared.slot_event.SlotEvent.{SlotEvent}
use Rattle.publisher_desk.specs.declared.slot_event.SlotEvent.TheVariants.{Acquired, Advanced, Confirmed, Released}
use Rattle.publisher_desk.specs.declared.slot_sight.Hold.{Hold}
use Rattle.publisher_desk.specs.declared.slot_sight.SlotView.{SlotView}
use Rattle.publisher_desk.proofs.EventLemmas.{advanced_more, begun_held, begun_here, confirmed_more, turn_push, use_more, within_push}
use Rattle.publisher_desk.proofs.SlotLemmas.{dated_push}

-- ---- a use of the slots

sent_acquired : (acquired : Option Acquisition) (events : List SlotEvent) (slot : ℕ)
    → advanced_after (events_with acquired events) slot ≡ sent_with acquired (advanced_after events) slot
sent_acquired None events slot = refl
sent_acquired (Some one) events slot = ap (λ (known : ℕ → ℕ). known slot) (advanced_more events (Acquired one))

sent_confirmed : (confirmed : Option Confirmation) (events : List SlotEvent) (slot : ℕ)
    → advanced_after (events_then confirmed events) slot ≡ advanced_after events slot
sent_confirmed None events slot = refl
sent_confirmed (Some one) events slot = ap (λ (known : ℕ → ℕ). known slot) (advanced_more events (Confirmed one))

with_same : (acquired : Option Acquisition) (known other : ℕ → ℕ) → ((slot : ℕ) → known slot ≡ other slot) → (slot : ℕ)
    → sent_with acquired known slot ≡ sent_with acquired other slot
with_same None known other same slot = same slot
with_same (Some one) known other same slot = ap (λ (n : ℕ). cond (slot == one.slot) 0 n) (same slot)

pub streamed_sent : (old new : List ConnectionState) (acquired : Option Acquisition) (confirmed : Option Confirmation)
    (events : List SlotEvent) → KeepsSent acquired old new → AreSent (advanced_after events) old
    → AreSent (advanced_after (events_then confirmed (events_with acquired events))) new
streamed_sent old new acquired confirmed events keeps are slot =
    keeps slot
    ∙ (with_same acquired (sent_at old) (advanced_after events) are slot
    ∙ (sym (sent_acquired acquired events slot) ∙ sym (sent_confirmed confirmed (events_with acquired events) slot)))

pub kept_sent : (old new all : List ConnectionState) (events : List SlotEvent) → old ≡ all → KeepsSent None old new
    → AreSent (advanced_after events) all → AreSent (advanced_after events) new
kept_sent old new all events same keeps are slot =
    keeps slot ∙ (ap (λ (list : List ConnectionState). sent_at list slot) same ∙ are slot)

-- ---- what is confirmed

-- the start of the stream that has the slot then
begun_then : (stream : Option (ℕ × ℕ)) (acquired : Option Acquisition) (one : Confirmation) (start : ℕ)
    (all : List SlotEvent) (held : Option Hold) → stream_with acquired stream ≡ Some (one.slot, start) → HoldsIf held stream
    → MayHaveSlot all held → begun_after (events_with acquired all) one.slot ≡ max (end_lsn_of 0) start
begun_then stream (Some it) one start all held mine holds has =
    let slot : it.slot ≡ one.slot = ap (λ (s : ℕ × ℕ). s.0) (some_is (it.slot, it.start) (one.slot, start) mine) in
    let from : it.start ≡ start = ap (λ (s : ℕ × ℕ). s.1) (some_is (it.slot, it.start) (one.slot, start) mine) in
    ap (λ (n : ℕ). begun_after (all ++ Acquired it ∷ []) n) (sym slot)
    ∙ (begun_here all it ∙ ap (max (end_lsn_of 0)) from)
begun_then stream None one start all held mine holds has =
    let holding : HoldsFor held (one.slot, start) = subst (HoldsIf held) mine holds in
    ap (begun_after all) (sym holding.slot_is)
    ∙ (begun_held all holding.mine (subst (MayHaveSlot all) holding.held_is has)
    ∙ ap (max (end_lsn_of 0)) holding.start_is)

pub confirmed_within : (old new : List Slot) (connections : List ConnectionState) (stream : Option (ℕ × ℕ))
    (acquired : Option Acquisition) (one : Confirmation) (all : List SlotEvent) (held : Option Hold)
    → Confirms (stream_with acquired stream) (sent_with acquired (sent_at connections)) old new one
    → AreSent (advanced_after all) connections → HoldsIf held stream → MayHaveSlot all held
    → confirmed_at old one.slot ≡ confirmed_after (events_with acquired all) one.slot
    → IsWithinReach (events_with acquired all) (Confirmed one)
confirmed_within old new connections stream acquired one all held confirms are holds has was above =
    let begun = begun_then stream acquired one confirms.start all held confirms.mine holds has in
    let sent = with_same acquired (sent_at connections) (advanced_after all) are one.slot
    ∙ sym (sent_acquired acquired all one.slot) in
    let low = confirms.within (omega (arith, was, above)) in omega (arith, begun, sent, low)

-- of what is written back, and of events under another name
pub sent_as : (new written : List ConnectionState) (events : List SlotEvent) (more : SlotView) → written ≡ new
    → more.all ≡ events → AreSent (advanced_after events) new → AreSent (advanced_after more.all) written
sent_as new written events more back same are slot =
    ap (λ (list : List ConnectionState). sent_at list slot) back
    ∙ (are slot ∙ sym (ap (λ (list : List SlotEvent). advanced_after list slot) same))

pub released_sent : (connections : List ConnectionState) (events : List SlotEvent) (one : Release)
    → AreSent (advanced_after events) connections → AreSent (advanced_after (events ++ Released one ∷ [])) connections
released_sent connections events one are slot =
    are slot ∙ sym (ap (λ (known : ℕ → ℕ). known slot) (advanced_more events (Released one)))

low_if : (b : Bool) (one other commits : ℕ) → one ≤ end_lsn_of commits → other ≤ end_lsn_of commits
    → cond b one other ≤ end_lsn_of commits
low_if true one other commits first second = first
low_if false one other commits first second = second

-- ---- nobody was sent more than the log

advanced_low : (commits : ℕ) (event : SlotEvent) (known : ℕ → ℕ) → IsDated commits event → IsSentWithin commits known
    → IsSentWithin commits (advanced_by event known)
advanced_low commits (Acquired one) known dated low slot =
    low_if (slot == one.slot) 0 (known slot) commits (omega arith) (low slot)
advanced_low commits (Advanced one) known dated low slot =
    low_if (slot == one.slot) one.position (known slot) commits dated (low slot)
advanced_low commits (Confirmed one) known dated low slot = low slot
advanced_low commits (Released one) known dated low slot = low slot

logged_from : (commits : ℕ) (events : List SlotEvent) (known : ℕ → ℕ) → AreDated commits events → IsSentWithin commits known
    → IsSentWithin commits (advanced_from known events)
logged_from commits [] known dated low = low
logged_from commits (event ∷ events) known dated low =
    logged_from commits events (advanced_by event known) dated.1 (advanced_low commits event known dated.0 low)

pub logged_by : (commits : ℕ) (events : List SlotEvent) → AreDated commits events
    → IsSentWithin commits (advanced_after events)
logged_by commits events dated = logged_from commits events no_position dated (λ slot. omega arith)

-- so it is of what is lent
pub lent_within : (book : Book) (events : List SlotEvent) (all lent : List ConnectionState) → lent ≡ all
    → AreSent (advanced_after events) all → AreDated (length (book_log book)) events
    → IsSentWithin (length (book_log book)) (sent_at lent)
lent_within book events all lent same are dated slot =
    subst (λ (n : ℕ). n ≤ end_lsn_of (length (book_log book)))
    (sym (ap (λ (list : List ConnectionState). sent_at list slot) same ∙ are slot))
    (logged_by (length (book_log book)) events dated slot)

-- ---- a sender that advances

pub sets_sent : (connections : List ConnectionState) (slot position : ℕ) (set : ConnectionState) → set.sent ≡ position
    → slot < length connections
    → AreSent (with_position slot position (sent_at connections)) (slice_set connections slot set)
sets_sent connections slot position set is low other = dite (ℕ_discrete other slot)
    (λ here.
    ap (λ (n : ℕ). sent_at (slice_set connections slot set) n) here
    ∙ (ap sent_of (get_set_here connections slot set low)
    ∙ (is ∙ sym (ap (λ b. cond b position (sent_at connections other)) (eq-eqb other slot here)))))
    (λ apart.
    ap sent_of (get_set_beside connections slot other set apart)
    ∙ sym (ap (λ b. cond b position (sent_at connections other)) (ne_eqb other slot apart)))

pub advanced_sent : (old new : List ConnectionState) (events : List SlotEvent) (one : Advance)
    → AreSent (with_position one.slot one.position (sent_at old)) new → AreSent (advanced_after events) old
    → AreSent (advanced_after (events ++ Advanced one ∷ [])) new
advanced_sent old new events one sets are slot =
    sets slot
    ∙ (ap (λ (n : ℕ). cond (slot == one.slot) one.position n) (are slot)
    ∙ sym (ap (λ (known : ℕ → ℕ). known slot) (advanced_more events (Advanced one))))

pub advanced_events : (book : Book) (events more : SlotView) (one : Advance) → AreEventsOf book events
    → (over_after events.all one.slot ≡ false) × (advanced_after events.all one.slot ≤ one.position)
    → one.position ≤ end_lsn_of (length (book_log book))
    → more ≡ slot_view true (events.all ++ Advanced one ∷ []) [] → AreEventsOf book more
advanced_events book events more one are goes within same = subst (AreEventsOf book) (sym same) (record {
  used = subst (λ (used : ℕ → Bool). AreInUse used (book_slots book)) (sym (use_more events.all (Advanced one))) are.used;
  confirmed = λ number. are.confirmed number
      ∙ sym (ap (λ (known : ℕ → ℕ). known number) (confirmed_more events.all (Advanced one)));
  turns = turn_push no_use no_position events.all (Advanced one) are.turns tt;
  within = within_push events.all (Advanced one) are.within goes;
  dated = dated_push (length (book_log book)) events.all (Advanced one) are.dated within;
  idle = refl;
})

-- its client has then been sent the log up to there
pub advanced_here : (events : List SlotEvent) (one : Advance)
    → advanced_after (events ++ Advanced one ∷ []) one.slot ≡ one.position
advanced_here events one =
    ap (λ (known : ℕ → ℕ). known one.slot) (advanced_more events (Advanced one))
    ∙ ap (λ b. cond b one.position (advanced_after events one.slot)) (eq-eqb one.slot one.slot refl)
