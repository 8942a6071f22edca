-- Which connections have ended, by the events: those that have released their slots, or whose clients sent a status
-- that was refused.
use Rattle.std.proofs.Common.{◌≡◌, ℕ, List, [], ◌∷◌, ◌++◌, Bool, true, false, true≢false, refl, sym, ap, ◌∙◌, cond}
use Rattle.std.specs.Prelude.{◌==◌, Option, Some, None}
use Rattle.tables_log.specs.Slots.{with_use}
use Rattle.publisher_desk.specs.SlotEvents.{HaveEnded, KeepsEnded, ended_at, ended_with, events_then, events_with, over_after, over_by}
use Rattle.publisher_desk.specs.declared.connection_state.ConnectionState.{ConnectionState}
use Rattle.publisher_desk.specs.declared.slot_event.Acquisition.{Acquisition}
use Rattle.publisher_desk.specs.declared.slot_event.Advance.{Advance}
use Rattle.publisher_desk.specs.declared.slot_event.Confirmation.{Confirmation}
use Rattle.publisher_desk.specs.declared.slot_event.Release.{Release}
use Rattle.publisher_desk.specs.declared.slot_event.SlotEvent.{SlotEvent}
use Rattle.publisher_desk.specs.declared.slot_event.SlotEvent.TheVariants.{Acquired, Advanced, Confirmed, Released}
use Rattle.publisher_desk.specs.declared.slot_sight.SlotView.{SlotView}
use Rattle.publisher_desk.proofs.EventLemmas.{over_more}

-- ---- tests

-- where one holds, the other does
abbrev Within : (ℕ → Bool) → (ℕ → Bool) → Type 0
Within test other = (slot : ℕ) → test slot ≡ true → other slot ≡ true

same_within : (b is one other : Bool) → (one ≡ true → other ≡ true) → cond b is one ≡ true → cond b is other ≡ true
same_within true is one other within holds = holds
same_within false is one other within holds = within holds

with_within : (number : ℕ) (is : Bool) (test other : ℕ → Bool) → Within test other
    → Within (with_use number is test) (with_use number is other)
with_within number is test other within slot = same_within (slot == number) is (test slot) (other slot) (within slot)

ahead_within : (b : Bool) (number : ℕ) (test other : ℕ → Bool) → Within test other
    → Within (cond b (with_use number true test) test) (cond b (with_use number true other) other)
ahead_within true number test other within = with_within number true test other within
ahead_within false number test other within = within

ends_within : (acquired : Option Acquisition) (confirmed : Option Confirmation) (test other : ℕ → Bool)
    → Within test other → Within (ended_with acquired confirmed test) (ended_with acquired confirmed other)
ends_within None None test other within = within
ends_within None (Some one) test other within = ahead_within one.is_ahead one.slot test other within
ends_within (Some it) None test other within = with_within it.slot false test other within
ends_within (Some it) (Some one) test other within =
    ahead_within one.is_ahead one.slot (with_use it.slot false test) (with_use it.slot false other)
    (with_within it.slot false test other within)

-- ---- a use of the slots

over_then : (acquired : Option Acquisition) (confirmed : Option Confirmation) (events : List SlotEvent)
    → over_after (events_then confirmed (events_with acquired events))
    ≡ ended_with acquired confirmed (over_after events)
over_then None None events = refl
over_then None (Some one) events = over_more events (Confirmed one)
over_then (Some it) None events = over_more events (Acquired it)
over_then (Some it) (Some one) events =
    over_more (events ++ Acquired it ∷ []) (Confirmed one)
    ∙ ap (over_by (Confirmed one)) (over_more events (Acquired it))

pub streamed_ended : (old new written : List ConnectionState) (acquired : Option Acquisition)
    (confirmed : Option Confirmation) (events : List SlotEvent) (more : SlotView) → written ≡ new
    → more.all ≡ events_then confirmed (events_with acquired events) → KeepsEnded acquired confirmed old new
    → HaveEnded (over_after events) old → HaveEnded (over_after more.all) written
streamed_ended old new written acquired confirmed events more back same keeps ended slot refused =
    ap (λ (list : List ConnectionState). ended_at list slot) back
    ∙ keeps slot (ends_within acquired confirmed (over_after events) (ended_at old) ended slot
    (sym (ap (λ (test : ℕ → Bool). test slot)
    (ap over_after same ∙ over_then acquired confirmed events)) ∙ refused))

-- ---- other steps

-- the same events, and connections that end as before
pub stays_ended : (old written : List ConnectionState) (events : List SlotEvent) (more : SlotView)
    → over_after more.all ≡ over_after events → ((slot : ℕ) → ended_at written slot ≡ ended_at old slot)
    → HaveEnded (over_after events) old → HaveEnded (over_after more.all) written
stays_ended old written events more same kept ended slot refused =
    kept slot ∙ ended slot (sym (ap (λ (test : ℕ → Bool). test slot) same) ∙ refused)

pub advanced_over : (events : List SlotEvent) (one : Advance)
    → over_after (events ++ Advanced one ∷ []) ≡ over_after events
advanced_over events one = over_more events (Advanced one)

pub released_ended : (old set written : List ConnectionState) (events : List SlotEvent) (one : Release)
    (more : SlotView) → written ≡ set → more.all ≡ events ++ Released one ∷ []
    → HaveEnded (with_use one.slot true (ended_at old)) set → HaveEnded (over_after events) old
    → HaveEnded (over_after more.all) written
released_ended old set written events one more back same ends ended slot over =
    ap (λ (list : List ConnectionState). ended_at list slot) back
    ∙ ends slot (with_within one.slot true (over_after events) (ended_at old) ended slot
    (sym (ap (λ (test : ℕ → Bool). test slot) (ap over_after same ∙ over_more events (Released one))) ∙ over))

no_test : (b : Bool) → (b ≡ true → false ≡ true) → b ≡ false
no_test true means = absurd (true≢false (sym (means refl)))
no_test false means = refl

-- the stream of a connection that goes on is not over
pub goes_on_still : (connections : List ConnectionState) (events : List SlotEvent) (slot : ℕ)
    → HaveEnded (over_after events) connections → ended_at connections slot ≡ false
    → over_after events slot ≡ false
goes_on_still connections events slot ended on =
    no_test (over_after events slot) (λ over. sym on ∙ ended slot over)
