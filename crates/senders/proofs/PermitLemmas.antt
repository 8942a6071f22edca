-- When a listener gets the permit of a stream.
use Rattle.std.proofs.Common.{◌≡◌, ℕ, refl, sym, ◌∙◌, ap, subst}
use Rattle.std.specs.Prelude.{Option, Some, None}
use Rattle.shard_checker.specs.CheckedView.{CheckedOf}
use Rattle.copy_both.specs.Ears.{ear_started}
use Rattle.copy_both.proofs.RaisedSlots.{hearing_raises}
use Rattle.publisher_desk.specs.Viewers.{IsUsed, ViewerOf, permit_for}
use Rattle.publisher_desk.specs.declared.slot_event.Acquisition.{Acquisition}
use Rattle.senders.specs.Hearing.{StaysStarted}
use Rattle.senders.specs.Listening.{AcquiresFor, PermitsStart}
use Rattle.senders.specs.declared.listener.Listened.{Listened}
use Rattle.senders.specs.declared.listener.Listener.{Listener}
use Rattle.senders.proofs.HearingLemmas.{ListenerDid}

-- ---- a piece

permits_none : (was now : Option (ℕ × ℕ)) → ((started : ℕ × ℕ) → was ≡ Some started → now ≡ Some started)
    → (was ≡ None → now ≡ None) → PermitsStart was now None
permits_none (Some started) now stays none = (stays started refl, refl)
permits_none None None stays none = refl
permits_none None (Some started) stays none = absurd (let no : Some started ≡ None = none refl in cc)

permits_one : (was now : Option (ℕ × ℕ)) (slot start : ℕ) → was ≡ None → now ≡ Some (slot, start)
    → PermitsStart was now (Some slot)
permits_one (Some started) now slot start fresh some = absurd cc
permits_one None None slot start fresh some = absurd cc
permits_one None (Some started) slot start fresh some =
    let same : started ≡ (slot, start) = cc in ap (λ (stream : ℕ × ℕ). Some stream.0) (sym same)

permits_by : (before after : Listener) (number : ℕ) (acquired : Option Acquisition)
    → StaysStarted before.ear after.ear → AcquiresFor before after number acquired
    → PermitsStart (ear_started before.ear) (ear_started after.ear) (permit_for acquired)
permits_by before after number None stays acquires =
    permits_none (ear_started before.ear) (ear_started after.ear) stays acquires.0
permits_by before after number (Some one) stays acquires =
    permits_one (ear_started before.ear) (ear_started after.ear) one.slot one.start acquires.0 acquires.1

-- the slot of a stream that starts is acquired in the piece
pub permits_used : (checked : CheckedOf) (was now : ViewerOf) (before after : Listener) (listened : Listened)
    (permit : Option ℕ) → IsUsed ListenerDid checked was now before after listened permit
    → PermitsStart (ear_started before.ear) (ear_started after.ear) permit
permits_used checked was now before after listened permit used =
    let did = used.lent.does in
    subst (PermitsStart (ear_started before.ear) (ear_started after.ear)) (sym used.permit_is)
    (permits_by before after used.number used.acquired
    (hearing_raises before.ear after.ear used.lent.old used.lent.new _ _ listened.heard did.0.left).stays
    did.1)

-- ---- no piece

pub permits_same : (was now : Option (ℕ × ℕ)) → now ≡ was → PermitsStart was now None
permits_same was now same =
    permits_none was now (λ started is. same ∙ is) (λ none. same ∙ none)

-- ---- what follows from a permit

-- a stream has started
pub started_by : (was now : Option (ℕ × ℕ)) (permit : ℕ) → was ≡ None → PermitsStart was now (Some permit)
    → (stream : ℕ × ℕ) × (now ≡ Some stream)
started_by (Some started) now permit fresh permits = absurd cc
started_by None None permit fresh permits = absurd cc
started_by None (Some stream) permit fresh permits = (stream, refl)

-- the permit is that of its slot
pub permit_of_start : (was now : Option (ℕ × ℕ)) (permit : ℕ) (stream : ℕ × ℕ) → was ≡ None
    → PermitsStart was now (Some permit) → now ≡ Some stream → permit ≡ stream.0
permit_of_start (Some started) now permit stream fresh permits some = absurd cc
permit_of_start None None permit stream fresh permits some = absurd cc
permit_of_start None (Some started) permit stream fresh permits some =
    let same : started ≡ stream = cc in
    let slot : permit ≡ started.0 = cc in slot ∙ ap (λ (one : ℕ × ℕ). one.0) same

-- without one there is still none
pub unstarted_by : (was now : Option (ℕ × ℕ)) → was ≡ None → PermitsStart was now None → now ≡ None
unstarted_by (Some started) now fresh permits = absurd cc
unstarted_by None None fresh permits = refl
unstarted_by None (Some stream) fresh permits = absurd cc

-- a stream that had started stays so, and has no second permit
pub kept_by : (was now : Option (ℕ × ℕ)) (permit : Option ℕ) (stream : ℕ × ℕ) → was ≡ Some stream
    → PermitsStart was now permit → (now ≡ Some stream) × (permit ≡ None)
kept_by (Some started) now permit stream some permits =
    let same : started ≡ stream = cc in
    (permits.0 ∙ ap (λ (one : ℕ × ℕ). Some one) same, permits.1)
kept_by None now permit stream some permits = absurd cc
