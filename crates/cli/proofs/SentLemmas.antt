-- Up to where clients were sent the log, after the state of one connection is set.
use Rattle.std.proofs.Common.{◌≡◌, ℕ, zero, suc, List, [], ◌∷◌, refl, ◌∙◌}
use Rattle.std.specs.Prelude.{slice_set, None}
use Rattle.publisher_desk.specs.SlotEvents.{KeepsSent, sent_at}
use Rattle.publisher_desk.specs.declared.connection_state.ConnectionState.{ConnectionState}

-- each was sent what it was sent before, if that one was
sent_stays : (connections : List ConnectionState) (slot number : ℕ) (now : ConnectionState)
    → now.sent ≡ sent_at connections slot
    → sent_at (slice_set connections slot now) number ≡ sent_at connections number
sent_stays [] slot number now is = refl
sent_stays (first ∷ connections) zero zero now is = is
sent_stays (first ∷ connections) zero (suc number) now is = refl
sent_stays (first ∷ connections) (suc slot) zero now is = refl
sent_stays (first ∷ connections) (suc slot) (suc number) now is = sent_stays connections slot number now is

pub set_keeps : (connections : List ConnectionState) (slot : ℕ) (now : ConnectionState)
    → now.sent ≡ sent_at connections slot → KeepsSent None connections (slice_set connections slot now)
set_keeps connections slot now is number = sent_stays connections slot number now is

pub then_sent : (old mid new : List ConnectionState) → KeepsSent None old mid → KeepsSent None mid new
    → KeepsSent None old new
then_sent old mid new first second slot = second slot ∙ first slot
