-- Which connections have ended, after the state of one is set.
use Rattle.std.proofs.Common.{◌≡◌, ℕ, zero, suc, List, [], ◌∷◌, refl, ◌∙◌}
use Rattle.std.specs.Prelude.{slice_set, None}
use Rattle.publisher_desk.specs.SlotEvents.{KeepsEnded, ended_at}
use Rattle.publisher_desk.specs.declared.connection_state.ConnectionState.{ConnectionState}

-- those that had before, if that one had or has not
ended_stays : (connections : List ConnectionState) (slot number : ℕ) (now : ConnectionState)
    → now.has_ended ≡ ended_at connections slot
    → ended_at (slice_set connections slot now) number ≡ ended_at connections number
ended_stays [] slot number now is = refl
ended_stays (first ∷ connections) zero zero now is = is
ended_stays (first ∷ connections) zero (suc number) now is = refl
ended_stays (first ∷ connections) (suc slot) zero now is = refl
ended_stays (first ∷ connections) (suc slot) (suc number) now is = ended_stays connections slot number now is

pub set_ends : (connections : List ConnectionState) (slot : ℕ) (now : ConnectionState)
    → now.has_ended ≡ ended_at connections slot → KeepsEnded None None connections (slice_set connections slot now)
set_ends connections slot now is number ended = ended_stays connections slot number now is ∙ ended

pub then_ended : (old mid new : List ConnectionState) → KeepsEnded None None old mid → KeepsEnded None None mid new
    → KeepsEnded None None old new
then_ended old mid new first second slot ended = second slot (first slot ended)
