-- A stream grows move by move, and what was passed on and what waits are together the stream.
use Rattle.std.specs.Prelude.{◌≡◌, ℕ, ◌<◌, Bool, List, [], ◌∷◌, ◌++◌, length, take, drop, slice_get, Some}
use Rattle.copy_frames.specs.Contents.{copy_both_response}
use Rattle.copy_both.specs.Streams.{Telling, StreamStateOf, Move, Take, Keep, state_at, state_after, take_bytes, keep_bytes, moved, all_moved, stream}

-- each commit that is taken exists
abbrev pub IsThere : {C : Type 0} → List C → StreamStateOf → Move → Type 0
IsThere log state (Take clock) = state.done < length log
IsThere log state (Keep clock want) = Unit {0}

abbrev pub AllThere : {C : Type 0} → Telling C → List C → StreamStateOf → List Move → Type 0
AllThere telling log state [] = Unit {0}
AllThere telling log state (move ∷ moves) = IsThere log state move
    × AllThere telling log (moved telling log state move) moves

-- where a connection starts
pub record Start : Type 0 where
  pub slot : ℕ
  pub tables : ℕ
  pub position : ℕ

abbrev pub first_state : Start → StreamStateOf
first_state start = state_at start.slot start.tables start.position

-- what a connection passed on and what waits are its stream so far, and it is at the place where the moves lead
pub record HasSent {C : Type 0} (telling : Telling C) (log : List C) (start : Start) (moves : List Move)
    (passed output : List ℕ) (state : StreamStateOf) : Type 0 where
  pub bytes : passed ++ output ≡ stream telling log start.slot start.tables start.position moves
  pub at : state ≡ all_moved telling log (first_state start) moves
  pub there : AllThere telling log (first_state start) moves

abbrev pub StreamStarts : {C : Type 0} → Telling C → Type 0
StreamStarts {C = C} telling = (log : List C) (start : Start)
    → HasSent telling log start [] [] copy_both_response (first_state start)

abbrev pub StreamTakes : {C : Type 0} → Telling C → Type 0
StreamTakes {C = C} telling =
    (log : List C) (start : Start) (moves : List Move) (passed output : List ℕ) (state : StreamStateOf) (commit : C)
    (clock : ℕ)
    → HasSent telling log start moves passed output state → slice_get log state.done ≡ Some commit
    → HasSent telling log start (moves ++ Take clock ∷ []) passed (output ++ take_bytes telling state commit clock)
    (state_after telling state commit)

abbrev pub StreamKeeps : {C : Type 0} → Telling C → Type 0
StreamKeeps {C = C} telling =
    (log : List C) (start : Start) (moves : List Move) (passed output : List ℕ) (state : StreamStateOf) (clock : ℕ)
    (want : Bool)
    → HasSent telling log start moves passed output state
    → HasSent telling log start (moves ++ Keep clock want ∷ []) passed (output ++ keep_bytes state clock want) state

abbrev pub StreamPasses : {C : Type 0} → Telling C → Type 0
StreamPasses {C = C} telling =
    (log : List C) (start : Start) (moves : List Move) (passed output : List ℕ) (state : StreamStateOf) (n : ℕ)
    → HasSent telling log start moves passed output state
    → HasSent telling log start moves (passed ++ take n output) (drop n output) state

abbrev pub StreamGrows : {C : Type 0} → Telling C → Type 0
StreamGrows {C = C} telling = (log more : List C) (start : Start) (moves : List Move) (passed output : List ℕ)
    (state : StreamStateOf)
    → HasSent telling log start moves passed output state
    → HasSent telling (log ++ more) start moves passed output state
