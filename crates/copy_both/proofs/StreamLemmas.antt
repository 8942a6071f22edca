-- A stream grows move by move.
use Rattle.std.proofs.Common.{◌≡◌, ℕ, zero, suc, ◌<◌, List, [], ◌∷◌, ◌++◌, length, take, drop, refl, sym, ap, subst, ◌∙◌, append_assoc, arith, length-append}
use Rattle.std.specs.Prelude.{slice_get}
use Rattle.std.specs.List.{flat_map}
use Rattle.std.proofs.lemmas.List.{append-nil, take-append-drop}
use Rattle.std.proofs.lemmas.List.Concat.{flat_map-append}
use Rattle.std.proofs.lemmas.Option.{slice_get_within}
use Rattle.copy_frames.specs.Contents.{copy_both_response}
use Rattle.copy_both.specs.Streams.{StreamItem, Response, spelled, Telling, StreamStateOf, Move, Take, Keep, take_items, taken_state, keep_item, keep_bytes, move_items, moved, all_items, all_moved}
use Rattle.copy_both.specs.StreamLaws.{IsThere, AllThere, Start, first_state, HasSent, StreamStarts, StreamTakes, StreamKeeps, StreamPasses, StreamGrows}

pub moved_append : {C : Type 0} (telling : Telling C) (log : List C) (state : StreamStateOf) (moves : List Move)
    (move : Move)
    → all_moved telling log state (moves ++ move ∷ []) ≡ moved telling log (all_moved telling log state moves) move
moved_append telling log state [] move = refl
moved_append telling log state (first ∷ moves) move =
    moved_append telling log (moved telling log state first) moves move

pub items_append : {C : Type 0} (telling : Telling C) (log : List C) (state : StreamStateOf) (moves : List Move)
    (move : Move)
    → all_items telling log state (moves ++ move ∷ []) ≡ all_items telling log state moves
    ++ move_items telling log (all_moved telling log state moves) move
items_append telling log state [] move = append-nil (move_items telling log state move)
items_append telling log state (first ∷ moves) move =
    ap (λ later. move_items telling log state first ++ later)
    (items_append telling log (moved telling log state first) moves move)
    ∙ sym (append_assoc (move_items telling log state first) _ _)

pub there_append : {C : Type 0} (telling : Telling C) (log : List C) (state : StreamStateOf) (moves : List Move)
    (move : Move)
    → AllThere telling log state moves → IsThere log (all_moved telling log state moves) move
    → AllThere telling log state (moves ++ move ∷ [])
there_append telling log state [] move there here = (here, tt)
there_append telling log state (first ∷ moves) move there here =
    (there.0, there_append telling log (moved telling log state first) moves move there.1 here)

-- one more move, whatever it is
speaks_on : {C : Type 0} (telling : Telling C) (log : List C) (start : Start) (moves : List Move)
    (passed output : List ℕ) (state : StreamStateOf) (move : Move)
    → HasSent telling log start moves passed output state → IsThere log state move
    → HasSent telling log start (moves ++ move ∷ []) passed
    (output ++ flat_map spelled (move_items telling log state move)) (moved telling log state move)
speaks_on telling log start moves passed output state move speaks here =
    let first : StreamStateOf = first_state start in
    let more : List StreamItem = move_items telling log state move in
    record {
      bytes =
          sym (append_assoc passed output (flat_map spelled more))
          ∙ ap (λ bytes. bytes ++ flat_map spelled more) speaks.bytes
          ∙ sym (flat_map-append spelled (Response ∷ all_items telling log first moves) more)
          ∙ ap (λ items. flat_map spelled (Response ∷ items))
          (ap (λ at. all_items telling log first moves ++ move_items telling log at move) speaks.at
          ∙ sym (items_append telling log first moves move));
      at = ap (λ at. moved telling log at move) speaks.at ∙ sym (moved_append telling log first moves move);
      there = there_append telling log first moves move speaks.there
          (let P : StreamStateOf → Type 0 = λ at. IsThere log at move in subst P speaks.at here);
    }

pub starts : {C : Type 0} (telling : Telling C) → StreamStarts telling
starts telling log start = record { bytes = sym (append-nil copy_both_response); at = refl; there = tt }

pub takes : {C : Type 0} (telling : Telling C) → StreamTakes telling
takes telling log start moves passed output state commit clock speaks got =
    let on = speaks_on telling log start moves passed output state (Take clock) speaks
    (slice_get_within log state.done commit got) in
    rw got at on

pub keeps : {C : Type 0} (telling : Telling C) → StreamKeeps telling
keeps telling log start moves passed output state clock want speaks =
    subst (λ bytes. HasSent telling log start (moves ++ Keep clock want ∷ []) passed (output ++ bytes) state)
    (append-nil (keep_bytes state clock want))
    (speaks_on telling log start moves passed output state (Keep clock want) speaks tt)

pub passes : {C : Type 0} (telling : Telling C) → StreamPasses telling
passes telling log start moves passed output state n speaks = record {
  bytes = append_assoc passed (take n output) (drop n output)
      ∙ ap (λ bytes. passed ++ bytes) (take-append-drop n output) ∙ speaks.bytes;
  at = speaks.at;
  there = speaks.there;
}

-- a longer log has the same commits at the places that were taken
pub got_longer : {C : Type 0} (log more : List C) (n : ℕ) → n < length log
    → slice_get (log ++ more) n ≡ slice_get log n
got_longer [] more n less = absurd (omega arith)
got_longer (first ∷ log) more zero less = refl
got_longer (first ∷ log) more (suc n) less = got_longer log more n (omega arith)

pub all_moved_longer : {C : Type 0} (telling : Telling C) (log more : List C) (state : StreamStateOf)
    (moves : List Move)
    → AllThere telling log state moves
    → all_moved telling (log ++ more) state moves ≡ all_moved telling log state moves
all_moved_longer telling log more state [] there = refl
all_moved_longer telling log more state (Take clock ∷ moves) there =
    ap (λ got. all_moved telling (log ++ more) (taken_state telling state got) moves)
    (got_longer log more state.done there.0)
    ∙ all_moved_longer telling log more (moved telling log state (Take clock)) moves there.1
all_moved_longer telling log more state (Keep clock want ∷ moves) there =
    all_moved_longer telling log more state moves there.1

pub items_longer : {C : Type 0} (telling : Telling C) (log more : List C) (state : StreamStateOf) (moves : List Move)
    → AllThere telling log state moves
    → all_items telling (log ++ more) state moves ≡ all_items telling log state moves
items_longer telling log more state [] there = refl
items_longer telling log more state (Take clock ∷ moves) there =
    ap (λ got. take_items telling state got clock ++ all_items telling (log ++ more) (taken_state telling state got)
    moves) (got_longer log more state.done there.0)
    ∙ ap (λ later. move_items telling log state (Take clock) ++ later)
    (items_longer telling log more (moved telling log state (Take clock)) moves there.1)
items_longer telling log more state (Keep clock want ∷ moves) there =
    ap (λ later. keep_item state clock want ∷ later) (items_longer telling log more state moves there.1)

pub all_there_longer : {C : Type 0} (telling : Telling C) (log more : List C) (state : StreamStateOf)
    (moves : List Move)
    → AllThere telling log state moves
    → AllThere telling (log ++ more) state moves
all_there_longer telling log more state [] there = tt
all_there_longer telling log more state (Take clock ∷ moves) there = (
  omega (arith, there.0, length-append log more),
  subst (λ got. AllThere telling (log ++ more) (taken_state telling state got) moves)
      (sym (got_longer log more state.done there.0))
      (all_there_longer telling log more (moved telling log state (Take clock)) moves there.1),
)
all_there_longer telling log more state (Keep clock want ∷ moves) there =
    (tt, all_there_longer telling log more state moves there.1)

pub grows : {C : Type 0} (telling : Telling C) → StreamGrows telling
grows telling log more start moves passed output state speaks = record {
  bytes = speaks.bytes ∙ ap (λ items. flat_map spelled (Response ∷ items))
      (sym (items_longer telling log more (first_state start) moves speaks.there));
  at = speaks.at ∙ sym (all_moved_longer telling log more (first_state start) moves speaks.there);
  there = all_there_longer telling log more (first_state start) moves speaks.there;
}
