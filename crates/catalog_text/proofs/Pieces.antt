-- A piece that is put at the end of the waiting pieces is written first; and what comes before and after a part.
use Rattle.std.proofs.Common.{◌≡◌, ℕ, ◌+◌, List, [], ◌∷◌, ◌++◌, refl, ap, arith, append-nil, append_assoc, ◌∙◌}
use Rattle.std.specs.Prelude.{Bool, true, false}
use Rattle.filter_tree.specs.declared.table.Column.{Column}
use Rattle.catalog_text.specs.FilterText.{signed}
use Rattle.catalog_text.specs.Waiting.{head, tail, piece_text, waiting_text, piece_steps, waiting_steps}
use Rattle.catalog_text.specs.declared.filter.Piece.{Piece}
use Rattle.catalog_text.specs.declared.level.Level.{Level}

pub waiting_more : (columns : List Column) (pieces : List Piece) (piece : Piece)
    → waiting_text columns (pieces ++ piece ∷ []) ≡ piece_text columns piece ++ waiting_text columns pieces
unfolding waiting_text
waiting_more columns [] piece = simp append-nil refl
waiting_more columns (first ∷ pieces) piece =
    rw (waiting_more columns pieces piece)
    (append_assoc (piece_text columns piece) (waiting_text columns pieces) (piece_text columns first))

pub steps_more : (pieces : List Piece) (piece : Piece)
    → waiting_steps (pieces ++ piece ∷ []) ≡ waiting_steps pieces + piece_steps piece
unfolding waiting_steps
steps_more [] piece = omega arith
steps_more (first ∷ pieces) piece = omega (arith, steps_more pieces piece)

pub signed_parts : (wanted : Level) (negated : Bool) (own : Level) (text : List ℕ)
    → signed wanted negated own text ≡ head wanted negated own ++ (text ++ tail wanted negated own)
signed_parts wanted true own text = simp append_assoc
signed_parts wanted false own text = refl

-- the first of the pieces that wait
pub first_waits : (columns : List Column) (old new : List Piece) (piece : Piece) (text : List ℕ)
    → new ≡ old ++ piece ∷ [] → piece_text columns piece ≡ text
    → waiting_text columns new ≡ text ++ waiting_text columns old
first_waits columns old new piece text is said =
    ap (waiting_text columns) is ∙ waiting_more columns old piece
    ∙ ap (λ (bytes : List ℕ). bytes ++ waiting_text columns old) said

pub none_left : (columns : List Column) (text : List ℕ) → text ++ waiting_text columns [] ≡ text
unfolding waiting_text
none_left columns text = append-nil text

pub only_waits : (columns : List Column) (old new : List Piece) (piece : Piece) (text : List ℕ) → old ≡ []
    → new ≡ old ++ piece ∷ [] → piece_text columns piece ≡ text → waiting_text columns new ≡ text
only_waits columns old new piece text none is said =
    first_waits columns old new piece text is said
    ∙ ap (λ (pieces : List Piece). text ++ waiting_text columns pieces) none ∙ none_left columns text

pub first_steps : (old new : List Piece) (piece : Piece) → new ≡ old ++ piece ∷ []
    → waiting_steps new ≡ waiting_steps old + piece_steps piece
first_steps old new piece is = ap waiting_steps is ∙ steps_more old piece

-- ---- what is written, and what waits; `w`, `w1` and so on are what waited at each step

pub pair_written : (wanted : Level) (negated : Bool) (own : Level) (old l words r text w w1 w2 w3 w4 : List ℕ)
    → text ≡ old ++ head wanted negated own → w1 ≡ tail wanted negated own ++ w → w2 ≡ r ++ w1 → w3 ≡ words ++ w2
    → w4 ≡ l ++ w3 → text ++ w4 ≡ old ++ (signed wanted negated own (l ++ (words ++ r)) ++ w)
pair_written wanted negated own old l words r text w w1 w2 w3 w4 e e1 e2 e3 e4 =
    rw (e4, e3, e2, e1, e, signed_parts wanted negated own (l ++ (words ++ r))) (simp append_assoc)

pub test_written : (old h part is not test t text w w1 w2 w3 w4 w5 : List ℕ) → text ≡ old ++ h → w1 ≡ t ++ w
    → w2 ≡ test ++ w1 → w3 ≡ not ++ w2 → w4 ≡ is ++ w3 → w5 ≡ part ++ w4
    → text ++ w5 ≡ old ++ ((h ++ ((part ++ (is ++ (not ++ test))) ++ t)) ++ w)
test_written old h part is not test t text w w1 w2 w3 w4 w5 e e1 e2 e3 e4 e5 =
    rw (e5, e4, e3, e2, e1, e) (simp append_assoc)

pub not_written : (old h not part t text more w w1 w2 : List ℕ) → text ≡ old ++ h → more ≡ text ++ not → w1 ≡ t ++ w
    → w2 ≡ part ++ w1 → more ++ w2 ≡ old ++ ((h ++ ((not ++ part) ++ t)) ++ w)
not_written old h not part t text more w w1 w2 e f e1 e2 = rw (e2, e1, f, e) (simp append_assoc)

pub ruleset waiting = (waiting_more, steps_more, signed_parts, append_assoc)

pub ruleset all_written = (waiting_more, steps_more, none_left, append_assoc)
