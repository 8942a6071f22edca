-- A line of answers grows by what the next publication says.
use Rattle.std.proofs.Common.{◌≡◌, ℕ, ◌+◌, ◌<◌, List, [], ◌∷◌, ◌++◌, length, map, take, get_or, refl, sym, ap, ◌∙◌, arith, append_assoc, length-append}
use Rattle.std.specs.List.{join_with_byte}
use Rattle.std.proofs.lemmas.List.{take_more, map-append}
use Rattle.filter_tree.specs.Datum.{Datum}
use Rattle.commands.specs.declared.eval.carriers.Carrier.{Carrier}
use Rattle.commands.specs.Eval.Answers.{answer_of, said_by, line_of, with_said, word_of}
use Rattle.commands.specs.Eval.Carriers.{CarrierOf, carrier_view}

-- the pieces of a line, and one more
join-next : (first : List ℕ) (pieces : List (List ℕ)) (said : List ℕ)
    → join_with_byte 32 (first ∷ (pieces ++ said ∷ [])) ≡ join_with_byte 32 (first ∷ pieces) ++ 32 ∷ said
join-next first [] said = refl
join-next first (next ∷ pieces) said =
    ap (λ line. first ++ 32 ∷ line) (join-next next pieces said)
    ∙ sym (append_assoc first (32 ∷ join_with_byte 32 (next ∷ pieces)) (32 ∷ said))

-- the first piece, if there is one, has a byte
abbrev StartsFull : List (List ℕ) → Type 0
StartsFull [] = Unit {0}
StartsFull (first ∷ pieces) = 0 < length first

with_said-join : (pieces : List (List ℕ)) (said : List ℕ) → StartsFull pieces
    → with_said (join_with_byte 32 pieces) said ≡ join_with_byte 32 (pieces ++ said ∷ [])
with_said-join [] said full = refl
with_said-join ([] ∷ pieces) said full = absurd (omega arith)
with_said-join ((byte ∷ first) ∷ []) said full = refl
with_said-join ((byte ∷ first) ∷ next ∷ pieces) said full = sym (join-next (byte ∷ first) (next ∷ pieces) said)

said_starts_full : (row : List Datum) (carriers : List CarrierOf) → StartsFull (map (said_by row) carriers)
said_starts_full row [] = tt
said_starts_full row (carrier ∷ carriers) =
    omega (arith, length-append carrier.name (61 ∷ word_of (answer_of row carrier.filter)))

line_of-append : (row : List Datum) (carriers : List CarrierOf) (next : CarrierOf)
    → with_said (line_of row carriers) (said_by row next) ≡ line_of row (carriers ++ next ∷ [])
line_of-append row carriers next =
    with_said-join (map (said_by row) carriers) (said_by row next) (said_starts_full row carriers)
    ∙ ap (join_with_byte 32) (sym (map-append (said_by row) carriers (next ∷ [])))

-- the line of one more carrier of a list
pub line_of-next : (row : List Datum) (carriers : List Carrier) (i : ℕ) (next : Carrier) → i < length carriers
    → next ≡ get_or carriers i next
    → line_of row (map carrier_view (take (i + 1) carriers))
    ≡ with_said (line_of row (map carrier_view (take i carriers))) (said_by row (carrier_view next))
line_of-next row carriers i next within e =
    let front = take i carriers in
    let more : take (i + 1) carriers ≡ front ++ next ∷ [] = take_more carriers i next within
    ∙ ap (λ p. front ++ p ∷ []) (sym e) in
    ap (λ c. line_of row (map carrier_view c)) more ∙ ap (line_of row) (map-append carrier_view front (next ∷ []))
    ∙ sym (line_of-append row (map carrier_view front) (carrier_view next))
