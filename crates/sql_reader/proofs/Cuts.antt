-- Cutting a quoted token out of a text, and its quotes off it.
use Rattle.std.proofs.Common.{◌≡◌, ℕ, ◌+◌, ◌-◌, ◌≤◌, List, length, take, drop, ap, sym, ◌∙◌, arith}
use Rattle.std.proofs.lemmas.List.{length-take-le, length-drop, drop-take, take-take, drop-drop}

-- what is between the first and the last byte of a token, and where that is in the text
pub between_ends : (text : List ℕ) (place len : ℕ) → 2 ≤ len → place + len ≤ length text →
    take (length (take len (drop place text)) - 2) (drop 1 (take len (drop place text)))
    ≡ take ((place + len - 1) - (place + 1)) (drop (place + 1) text)
between_ends text place len two within =
    let token : List ℕ = drop place text in
    let fits : len ≤ length token = rw (length-drop place text) (omega arith) in
    let count : length (take len token) ≡ len = length-take-le len token fits in
    let one : len ≡ 1 + (len - 1) = omega arith in
    let inner : drop 1 (take len token) ≡ take (len - 1) (drop 1 token) = ap (λ n. drop 1 (take n token)) one
    ∙ drop-take 1 (len - 1) token in
    let shorter : take (len - 2) (take (len - 1) (drop 1 token)) ≡ take (len - 2) (drop 1 token) =
    take-take (len - 2) (len - 1) (drop 1 token) (omega arith) in
    let further : drop 1 token ≡ drop (place + 1) text = drop-drop 1 place text in
    let size : (place + len - 1) - (place + 1) ≡ len - 2 = omega arith in
    ap (λ n. take (n - 2) (drop 1 (take len token))) count ∙ ap (take (len - 2)) inner ∙ shorter
    ∙ ap (take (len - 2)) further ∙ ap (λ n. take n (drop (place + 1) text)) (sym size)
