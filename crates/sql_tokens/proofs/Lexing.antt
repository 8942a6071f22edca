-- What the tokens of a text are, by the piece at a place.
use Rattle.std.proofs.Common.{◌≡◌, ℕ, zero, suc, ◌+◌, ◌-◌, ◌<◌, ◌≤◌, List, [], ◌∷◌, length, take, drop, refl, ap, ◌∙◌, arith, add-zero}
use Rattle.std.proofs.lemmas.List.{drop_more, drop_all, length-drop, drop-drop}
use Rattle.sql_tokens.specs.declared.kinds.TokenKind.{TokenKind}
use Rattle.sql_tokens.specs.declared.kinds.FaultKind.{FaultKind}
use Rattle.sql_tokens.specs.declared.kinds.Piece.TheVariants.{Blank, Whole, Faulty}
use Rattle.sql_tokens.specs.Front.{front}
use Rattle.sql_tokens.specs.Lexed.{End, Bad, Then, begins, tokens_from, at}

-- skipped bytes are dropped
pub tokens_from-skip : (place skip : ℕ) (bytes : List ℕ) → skip ≤ length bytes
    → tokens_from place skip bytes ≡ tokens_from (place + skip) 0 (drop skip bytes)
unfolding tokens_from
tokens_from-skip place zero bytes h = rw add-zero refl
tokens_from-skip place (suc skip) [] h = absurd (omega arith)
tokens_from-skip place (suc skip) (b ∷ bytes) h =
    let e : place + 1 + skip ≡ place + suc skip = omega arith in
    rw (← e) (tokens_from-skip (place + 1) skip bytes (omega arith))

pub at-end : (text : List ℕ) (place : ℕ) → length text ≤ place → place ≤ length text → at text place ≡ End (length text)
unfolding tokens_from
at-end text place h k = rw (drop_all place text h) (ap End (omega arith))

pub at-piece : (text : List ℕ) (place : ℕ) → place < length text
    → at text place ≡ begins (front (drop place text)) place (drop place text)
    (λ n. tokens_from (place + 1) n (drop (place + 1) text))
unfolding tokens_from
at-piece text place h = rw (drop_more text place 0 h) refl

rest_at : (text : List ℕ) (place n : ℕ) → 0 < n → place + n ≤ length text
    → tokens_from (place + 1) (n - 1) (drop (place + 1) text) ≡ at text (place + n)
rest_at text place n some within =
    let long : n - 1 ≤ length (drop (place + 1) text) = omega (arith, length-drop (place + 1) text) in
    let e : place + 1 + (n - 1) ≡ place + n = omega arith in
    let f : drop (n - 1) (drop (place + 1) text) ≡ drop (place + n) text = drop-drop (n - 1) (place + 1) text
    ∙ ap (λ k. drop k text) e in
    tokens_from-skip (place + 1) (n - 1) (drop (place + 1) text) long ∙ rw (e, f) refl

-- one step of `at`, by the piece at that place
pub at-blank : (text : List ℕ) (place n : ℕ) → place < length text → front (drop place text) ≡ Blank n → 0 < n
    → place + n ≤ length text → at text place ≡ at text (place + n)
at-blank text place n h e some within =
    rw (at-piece text place h, e) (rest_at text place n some within)

pub at-token : (text : List ℕ) (place : ℕ) (kind : TokenKind) (n : ℕ) → place < length text
    → front (drop place text) ≡ Whole kind n → 0 < n → place + n ≤ length text
    → at text place ≡ Then (record { kind = kind; place = place; text = take n (drop place text) })
    (at text (place + n))
at-token text place kind n h e some within =
    rw (at-piece text place h, e)
    (ap (Then (record { kind = kind; place = place; text = take n (drop place text) }))
    (rest_at text place n some within))

pub at-fault : (text : List ℕ) (place : ℕ) (fault : FaultKind) → place < length text
    → front (drop place text) ≡ Faulty fault → at text place ≡ Bad place fault
at-fault text place fault h e = rw (at-piece text place h, e) refl

pub ruleset lexing = (at-blank, at-token, at-fault, at-end)
