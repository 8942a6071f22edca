-- A quoted text read one byte at a time.
use Rattle.std.proofs.Common.{◌≡◌, ℕ, suc, ◌+◌, ◌<◌, ◌≤◌, Bool, true, false, ◌&&◌, ◌==◌, if◌then◌else◌, List, [], ◌∷◌, length, get_or, Option, Some, None, IfSome, refl, arith, eqb-true}
use Rattle.std.proofs.lemmas.Bool.Decides.{nat_tests}
use Rattle.sql_tokens.specs.Comments.{longer}
use Rattle.sql_tokens.specs.Quotes.{inner_len, undoubled}
use Rattle.sql_tokens.proofs.CommentLoops.{longer_none, longer_longer, longer_zero}

-- How many more bytes come before the closing quote: after a quote, which closes if no other follows, or after another
-- byte.
unfoldable pub inner_from : ℕ → Bool → List ℕ → Option ℕ
inner_from quote is_quote [] = if is_quote then Some 0 else None
inner_from quote is_quote (b ∷ bytes) =
    if is_quote then (if b == quote then longer 2 (inner_from quote false bytes) else Some 0)
    else (if b == 0 then None
    else (if b == quote then inner_from quote true bytes else longer 1 (inner_from quote false bytes)))

-- How many bytes are left once quotes are undoubled: after a quote, which may be the first of two, or after another
-- byte.
unfoldable pub undoubled_from : ℕ → Bool → List ℕ → ℕ
undoubled_from quote is_quote [] = 0
undoubled_from quote is_quote (b ∷ bytes) = if is_quote && b == quote then
    undoubled_from quote false bytes else 1 + undoubled_from quote (b == quote) bytes

inner_by_byte : (quote : ℕ) (bytes : List ℕ)
    → ((b : ℕ) → inner_len quote (b ∷ bytes)
    ≡ (if b == 0 then None
    else (if b == quote then inner_from quote true bytes else longer 1 (inner_from quote false bytes))))
    × (inner_len quote bytes ≡ inner_from quote false bytes)
unfolding inner_len inner_from
inner_by_byte quote [] = (λ b. grind (arith, nat_tests), refl)
inner_by_byte quote (c ∷ bytes) =
    let (after, here) = inner_by_byte quote bytes in
    let next = after c in (
      λ b. grind (arith, nat_tests, longer_none),
      next,
    )

undoubled_by_byte : (quote : ℕ) (bytes : List ℕ)
    → ((b : ℕ) → length (undoubled quote (b ∷ bytes)) ≡ 1 + undoubled_from quote (b == quote) bytes)
    × (length (undoubled quote bytes) ≡ undoubled_from quote false bytes)
unfolding undoubled undoubled_from
undoubled_by_byte quote [] = (λ b. refl, refl)
undoubled_by_byte quote (c ∷ bytes) =
    let (after, here) = undoubled_by_byte quote bytes in
    let next = after c in (
      λ b. grind (arith, nat_tests),
      next,
    )

pub inner_len-from : (quote : ℕ) (bytes : List ℕ) → inner_len quote bytes ≡ inner_from quote false bytes
inner_len-from quote bytes = (inner_by_byte quote bytes).1

pub undoubled-from : (quote : ℕ) (bytes : List ℕ) → length (undoubled quote bytes) ≡ undoubled_from quote false bytes
undoubled-from quote bytes = (undoubled_by_byte quote bytes).1

undoubled_from-no_longer : (quote : ℕ) (is_quote : Bool) (bytes : List ℕ)
    → undoubled_from quote is_quote bytes ≤ length bytes
unfolding undoubled_from
undoubled_from-no_longer quote is_quote [] = omega arith
undoubled_from-no_longer quote is_quote (b ∷ bytes) =
    let after_first = undoubled_from-no_longer quote false bytes in
    let after_other = undoubled_from-no_longer quote (b == quote) bytes in
    grind (arith, nat_tests)

-- a text is no longer once its quotes are undoubled
pub undoubled-no_longer : (quote : ℕ) (bytes : List ℕ) → length (undoubled quote bytes) ≤ length bytes
undoubled-no_longer quote bytes =
    let less = undoubled_from-no_longer quote false bytes in
    omega (arith, undoubled-from quote bytes)

-- the quote is at this place
abbrev IsAtQuote : ℕ → List ℕ → ℕ → Type 0
IsAtQuote quote bytes n = (n < length bytes) × (get_or bytes n 0 ≡ quote)

one_later : (quote b : ℕ) (bytes : List ℕ) (o : Option ℕ) → IfSome o (IsAtQuote quote bytes)
    → IfSome (longer 1 o) (IsAtQuote quote (b ∷ bytes))
one_later quote b bytes None h = tt
one_later quote b bytes (Some n) h = let e : 1 + n ≡ suc n = omega arith in rw e (omega arith, h.1)

two_later : (quote b c : ℕ) (bytes : List ℕ) (o : Option ℕ) → IfSome o (IsAtQuote quote bytes)
    → IfSome (longer 2 o) (IsAtQuote quote (b ∷ c ∷ bytes))
two_later quote b c bytes None h = tt
two_later quote b c bytes (Some n) h = let e : 2 + n ≡ suc (suc n) = omega arith in rw e (omega arith, h.1)

chosen : (b : Bool) (x y : Option ℕ) (P : ℕ → Type 0) → (b ≡ true → IfSome x P) → (b ≡ false → IfSome y P)
    → IfSome (if b then x else y) P
chosen true x y P h k = h refl
chosen false x y P h k = k refl

pub inner_len-at_quote : (quote : ℕ) (bytes : List ℕ) → IfSome (inner_len quote bytes) (IsAtQuote quote bytes)
unfolding inner_len
inner_len-at_quote quote [] = tt
inner_len-at_quote quote (b ∷ []) =
    chosen (b == 0) _ _ _ (λ _. tt) (λ _. chosen (b == quote) _ _ _ (λ e. (omega arith, eqb-true b quote e)) (λ _. tt))
inner_len-at_quote quote (b ∷ c ∷ bytes) =
    let at_first : b == quote ≡ true → IsAtQuote quote (b ∷ c ∷ bytes) 0 = λ e. (omega arith, eqb-true b quote e) in
    chosen (b == 0) _ _ _ (λ _. tt)
    (λ _. chosen (b == quote) _ _ _
    (λ e. chosen (c == quote) _ _ _ (λ _. two_later quote b c bytes _ (inner_len-at_quote quote bytes))
    (λ _. at_first e))
    (λ _. one_later quote b (c ∷ bytes) _ (inner_len-at_quote quote (c ∷ bytes))))

-- the quote is where the inner text ends
pub inner_len-ends : (quote : ℕ) (bytes : List ℕ) (n : ℕ) → inner_len quote bytes ≡ Some n → get_or bytes n 0 ≡ quote
inner_len-ends quote bytes n e = let found = rw e at (inner_len-at_quote quote bytes) in found.1

pub ruleset inner_turns = (longer_longer, longer_zero, inner_len-from, inner_len-ends)

pub ruleset undoubled_turns = undoubled-from

pub ruleset shorter = (undoubled-no_longer, nat_tests)
