-- A comment read one byte at a time.
use Rattle.std.proofs.Common.{◌≡◌, ℕ, ◌+◌, ◌-◌, ◌&&◌, ◌==◌, if◌then◌else◌, List, [], ◌∷◌, Option, Some, None, refl, ap, arith}
use Rattle.std.proofs.lemmas.Bool.Decides.{nat_tests}
use Rattle.sql_tokens.specs.Comments.{longer, block_comment}

-- What is left of a comment after the byte `before`, which is 0 if that byte belongs to a mark.
unfoldable pub comment_from : ℕ → ℕ → List ℕ → Option ℕ
comment_from depth before [] = None
comment_from depth before (b ∷ bytes) =
    if b == 0 then None
    else (if before == 47 && b == 42 then longer 1 (comment_from (depth + 1) 0 bytes)
    else (if before == 42 && b == 47 then (if depth == 0 then Some 1 else longer 1 (comment_from (depth - 1) 0 bytes))
    else longer 1 (comment_from depth b bytes)))

pub longer_none : (n : ℕ) (o : Option ℕ) → o ≡ None → longer n o ≡ None
longer_none n o e = rw e

pub longer_longer : (m n : ℕ) (o : Option ℕ) → longer m (longer n o) ≡ longer (m + n) o
longer_longer m n None = refl
longer_longer m n (Some k) = let e : m + (n + k) ≡ m + n + k = omega arith in ap Some e

pub longer_zero : (o : Option ℕ) → longer 0 o ≡ o
longer_zero None = refl
longer_zero (Some k) = let e : 0 + k ≡ k = omega arith in ap Some e

-- a comment with and without its first byte, and read one byte at a time
turns : (bytes : List ℕ)
    → ((depth b : ℕ) → block_comment depth (b ∷ bytes)
    ≡ (if b == 0 then None else longer 1 (comment_from depth b bytes)))
    × ((depth : ℕ) → block_comment depth bytes ≡ comment_from depth 0 bytes)
unfolding block_comment comment_from
turns [] = (λ depth b. grind (arith, nat_tests), λ depth. refl)
turns (c ∷ bytes) =
    let (after, here) = turns bytes in (
      λ depth b.
          let more = here (depth + 1) in
          let less = here (depth - 1) in
          let next = after depth c in
          grind (arith, nat_tests, longer_none, longer_longer),
      λ depth. let next = after depth c in grind (arith, nat_tests),
    )

pub block_comment-from : (bytes : List ℕ) → block_comment 0 bytes ≡ comment_from 0 0 bytes
block_comment-from bytes = (turns bytes).1 0

pub ruleset comment_turns = (longer_longer, longer_zero, block_comment-from)
