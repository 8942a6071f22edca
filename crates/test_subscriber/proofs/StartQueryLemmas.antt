-- How the frame of a start is composed.
use Rattle.std.proofs.Common.{◌≡◌, ℕ, ◌+◌, ◌≤◌, false, List, [], ◌∷◌, ◌++◌, length, ◌∙◌, append_assoc, arith, length-append}
use Rattle.std.specs.Prelude.{nat_lt}
use Rattle.std.specs.Int.{to_be_bytes, w32}
use Rattle.std.proofs.lemmas.Bool.Decides.{nat_tests}
use Rattle.test_subscriber.specs.StartQuery.{query, query_of, Asks}

spelled : (text old : List ℕ) (number : ℕ) → number ≡ length text + 5
    → (((old ++ 81 ∷ []) ++ to_be_bytes w32 number) ++ text) ++ 0 ∷ [] ≡ old ++ query text
spelled text old number is =
    let size : number ≡ length (text ++ 0 ∷ []) + 4 = omega (arith, length-append text (0 ∷ [])) in
    rw size (simp append_assoc)

pub query_asked : (text old new : List ℕ) (number : ℕ) → length text ≤ 65531 → number ≡ length text + 5
    → new ≡ (((old ++ 81 ∷ []) ++ to_be_bytes w32 number) ++ text) ++ 0 ∷ [] → Asks (query_of text) old new
query_asked text old new number few is made =
    let short : nat_lt 65531 (length text) ≡ false = grind (arith, nat_tests) in
    rw short (made ∙ spelled text old number is)
