-- What is at the front of a text that begins with a digit or a mark.
use Rattle.std.proofs.Common.{◌≡◌, ℕ, true, List, slice_index, refl, arith}
use Rattle.std.proofs.lemmas.Bool.Decides.{nat_tests}
use Rattle.sql_tokens.specs.declared.bytes.Class.TheVariants as class
use Rattle.sql_tokens.specs.Bytes.{is_in_class}
use Rattle.sql_tokens.specs.Front.{front, punctuation}
use Rattle.sql_tokens.specs.Numbers.{front_number}

pub front-digit : (bytes : List ℕ) → is_in_class class.Digit (slice_index bytes 0) ≡ true
    → front bytes ≡ front_number bytes
unfolding front
front-digit bytes digit = grind (arith, nat_tests)

pub front-open : (bytes : List ℕ) → slice_index bytes 0 ≡ 40 → front bytes ≡ punctuation 40 (slice_index bytes 1)
unfolding front
front-open bytes e = rw e refl

pub front-close : (bytes : List ℕ) → slice_index bytes 0 ≡ 41 → front bytes ≡ punctuation 41 (slice_index bytes 1)
unfolding front
front-close bytes e = rw e refl

pub front-comma : (bytes : List ℕ) → slice_index bytes 0 ≡ 44 → front bytes ≡ punctuation 44 (slice_index bytes 1)
unfolding front
front-comma bytes e = rw e refl

pub front-semicolon : (bytes : List ℕ) → slice_index bytes 0 ≡ 59 → front bytes ≡ punctuation 59 (slice_index bytes 1)
unfolding front
front-semicolon bytes e = rw e refl

pub ruleset fronts = (front-digit, front-open, front-close, front-comma, front-semicolon, nat_tests)
