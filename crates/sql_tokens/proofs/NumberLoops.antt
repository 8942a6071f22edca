-- A number only grows with more digits.
use Rattle.std.proofs.Common.{ℕ, ◌+◌, ◌-◌, ◌*◌, ◌≤◌, List, [], ◌∷◌, arith}
use Rattle.sql_tokens.specs.Numbers.{number_from}

pub number_from-grows : (n : ℕ) (digits : List ℕ) → n ≤ number_from n digits
unfolding number_from
number_from-grows n [] = omega arith
number_from-grows n (d ∷ digits) = let more = number_from-grows (10 * n + (d - 48)) digits in omega arith

pub ruleset number_turns = number_from-grows
