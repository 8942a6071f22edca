-- Numbers that rise.
use Rattle.std.proofs.Common.{◌≡◌, ℕ, ◌+◌, ◌≤◌, List, [], ◌∷◌, length, refl, ◌∙◌, ap, arith}
use Rattle.std.specs.List.{range_with_len}
use Rattle.publisher_desk.specs.Logged.{RiseTo}

-- What is to be shown holds just where the numbers that are left rise.
pub record Leaves (whole : Type 0) (high low : ℕ) (numbers : List ℕ) : Type 0 where
  pub from : RiseTo high low numbers → whole
  pub to : whole → RiseTo high low numbers

-- As many as there is room for are each number, once.
rise_room : (high low : ℕ) (numbers : List ℕ) → low ≤ high → RiseTo high low numbers → low + length numbers ≤ high
rise_room high low [] bound rise = omega arith
rise_room high low (number ∷ numbers) bound rise =
    let rest = rise_room high number numbers rise.1 rise.2 in omega (arith, rest, rise.0)

pub rise_is_range : (high low : ℕ) (numbers : List ℕ) → low + length numbers ≡ high → RiseTo high low numbers
    → numbers ≡ range_with_len (low + 1) (length numbers)
rise_is_range high low [] count rise = refl
rise_is_range high low (number ∷ numbers) count rise =
    let room : number + length numbers ≤ high = rise_room high number numbers rise.1 rise.2 in
    let next : number ≡ low + 1 = omega (arith, room, rise.0, count) in
    let rest : numbers ≡ range_with_len (number + 1) (length numbers) =
    rise_is_range high number numbers (omega (arith, next, count)) rise.2 in
    ap (λ n. n ∷ numbers) next ∙ ap (λ (list : List ℕ). (low + 1) ∷ list) rest
    ∙ ap (λ n. (low + 1) ∷ range_with_len (n + 1) (length numbers)) next
