-- Tests and their results, and the places of lists.
use Rattle.std.proofs.Common.{◌≡◌, ℕ, Bool, true, false, not, ◌&&◌, ◌||◌, refl}
use Rattle.std.specs.Prelude.{◌==◌}
use Rattle.std.specs.Cmp.{unsigned_Decides}

pub two_true : (p q : Bool) → p ≡ true → q ≡ true → (p && q) ≡ true
two_true true q h k = k
two_true false q h k = absurd cc

pub two_false : (p q : Bool) → p ≡ false → q ≡ false → (p || q) ≡ false
two_false true q h k = absurd cc
two_false false q h k = k

pub both_false : (p q : Bool) → (p || q) ≡ false → (p ≡ false) × (q ≡ false)
both_false true q h = absurd cc
both_false false q h = (refl, h)

pub left_true : (p q : Bool) → p ≡ true → (p || q) ≡ true
left_true true q h = refl
left_true false q h = absurd cc

pub right_true : (p q : Bool) → q ≡ true → (p || q) ≡ true
right_true true q h = refl
right_true false q h = h

-- one of two tests passes
pub by_either : {P : Type 0} (p q : Bool) → (p || q) ≡ true → (p ≡ true → P) → (q ≡ true → P) → P
by_either true q h at_left at_right = at_left refl
by_either false q h at_left at_right = at_right h

pub not_true : (b : Bool) → not b ≡ true → b ≡ false
not_true true h = absurd cc
not_true false h = refl

pub clash : (b : Bool) → b ≡ true → b ≡ false → ⊥
clash b h k = cc

pub not_true_false : (b : Bool) → (b ≡ true → ⊥) → b ≡ false
not_true_false true h = absurd (h refl)
not_true_false false h = refl

pub same_number : (m n : ℕ) → (m == n) ≡ true → m ≡ n
same_number m n h = (unsigned_Decides m n).0 h

pub number_itself : (n : ℕ) → (n == n) ≡ true
number_itself n = (unsigned_Decides n n).1 refl
