-- Case distinctions on a test, and small facts about tests.
use Rattle.std.proofs.Common.{◌≡◌, Bool, true, false, not, ◌&&◌, ◌||◌, refl}
use Rattle.std.specs.Prelude.{T}

pub by_test : {P : Type 0} (b : Bool) → (b ≡ true → P) → (b ≡ false → P) → P
by_test true at_true at_false = at_true refl
by_test false at_true at_false = at_false refl

pub or_true : (b : Bool) → (b || true) ≡ true
or_true true = refl
or_true false = refl

pub or_false : (b : Bool) → (b || false) ≡ b
or_false true = refl
or_false false = refl

pub both_true : (p q : Bool) → (p && q) ≡ true → (p ≡ true) × (q ≡ true)
both_true true q h = (refl, h)
both_true false q h = absurd cc

pub from_test : (b : Bool) → T b → b ≡ true
from_test true t = refl
from_test false t = absurd t

pub and_not : (b : Bool) → (b && not b) ≡ false
and_not true = refl
and_not false = refl

pub and_false : (b : Bool) → (b && false) ≡ false
and_false true = refl
and_false false = refl
