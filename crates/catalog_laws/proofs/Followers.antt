-- What may follow a part of a filter's text.
use Rattle.std.proofs.Common.{◌≡◌, ℕ, Bool, true, false, ◌==◌, ◌&&◌, List, [], ◌∷◌, ap, sym, ◌∙◌}
use Rattle.std.proofs.lemmas.Bool.{eqb-false, false≢true}
use Rattle.catalog_laws.proofs.NumberTexts.{NoDigit}
use Rattle.catalog_laws.proofs.QuotedTexts.{Ends}

-- the first byte, or 0
abbrev pub first_byte : List ℕ → ℕ
first_byte [] = 0
first_byte (byte ∷ bytes) = byte

pub bytes_differ : (a b : ℕ) (x y : List ℕ) → a == b ≡ false → a ∷ x ≡ b ∷ y → ⊥
bytes_differ a b x y test e = eqb-false a b test (ap first_byte e)

-- whether the bytes begin with a space and this byte
abbrev pub begins : ℕ → List ℕ → Bool
begins byte [] = false
begins byte (first ∷ bytes) = (first == 32) && (first_byte bytes == byte)

pub begins_not : (byte : ℕ) (x z : List ℕ) → begins byte x ≡ false → begins byte z ≡ true → x ≡ z → ⊥
begins_not byte x z not is e = false≢true (sym not ∙ ap (begins byte) e ∙ is)

-- no digit, and none of the two quotes
pub record IsEnded (x : List ℕ) : Type 0 where
  pub digit : NoDigit x
  pub single : Ends 39 x
  pub double : Ends 34 x

-- after a term: no remainder of it
pub record FollowsTerm (x : List ℕ) : Type 0 where
  pub ended : IsEnded x
  pub percent : begins 37 x ≡ false

-- after NOT, a comparison or a test: no IS
pub record FollowsItem (x : List ℕ) : Type 0 where
  pub ended : IsEnded x
  pub is : begins 73 x ≡ false

-- after a conjunction: no AND
pub record FollowsAnd (x : List ℕ) : Type 0 where
  pub item : FollowsItem x
  pub and : begins 65 x ≡ false

-- after a disjunction: no OR
pub record FollowsOr (x : List ℕ) : Type 0 where
  pub conjunction : FollowsAnd x
  pub or : begins 79 x ≡ false
