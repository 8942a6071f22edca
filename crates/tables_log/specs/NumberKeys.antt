-- Keys that are one number, and other keys, which are kept apart: PostgreSQL 15, 5.4.4 Primary Keys, and 8.1.1
-- Integer Types.
use Rattle.std.specs.Prelude.{◌≡◌, ℤ, false, is_some, List, [], ◌∷◌, Option, Some, None}
use Rattle.filter_tree.specs.Datum.{Datum, Number, Known}

-- the number that a key is, if it is one number
abbrev pub number_of_key : List Datum → Option ℤ
number_of_key (Known (Number number) ∷ []) = Some number
number_of_key key = None

abbrev pub number_key : ℤ → List Datum
number_key number = Known (Number number) ∷ []

-- of a key that is one number what that number has, and of another what the key has
abbrev pub by_case : {X : Type 0} → (ℤ → X) → X → Option ℤ → X
by_case of_number of_key None = of_key
by_case of_number of_key (Some number) = of_number number

abbrev pub by_number : {X : Type 0} → (ℤ → X) → (List Datum → X) → List Datum → X
by_number of_number of_key key = by_case of_number (of_key key) (number_of_key key)

-- nothing is found by a key that is one number
abbrev pub HasNoNumber : {V : Type 0} → (List Datum → Option V) → Type 0
HasNoNumber found = (number : ℤ) → is_some (found (number_key number)) ≡ false
