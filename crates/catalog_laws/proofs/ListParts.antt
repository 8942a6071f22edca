-- What holds for a list that is made of two lists, holds for each of them.
use Rattle.std.proofs.Common.{◌≡◌, Bool, false, List, [], ◌∷◌, ◌++◌}
use Rattle.std.specs.List.{AllByRecursion, IsDistinct}

pub first_all : {A : Type 0} (P : A → Type 0) (ones others : List A) → AllByRecursion P (ones ++ others)
    → AllByRecursion P ones
first_all P [] others h = tt
first_all P (one ∷ ones) others h = (h.0, first_all P ones others h.1)

pub later_all : {A : Type 0} (P : A → Type 0) (ones others : List A) → AllByRecursion P (ones ++ others)
    → AllByRecursion P others
later_all P [] others h = h
later_all P (one ∷ ones) others h = later_all P ones others h.1

pub first_differ : {K : Type 0} (test : K → K → Bool) (ones others : List K) → IsDistinct test (ones ++ others)
    → IsDistinct test ones
unfolding IsDistinct
first_differ test [] others h = tt
first_differ test (one ∷ ones) others h =
    (first_all (λ y. test one y ≡ false) ones others h.0, first_differ test ones others h.1)

pub later_differ : {K : Type 0} (test : K → K → Bool) (ones others : List K) → IsDistinct test (ones ++ others)
    → IsDistinct test others
unfolding IsDistinct
later_differ test [] others h = h
later_differ test (one ∷ ones) others h = later_differ test ones others h.1
