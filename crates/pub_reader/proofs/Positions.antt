-- The position of a name in a list of things that have names.
use Rattle.std.proofs.Common.{◌≡◌, ℕ, ◌+◌, ◌≤◌, Bool, true, false, ◌||◌, cond, List, [], ◌∷◌, ◌++◌, map, length, refl, ap, sym, ◌∙◌, arith}
use Rattle.std.proofs.lemmas.List.{map-append}
use Rattle.std.specs.Prelude.{Some, None, nat_lt, position}
use Rattle.std.specs.List.{list_any, position_or_len}
use Rattle.std.specs.Str.{bytes_eq}
use Rattle.std.proofs.lemmas.Bool.Decides.{nat_tests}
use Rattle.pub_catalog.proofs.Positions.{position-map}
use Rattle.pub_reader.specs.Drafts.{with_name}
use Rattle.filter_tree.proofs.Tests.{by_test}

not_found : {A : Type 0} (p : A → Bool) (xs : List A) → length xs ≤ position_or_len p xs → list_any p xs ≡ false
not_found p [] past = refl
not_found p (x ∷ xs) past =
    by_test (p x)
    (λ passes. let none : position_or_len p (x ∷ xs) ≡ 0 = rw passes refl in absurd (omega arith))
    (λ misses. let more : position_or_len p (x ∷ xs) ≡ 1 + position_or_len p xs = rw misses refl in
    rw misses (not_found p xs (omega arith)))

past_end : (n m : ℕ) → cond (nat_lt n m) (Some n) None ≡ None → m ≤ n
past_end n m e = by_test (nat_lt n m) (λ less. let bad : Some n ≡ None = rw less at e in cc)
    (λ same. grind (arith, nat_tests))

-- what has no position is not in the list
pub position-none : {A : Type 0} (p : A → Bool) (xs : List A) → position p xs ≡ None → list_any p xs ≡ false
position-none p xs e = not_found p xs (past_end (position_or_len p xs) (length xs) e)

pub list_any-map : {A B : Type 0} (p : B → Bool) (f : A → B) (xs : List A)
    → list_any p (map f xs) ≡ list_any (λ x. p (f x)) xs
list_any-map p f [] = refl
list_any-map p f (x ∷ xs) = ap (λ b. p (f x) || b) (list_any-map p f xs)

-- the same, if the list of names is known by an equation
pub position-by_names : {A : Type 0} (text : List ℕ) (name_of : A → List ℕ) (names : List (List ℕ)) (xs : List A)
    → names ≡ map name_of xs →
    position (bytes_eq text) names ≡ position (λ x. bytes_eq text (name_of x)) xs
position-by_names text name_of names xs e = ap (position (bytes_eq text)) e ∙ position-map (bytes_eq text) name_of xs

-- names remain the names of a list if one is added to each
pub names-push : {A : Type 0} (name_of : A → List ℕ) (text : List ℕ) (names new_names : List (List ℕ))
    (xs ys : List A) (x : A) →
    names ≡ map name_of xs → text ≡ name_of x → position (λ y. bytes_eq (name_of x) (name_of y)) xs ≡ None →
    new_names ≡ with_name names text → ys ≡ xs ++ x ∷ [] → new_names ≡ map name_of ys
names-push name_of text names new_names xs ys x same is free added pushed =
    let absent : position (bytes_eq text) names ≡ None = position-by_names text name_of names xs same
    ∙ ap (λ t. position (λ y. bytes_eq t (name_of y)) xs) is ∙ free in
    let none : list_any (bytes_eq text) names ≡ false = position-none (bytes_eq text) names absent in
    let grown : with_name names text ≡ names ++ text ∷ [] = rw none refl in
    added ∙ grown ∙ ap (λ ns. ns ++ text ∷ []) same ∙ ap (λ t. map name_of xs ++ t ∷ []) is
    ∙ sym (map-append name_of xs (x ∷ [])) ∙ ap (map name_of) (sym pushed)
