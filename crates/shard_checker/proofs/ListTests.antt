-- Tests of the elements of a list.
use Rattle.std.proofs.Common.{◌≡◌, Bool, true, false, not, ◌&&◌, ◌||◌, List, [], ◌∷◌, refl, sym, ap, ◌∙◌}
use Rattle.std.specs.Prelude.{flat_map}
use Rattle.std.specs.List.{list_any, list_all}
use Rattle.std.proofs.lemmas.List.Folds.{list_any-append}
use Rattle.filter_tree.proofs.Tests.{by_test}
use Rattle.shard_checker.proofs.Testing.{two_false}

pub any_flat_map : {X Y : Type 0} (test : Y → Bool) (f : X → List Y) (xs : List X)
    → list_any test (flat_map f xs) ≡ list_any (λ x. list_any test (f x)) xs
any_flat_map test f [] = refl
any_flat_map test f (x ∷ xs) =
    list_any-append test (f x) (flat_map f xs)
    ∙ ap (λ (rest : Bool). list_any test (f x) || rest) (any_flat_map test f xs)

pub any_alike : {X : Type 0} (one other : X → Bool) → ((x : X) → one x ≡ other x) → (xs : List X)
    → list_any one xs ≡ list_any other xs
any_alike one other alike [] = refl
any_alike one other alike (x ∷ xs) =
    ap (λ (first : Bool). first || list_any one xs) (alike x)
    ∙ ap (λ (rest : Bool). other x || rest) (any_alike one other alike xs)

pub no_any : {X : Type 0} (test : X → Bool) → ((x : X) → test x ≡ false) → (xs : List X) → list_any test xs ≡ false
no_any test none [] = refl
no_any test none (x ∷ xs) = two_false (test x) (list_any test xs) (none x) (no_any test none xs)

-- two tests that imply each other
pub same_answer : (one other : Bool) → (one ≡ true → other ≡ true) → (other ≡ true → one ≡ true) → one ≡ other
same_answer true other there back = sym (there refl)
same_answer false true there back = back refl
same_answer false false there back = refl

pub not_any : {X : Type 0} (test : X → Bool) (xs : List X) → list_all (λ x. not (test x)) xs ≡ not (list_any test xs)
not_any test [] = refl
not_any test (x ∷ xs) = by_test (test x)
    (λ here. rw here refl)
    (λ gone. rw gone (not_any test xs))

pub all_both : {X : Type 0} (one other : X → Bool) (xs : List X)
    → list_all (λ x. one x && other x) xs ≡ (list_all one xs && list_all other xs)
all_both one other [] = refl
all_both one other (x ∷ xs) = by_test (one x)
    (λ first. by_test (other x)
    (λ second. rw (first, second) (all_both one other xs))
    (λ gone. rw (first, gone) (sym (false_last (list_all one xs)))))
    (λ gone. rw gone refl)
  where
    false_last : (b : Bool) → (b && false) ≡ false
    false_last true = refl
    false_last false = refl
