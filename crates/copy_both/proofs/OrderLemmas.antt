-- Names of publications, and options one after another.
use Rattle.std.proofs.Common.{◌≡◌, ℕ, zero, suc, ◌+◌, ◌<◌, ◌≤◌, Bool, ◌||◌, List, [], ◌∷◌, ◌++◌, length, take, drop, get_or, refl, sym, ap, ◌∙◌}
use Rattle.std.specs.Prelude.{map, slice_get, if◌then◌else◌, None}
use Rattle.std.specs.List.{list_any}
use Rattle.std.specs.Option.{option_map}
use Rattle.std.proofs.lemmas.List.{drop_more, drop_all, take_more}
use Rattle.copy_both.specs.declared.start_command.StartOption.{StartOption}
use Rattle.copy_both.specs.StartOrder.{or_else, option_refusal, options_refusal, has_publications, names_of, names_in, unknown_refusal}

pub any_of_map : {X Y : Type 0} (p : Y → Bool) (f : X → Y) (xs : List X)
    → list_any p (map f xs) ≡ list_any (λ x. p (f x)) xs
any_of_map p f [] = refl
any_of_map p f (x ∷ xs) = ap (λ b. p (f x) || b) (any_of_map p f xs)

pub at_of_map : {X Y : Type 0} (f : X → Y) (xs : List X) (n : ℕ)
    → slice_get (map f xs) n ≡ option_map f (slice_get xs n)
at_of_map f [] n = refl
at_of_map f (x ∷ xs) zero = refl
at_of_map f (x ∷ xs) (suc n) = at_of_map f xs n

-- the rest of a list begins with its element at the place
from_here : {X : Type 0} (xs : List X) (i : ℕ) (x : X) → i < length xs → x ≡ get_or xs i x
    → drop i xs ≡ x ∷ drop (i + 1) xs
from_here xs i x within is = drop_more xs i x within ∙ ap (λ y. y ∷ drop (i + 1) xs) (sym is)

pub options_step : (xs : List StartOption) (i : ℕ) (x : StartOption) → i < length xs → x ≡ get_or xs i x
    → options_refusal (take i xs) (drop i xs)
    ≡ or_else (option_refusal (take i xs) x) (options_refusal (take (i + 1) xs) (drop (i + 1) xs))
options_step xs i x within is =
    ap (options_refusal (take i xs)) (from_here xs i x within is)
    ∙ ap (λ earlier. or_else (option_refusal (take i xs) x) (options_refusal earlier (drop (i + 1) xs)))
    (ap (λ y. take i xs ++ y ∷ []) is ∙ sym (take_more xs i x within))

pub options_end : (earlier xs : List StartOption) (i : ℕ) → length xs ≤ i → options_refusal earlier (drop i xs) ≡ None
options_end earlier xs i end = ap (options_refusal earlier) (drop_all i xs end)

pub names_step : (xs : List StartOption) (i : ℕ) (x : StartOption) → i < length xs → x ≡ get_or xs i x
    → names_in (drop i xs) ≡ (if has_publications x.value then names_of x.value else names_in (drop (i + 1) xs))
names_step xs i x within is = ap names_in (from_here xs i x within is)

pub unknown_step : (known names : List (List ℕ)) (i : ℕ) (name : List ℕ) → i < length names → name ≡ get_or names i name
    → unknown_refusal known (drop i names) ≡ unknown_refusal known (name ∷ drop (i + 1) names)
unknown_step known names i name within is = ap (unknown_refusal known) (from_here names i name within is)
