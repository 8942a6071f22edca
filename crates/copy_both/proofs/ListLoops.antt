-- What is between commas, one part after another.
use Rattle.std.proofs.Common.{◌≡◌, ℕ, ◌+◌, ◌<◌, ◌≤◌, Bool, List, [], ◌∷◌, ◌++◌, length, take, drop, Option, Some, None, Bor, refl, sym, ap, ◌∙◌, arith, append_assoc}
use Rattle.std.specs.Prelude.{map, nat_lt, position}
use Rattle.std.specs.List.{slice_split, onto_first, position_or_len}
use Rattle.std.specs.Option.{option_map, option_map_or}
use Rattle.std.proofs.lemmas.Bool.Decides.{nat_tests}
use Rattle.std.proofs.lemmas.List.{drop-drop}
use Rattle.std.proofs.lemmas.List.Splits.{slice_split_first}
use Rattle.copy_both.specs.declared.token.Token.{Token}
use Rattle.copy_both.specs.declared.token.Token.TheVariants.{Comma}
use Rattle.copy_both.specs.CommandTokens.{is_comma, all_of}
use Rattle.filter_tree.proofs.Tests.{by_test}

-- the parts of the rest
abbrev pub parts_left : Option (Bor (List Token)) → List (List Token)
parts_left rest = option_map_or (λ after. slice_split is_comma after.now) rest []

-- these come first
abbrev pub after_all : {X : Type 0} → List X → Option (List X) → Option (List X)
after_all xs = option_map (λ more. xs ++ more)

none_first : {X : Type 0} (p : X → Bool) (xs : List X) → length xs ≤ position_or_len p xs → slice_split p xs ≡ xs ∷ []
none_first p [] far = refl
none_first p (x ∷ xs) far =
    by_test (p x)
    (λ e. let short : length (x ∷ xs) ≤ 0 = rw e at far in absurd (omega arith))
    (λ e. let later : length (x ∷ xs) ≤ 1 + position_or_len p xs = rw e at far in
    rw e (ap (onto_first x) (none_first p xs (omega arith))))

position_is : {X : Type 0} (p : X → Bool) (xs : List X) (n : ℕ) → position p xs ≡ Some n → (position_or_len p xs ≡ n)
    × (n < length xs)
position_is p xs n e =
    by_test (nat_lt (position_or_len p xs) (length xs))
    (λ t. let found : Some (position_or_len p xs) ≡ Some n = rw t at e in
    let same : position_or_len p xs ≡ n = cc in
    (same, grind (arith, nat_tests)))
    (λ t. let found : None ≡ Some n = rw t at e in absurd cc)

no_position : {X : Type 0} (p : X → Bool) (xs : List X) → position p xs ≡ None → length xs ≤ position_or_len p xs
no_position p xs e =
    by_test (nat_lt (position_or_len p xs) (length xs))
    (λ t. let found : Some (position_or_len p xs) ≡ None = rw t at e in absurd cc)
    (λ t. grind (arith, nat_tests))

pub no_comma : (tokens : List Token) → position is_comma tokens ≡ None → slice_split is_comma tokens ≡ tokens ∷ []
no_comma tokens e = none_first is_comma tokens (no_position is_comma tokens e)

pub at_comma : (tokens : List Token) (n : ℕ) → position is_comma tokens ≡ Some n
    → (n < length tokens)
    × (slice_split is_comma tokens ≡ take n tokens ∷ slice_split is_comma (drop 1 (drop n tokens)))
at_comma tokens n e =
    let (same, less) = position_is is_comma tokens n e in
    let split = slice_split_first is_comma tokens Comma (omega arith) in
    let further : drop (n + 1) tokens ≡ drop 1 (drop n tokens) = sym (drop-drop 1 n tokens) in
    (less, (rw same at split) ∙ ap (λ after. take n tokens ∷ slice_split is_comma after) further)

-- ---- the loop

later : {X : Type 0} (xs : List X) (x : X) (more : Option (List X))
    → after_all xs (option_map (λ ys. x ∷ ys) more) ≡ after_all (xs ++ x ∷ []) more
later xs x None = refl
later xs x (Some more) = ap Some (sym (append_assoc xs (x ∷ []) more))

pub one_more : {X : Type 0} (rule : List Token → Option X) (xs : List X) (x : X) (all parts : List (List Token))
    (part : List Token)
    → all ≡ part ∷ parts → rule part ≡ Some x
    → after_all xs (all_of (map rule all)) ≡ after_all (xs ++ x ∷ []) (all_of (map rule parts))
one_more rule xs x all parts part e is = rw (e, is) (later xs x (all_of (map rule parts)))

pub no_more : {X : Type 0} (rule : List Token → Option X) (xs : List X) (all parts : List (List Token))
    (part : List Token)
    → all ≡ part ∷ parts → rule part ≡ None → after_all xs (all_of (map rule all)) ≡ None
no_more rule xs all parts part e is = rw (e, is) refl
