-- Lists that have each item once, when the items are seen through a view.
use Rattle.std.proofs.Common.{◌≡◌, ℕ, ◌≤◌, length, take, Bool, true, false, List, [], ◌∷◌, ◌++◌, refl, sym, ◌∙◌, ap, subst}
use Rattle.std.specs.Prelude.{nat_eq, map, fold, ◌||◌, ◌<◌, if◌then◌else◌, All, Contains}
use Rattle.std.specs.List.{list_any}
use Rattle.std.specs.Cmp.{unsigned_Decides}
use Rattle.std.proofs.lemmas.List.{map-append, take_all}
use Rattle.std.proofs.lemmas.List.Elements.{All-nil, All-head, All-tail, All-push}
use Rattle.std.proofs.lemmas.List.Sums.{fold-append}
use Rattle.std.proofs.lemmas.List.Folds.{list_any-append}
use Rattle.filter_tree.specs.Expr.{Expr, term_of}
use Rattle.filter_tree.specs.Lists.{with_item, distinct, atoms_in, column_of, columns_in, distinct_atoms, distinct_terms, distinct_columns, NamesWithin}
use Rattle.filter_tree.specs.Same.{same_atom, same_term}
use Rattle.filter_tree.specs.Shape.{atom_view, atoms_view}
use Rattle.filter_tree.specs.declared.filter.Atom.{Atom}
use Rattle.std.specs.Borrow.{Bor}
use Rattle.filter_tree.proofs.SameLemmas.{same_atom_is, same_term_of_equal}
use Rattle.filter_tree.proofs.Tests.{by_test, or_true}

any_viewed : {X Y : Type 0} (view : X → Y) (p : Y → Bool) (xs : List X)
    → list_any (λ x. p (view x)) xs ≡ list_any p (map view xs)
any_viewed view p [] = refl
any_viewed view p (x ∷ xs) = ap (λ b. p (view x) || b) (any_viewed view p xs)

-- one more item, when the items are seen through a view
pub map-with_item : {X Y : Type 0} (view : X → Y) (same : Y → Y → Bool) (xs : List X) (x : X)
    → map view (with_item (λ one other. same (view one) (view other)) xs x) ≡ with_item same (map view xs) (view x)
map-with_item view same xs x = by_test (list_any (same (view x)) (map view xs))
    (λ found. let also = any_viewed view (same (view x)) xs ∙ found in rw (found, also) refl)
    (λ new. let also = any_viewed view (same (view x)) xs ∙ new in rw (new, also) (map-append view xs (x ∷ [])))

pub atom_added : {A : _} (atoms : List (Bor (Atom A))) (atom : Bor (Atom A))
    → atoms_view (with_item (λ one other. same_atom (atom_view one.now) (atom_view other.now)) atoms atom)
    ≡ with_item same_atom (atoms_view atoms) (atom_view atom.now)
atom_added atoms atom = map-with_item (λ a. atom_view a.now) same_atom atoms atom

-- a loop that reached the end of a list went over all of it
pub all_taken : {X : Type 0} (xs ys : List X) (count : ℕ) → length xs ≤ count → xs ≡ ys → take count xs ≡ ys
all_taken xs ys count h e = take_all count xs h ∙ e

-- ---- the list of a list's parts is that of the parts of its items, each once

any_of_more : {Y : Type 0} (p : Y → Bool) (same : Y → Y → Bool) (ys : List Y) (y : Y) → list_any p ys ≡ true
    → list_any p (with_item same ys y) ≡ true
any_of_more p same ys y h = by_test (list_any (same y) ys)
    (λ found. rw found h)
    (λ new. rw new (list_any-append p ys (y ∷ []) ∙ rw h refl))

any_of_all : {Y : Type 0} (p : Y → Bool) (same : Y → Y → Bool) (ys more : List Y) → list_any p ys ≡ true
    → list_any p (fold (with_item same) ys more) ≡ true
any_of_all p same ys [] h = h
any_of_all p same ys (y ∷ more) h = any_of_all p same (with_item same ys y) more (any_of_more p same ys y h)

-- an item that was added is in the list
has_added : {Y : Type 0} (same : Y → Y → Bool) (self : (y : Y) → same y y ≡ true) (ys : List Y) (y : Y)
    → list_any (same y) (with_item same ys y) ≡ true
has_added same self ys y = by_test (list_any (same y) ys)
    (λ found. rw found found)
    (λ new. rw new (list_any-append (same y) ys (y ∷ []) ∙ rw (self y) (or_true (list_any (same y) ys))))

module _ {X Y : Type 0} (same : X → X → Bool) (alike : Y → Y → Bool) (part : X → Y)
    (self : (y : Y) → alike y y ≡ true) (respects : (one other : X) → same one other ≡ true → part one ≡ part other)
  where
    has_part : (ys : List Y) (xs : List X) (x : X) → list_any (same x) xs ≡ true
        → list_any (alike (part x)) (fold (with_item alike) ys (map part xs)) ≡ true
    has_part ys [] x h = absurd cc
    has_part ys (y ∷ xs) x h = by_test (same x y)
        (λ here. subst (λ z. list_any (alike z) (fold (with_item alike) (with_item alike ys (part y)) (map part xs))
        ≡ true) (sym (respects x y here))
        (any_of_all (alike (part y)) alike (with_item alike ys (part y)) (map part xs)
        (has_added alike self ys (part y))))
        (λ later. let rest : list_any (same x) xs ≡ true = rw later at h in
        has_part (with_item alike ys (part y)) xs x rest)

    part_added : (ys : List Y) (xs : List X) (x : X)
        → fold (with_item alike) ys (map part (with_item same xs x))
        ≡ with_item alike (fold (with_item alike) ys (map part xs)) (part x)
    part_added ys xs x = by_test (list_any (same x) xs)
        (λ found. let there = has_part ys xs x found in rw (found, there) refl)
        (λ new. rw new (ap (fold (with_item alike) ys) (map-append part xs (x ∷ []))
        ∙ fold-append (with_item alike) ys (map part xs) (part x ∷ [])))

    parts_added : (ys : List Y) (xs more : List X)
        → fold (with_item alike) ys (map part (fold (with_item same) xs more))
        ≡ fold (with_item alike) (fold (with_item alike) ys (map part xs)) (map part more)
    parts_added ys xs [] = refl
    parts_added ys xs (x ∷ more) = parts_added ys (with_item same xs x) more
        ∙ ap (λ zs. fold (with_item alike) zs (map part more)) (part_added ys xs x)

    parts_of_distinct : (xs : List X) → distinct alike (map part (distinct same xs)) ≡ distinct alike (map part xs)
    parts_of_distinct xs = parts_added [] [] xs

-- what holds for each item holds for each item of the list that has them once
all_with : {Y : Type 0} (P : Y → Type 0) (has : Bool) (ys : List Y) (y : Y) → All P ys → P y
    → All P (if has then ys else ys ++ y ∷ [])
all_with P true ys y h p = h
all_with P false ys y h p = All-push P ys y h p

all_fold : {Y : Type 0} (P : Y → Type 0) (same : Y → Y → Bool) (ys more : List Y) → All P ys → All P more
    → All P (fold (with_item same) ys more)
all_fold P same ys [] h m = h
all_fold P same ys (y ∷ more) h m =
    all_fold P same (with_item same ys y) more (all_with P (list_any (same y) ys) ys y h (All-head P y more m))
    (All-tail P y more m)

-- a column that a filter names is among the first `count` ones, if all are
pub distinct_within : (count : ℕ) (filter : Expr) (column : ℕ) → NamesWithin count filter
    → Contains (distinct_columns filter) column → column < count
distinct_within count filter column h there =
    let all = all_fold (λ named. named < count) nat_eq [] (columns_in (atoms_in filter))
    (All-nil (λ named. named < count)) h in
    subst (λ named. named < count) there.2 (all there.0 column there.1)

pub terms_of_atoms : (filter : Expr) → distinct same_term (map term_of (distinct_atoms filter)) ≡ distinct_terms filter
terms_of_atoms filter =
    parts_of_distinct same_atom same_term term_of (λ term. same_term_of_equal term term refl)
    (λ one other h. ap term_of (same_atom_is one other h)) (atoms_in filter)

pub columns_of_atoms : (filter : Expr) → distinct nat_eq (columns_in (distinct_atoms filter)) ≡ distinct_columns filter
columns_of_atoms filter =
    parts_of_distinct same_atom nat_eq (λ atom. column_of (term_of atom))
    (λ column. (unsigned_Decides column column).1 refl)
    (λ one other h. ap (λ atom. column_of (term_of atom)) (same_atom_is one other h)) (atoms_in filter)
