-- How many distinct atoms there are does not depend on their order.
use Rattle.std.proofs.Common.{◌≡◌, ℕ, ◌+◌, Bool, true, false, List, [], ◌∷◌, ◌++◌, length, refl, sym, ◌∙◌, ap, subst, arith, length-append}
use Rattle.std.specs.Prelude.{fold, ◌||◌, if◌then◌else◌}
use Rattle.std.specs.List.{list_any, flat_map}
use Rattle.std.proofs.lemmas.List.Folds.{list_any-append}
use Rattle.filter_tree.specs.Expr.{AtomOf, Expr, Const, Atom, Not, And, Or, Is}
use Rattle.filter_tree.specs.Lists.{with_item, atoms_in}
use Rattle.filter_tree.specs.Same.{same_atom}
use Rattle.filter_tree.proofs.SameLemmas.{same_atom_is, same_atom_of_equal}
use Rattle.sql_reader.specs.Counting.{atoms_backwards}
use Rattle.filter_tree.proofs.Tests.{by_test, or_true, or_false}

abbrev added : List AtomOf → AtomOf → List AtomOf
added held x = with_item same_atom held x

abbrev has : AtomOf → List AtomOf → Bool
has c held = list_any (same_atom c) held

-- lists with the same atoms in them, and of the same length
pub record Alike (one other : List AtomOf) : Type 0 where
  pub members : (c : AtomOf) → has c one ≡ has c other
  pub lengths : length one ≡ length other

alike_refl : (held : List AtomOf) → Alike held held
alike_refl held = record { members = λ c. refl; lengths = refl }

alike_sym : (one other : List AtomOf) → Alike one other → Alike other one
alike_sym one other h = record { members = λ c. sym (h.members c); lengths = sym h.lengths }

alike_trans : (one middle other : List AtomOf) → Alike one middle → Alike middle other → Alike one other
alike_trans one middle other h k = record { members = λ c. h.members c ∙ k.members c; lengths = h.lengths ∙ k.lengths }

or_swap : (a b c : Bool) → ((a || b) || c) ≡ ((a || c) || b)
or_swap true b c = refl
or_swap false true c = sym (or_true c)
or_swap false false c = sym (or_false c)

-- ---- what one atom adds

has-added : (c x : AtomOf) (held : List AtomOf) → has c (added held x) ≡ (has c held || same_atom c x)
has-added c x held = by_test (has x held)
    (λ found. by_test (same_atom c x)
    (λ same.
    let equal : c ≡ x = same_atom_is c x same in
    let there : has c held ≡ true = subst (λ z. has z held ≡ true) (sym equal) found in
    rw (found, there) refl)
    (λ other. rw (found, other) (sym (or_false (has c held)))))
    (λ new.
    let appended : has c (held ++ x ∷ []) ≡ (has c held || (same_atom c x || false)) =
    list_any-append (same_atom c) held (x ∷ []) in
    rw new (appended ∙ ap (λ b. has c held || b) (or_false (same_atom c x))))

length-added : (x : AtomOf) (held : List AtomOf)
    → length (added held x) ≡ (if has x held then length held else length held + 1)
length-added x held = by_test (has x held)
    (λ found. rw found refl)
    (λ new. rw new (omega (arith, length-append held (x ∷ []))))

alike_with : (one other : List AtomOf) (x : AtomOf) → Alike one other → Alike (added one x) (added other x)
alike_with one other x h = record {
  members = λ c. has-added c x one ∙ ap (λ b. b || same_atom c x) (h.members c) ∙ sym (has-added c x other);
  lengths =
      let count : Bool → ℕ → ℕ = λ b n. if b then n else n + 1 in
      let left : length (added one x) ≡ count (has x one) (length one) = length-added x one in
      let right : length (added other x) ≡ count (has x other) (length other) = length-added x other in
      let here : has x one ≡ has x other = h.members x in
      let as_long : length one ≡ length other = h.lengths in
      left ∙ ap (λ b. count b (length one)) here ∙ ap (λ n. count (has x other) n) as_long ∙ sym right;
}

counts_commute : (p q : Bool) (n : ℕ)
    → (if q then (if p then n else n + 1) else (if p then n else n + 1) + 1)
    ≡ (if p then (if q then n else n + 1) else (if q then n else n + 1) + 1)
counts_commute true true n = refl
counts_commute true false n = refl
counts_commute false true n = refl
counts_commute false false n = refl

-- the length after two atoms that are not the same
length-added-added : (held : List AtomOf) (x y : AtomOf) → same_atom y x ≡ false
    → length (added (added held x) y)
    ≡ (if has y held then
    (if has x held then length held else length held + 1)
    else (if has x held then length held else length held + 1) + 1)
length-added-added held x y unlike =
    let there : has y (added held x) ≡ has y held =
    has-added y x held ∙ ap (λ b. has y held || b) unlike ∙ or_false (has y held) in
    length-added y (added held x)
    ∙ ap (λ b. if b then length (added held x) else length (added held x) + 1) there
    ∙ ap (λ n. if has y held then n else n + 1) (length-added x held)

commute : (held : List AtomOf) (x y : AtomOf) → Alike (added (added held x) y) (added (added held y) x)
commute held x y = by_test (same_atom y x)
    (λ same.
    let equal : y ≡ x = same_atom_is y x same in
    subst (λ z. Alike (added (added held x) z) (added (added held z) x)) (sym equal)
    (alike_refl (added (added held x) x)))
    (λ unlike. record {
      members = λ c.
          has-added c y (added held x) ∙ ap (λ b. b || same_atom c y) (has-added c x held)
          ∙ or_swap (has c held) (same_atom c x) (same_atom c y)
          ∙ sym (has-added c x (added held y) ∙ ap (λ b. b || same_atom c x) (has-added c y held));
      lengths =
          let unlike_too : same_atom x y ≡ false = by_test (same_atom x y)
          (λ same.
          let back : same_atom y x ≡ true = same_atom_of_equal y x (sym (same_atom_is x y same)) in
          absurd cc)
          (λ found. found) in
          length-added-added held x y unlike
          ∙ counts_commute (has x held) (has y held) (length held)
          ∙ sym (length-added-added held y x unlike_too);
    })

-- ---- many atoms

abbrev with_all : List AtomOf → List AtomOf → List AtomOf
with_all held xs = fold (with_item same_atom) held xs

alike_all : (one other xs : List AtomOf) → Alike one other → Alike (with_all one xs) (with_all other xs)
alike_all one other [] h = h
alike_all one other (x ∷ xs) h = alike_all (added one x) (added other x) xs (alike_with one other x h)

move : (held xs : List AtomOf) (y : AtomOf) → Alike (with_all (added held y) xs) (added (with_all held xs) y)
move held [] y = alike_refl (added held y)
move held (x ∷ xs) y = alike_trans
    (with_all (added (added held y) x) xs)
    (with_all (added (added held x) y) xs)
    (added (with_all (added held x) xs) y)
    (alike_all (added (added held y) x) (added (added held x) y) xs (commute held y x))
    (move (added held x) xs y)

swap : (held xs ys : List AtomOf) → Alike (with_all (with_all held xs) ys) (with_all (with_all held ys) xs)
swap held xs [] = alike_refl (with_all held xs)
swap held xs (y ∷ ys) = alike_trans
    (with_all (added (with_all held xs) y) ys)
    (with_all (with_all (added held y) xs) ys)
    (with_all (with_all (added held y) ys) xs)
    (alike_all (added (with_all held xs) y) (with_all (added held y) xs) ys
    (alike_sym (with_all (added held y) xs) (added (with_all held xs) y) (move held xs y)))
    (swap (added held y) xs ys)

with_all-append : (held xs ys : List AtomOf) → with_all held (xs ++ ys) ≡ with_all (with_all held xs) ys
with_all-append held [] ys = refl
with_all-append held (x ∷ xs) ys = with_all-append (added held x) xs ys

-- two lists one after the other, each of which may be in another order, and the two swapped
both_ways : (xs' xs ys' ys : List AtomOf)
    → ((held : List AtomOf) → Alike (with_all held xs') (with_all held xs))
    → ((held : List AtomOf) → Alike (with_all held ys') (with_all held ys))
    → (held : List AtomOf) → Alike (with_all held (ys' ++ xs')) (with_all held (xs ++ ys))
both_ways xs' xs ys' ys left right held =
    let turned = swap held ys' xs' in
    let first = alike_all (with_all held xs') (with_all held xs) ys' (left held) in
    let later = right (with_all held xs) in
    let whole = alike_trans (with_all (with_all held ys') xs') (with_all (with_all held xs') ys')
    (with_all (with_all held xs) ys) turned
    (alike_trans (with_all (with_all held xs') ys') (with_all (with_all held xs) ys') (with_all (with_all held xs) ys)
    first later) in
    subst (λ z. Alike z (with_all held (xs ++ ys))) (sym (with_all-append held ys' xs'))
    (subst (λ z. Alike (with_all (with_all held ys') xs') z) (sym (with_all-append held xs ys)) whole)

backwards_alike : (filter : Expr) (held : List AtomOf)
    → Alike (with_all held (atoms_backwards filter)) (with_all held (atoms_in filter))
backwards_alike (Const known) held = alike_refl held
backwards_alike (Atom atom) held = alike_refl (added held atom)
backwards_alike (Not part) held = backwards_alike part held
backwards_alike (And left right) held =
    both_ways (atoms_backwards left) (atoms_in left) (atoms_backwards right) (atoms_in right)
    (backwards_alike left) (backwards_alike right) held
backwards_alike (Or left right) held =
    both_ways (atoms_backwards left) (atoms_in left) (atoms_backwards right) (atoms_in right)
    (backwards_alike left) (backwards_alike right) held
backwards_alike (Is test part) held = backwards_alike part held

pub all_backwards_alike : (filters : List Expr) (held : List AtomOf)
    → Alike (with_all held (flat_map atoms_backwards filters)) (with_all held (flat_map atoms_in filters))
all_backwards_alike [] held = alike_refl held
all_backwards_alike (filter ∷ filters) held =
    let first = alike_all (with_all held (atoms_backwards filter)) (with_all held (atoms_in filter))
    (flat_map atoms_backwards filters) (backwards_alike filter held) in
    let later = all_backwards_alike filters (with_all held (atoms_in filter)) in
    let whole = alike_trans
    (with_all (with_all held (atoms_backwards filter)) (flat_map atoms_backwards filters))
    (with_all (with_all held (atoms_in filter)) (flat_map atoms_backwards filters))
    (with_all (with_all held (atoms_in filter)) (flat_map atoms_in filters)) first later in
    subst (λ z. Alike z (with_all held (flat_map atoms_in (filter ∷ filters))))
    (sym (with_all-append held (atoms_backwards filter) (flat_map atoms_backwards filters)))
    (subst (λ z. Alike (with_all (with_all held (atoms_backwards filter)) (flat_map atoms_backwards filters)) z)
    (sym (with_all-append held (atoms_in filter) (flat_map atoms_in filters))) whole)
