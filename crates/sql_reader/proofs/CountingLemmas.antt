-- A list that stops growing at its limit exceeds it exactly if the whole list does.
use Rattle.std.proofs.Common.{◌≡◌, ◌+◌, ◌*◌, ◌≤◌, true, List, [], ◌∷◌, length, refl, ◌∙◌, ap, arith, length-append}
use Rattle.std.specs.Prelude.{fold, nat_lt}
use Rattle.std.specs.List.{list_any, flat_map}
use Rattle.std.proofs.lemmas.Bool.{le-ltb}
use Rattle.std.proofs.lemmas.Bool.Decides.{nat_tests}
use Rattle.filter_tree.specs.Expr.{AtomOf, Expr, Const, Atom, Not, And, Or, Is}
use Rattle.filter_tree.specs.Lists.{atoms_in, with_item}
use Rattle.filter_tree.specs.Same.{same_atom}
use Rattle.sql_reader.specs.Counting.{AreWithin, all_places, atoms_backwards, gathered}
use Rattle.sql_reader.specs.Limits.{expr_nodes, all_nodes, distinct_count}
use Rattle.sql_reader.proofs.OrderLemmas.{all_backwards_alike}
use Rattle.filter_tree.proofs.Tests.{by_test}

with_item_grows : (held : List AtomOf) (c : AtomOf) → length held ≤ length (with_item same_atom held c)
with_item_grows held c = by_test (list_any (same_atom c) held)
    (λ found. rw found (omega arith))
    (λ new. rw new (omega (arith, length-append held (c ∷ []))))

distinct_grows : (held found : List AtomOf) → length held ≤ length (fold (with_item same_atom) held found)
distinct_grows held [] = omega arith
distinct_grows held (c ∷ found) =
    let here = with_item_grows held c in
    let later = distinct_grows (with_item same_atom held c) found in
    omega arith

pub full_stays : (held found : List AtomOf) → nat_lt 64 (length held) ≡ true → fold gathered held found ≡ held
full_stays held [] full = refl
full_stays held (c ∷ found) full = rw full (full_stays held found full)

passes_from : (held found : List AtomOf)
    → nat_lt 64 (length (fold gathered held found)) ≡ nat_lt 64 (length (fold (with_item same_atom) held found))
passes_from held [] = refl
passes_from held (c ∷ found) = by_test (nat_lt 64 (length held))
    (λ full.
    let stays : fold gathered held (c ∷ found) ≡ held = full_stays held (c ∷ found) full in
    let grows : length held ≤ length (fold (with_item same_atom) held (c ∷ found)) = distinct_grows held (c ∷ found) in
    grind (arith, nat_tests))
    (λ room. rw room (passes_from (with_item same_atom held c) found))

-- the filters have too many atoms exactly if the list that was gathered from right to left has too many
pub gathered_passes : (filters : List Expr)
    → nat_lt 64 (length (fold gathered [] (flat_map atoms_backwards filters))) ≡ nat_lt 64 (distinct_count filters)
gathered_passes filters =
    passes_from [] (flat_map atoms_backwards filters) ∙ ap (λ n. nat_lt 64 n) (all_backwards_alike filters []).lengths

pub nodes_positive : (filter : Expr) → 1 ≤ expr_nodes filter
nodes_positive (Const known) = omega arith
nodes_positive (Atom atom) = omega arith
nodes_positive (Not part) = omega arith
nodes_positive (And left right) = omega arith
nodes_positive (Or left right) = omega arith
nodes_positive (Is test part) = omega arith

-- ---- few nodes

with_item_small : (held : List AtomOf) (c : AtomOf) → length (with_item same_atom held c) ≤ length held + 1
with_item_small held c = by_test (list_any (same_atom c) held)
    (λ found. rw found (omega arith))
    (λ new. rw new (omega (arith, length-append held (c ∷ []))))

distinct_small : (held found : List AtomOf)
    → length (fold (with_item same_atom) held found) ≤ length held + length found
distinct_small held [] = omega arith
distinct_small held (c ∷ found) =
    let here = with_item_small held c in
    let later = distinct_small (with_item same_atom held c) found in
    omega arith

atoms_half : (filter : Expr) → 2 * length (atoms_in filter) ≤ expr_nodes filter + 1
atoms_half (Const known) = omega arith
atoms_half (Atom atom) = omega arith
atoms_half (Not part) = omega (arith, atoms_half part)
atoms_half (And left right) =
    omega (arith, atoms_half left, atoms_half right, length-append (atoms_in left) (atoms_in right))
atoms_half (Or left right) =
    omega (arith, atoms_half left, atoms_half right, length-append (atoms_in left) (atoms_in right))
atoms_half (Is test part) = omega (arith, atoms_half part)

all_half : (filters : List Expr) → 2 * length (flat_map atoms_in filters) ≤ all_places filters
all_half [] = omega arith
all_half (filter ∷ filters) =
    omega (arith, atoms_half filter, all_half filters, length-append (atoms_in filter) (flat_map atoms_in filters))

nodes_below : (filters : List Expr) → all_nodes filters ≤ all_places filters
nodes_below [] = omega arith
nodes_below (filter ∷ filters) = omega (arith, nodes_below filters)

pub few : (filters : List Expr) → all_places filters ≤ 128 → AreWithin filters
few filters small = record {
  few_atoms = le-ltb 64 (distinct_count filters)
      (omega (arith, small, all_half filters, distinct_small [] (flat_map atoms_in filters)));
  few_nodes = le-ltb 1000 (all_nodes filters) (omega (arith, small, nodes_below filters));
}
