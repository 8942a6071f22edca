-- The meaning of a filter on a row that agrees with a path is among the values that the path leaves possible.
use Rattle.std.proofs.Common.{◌≡◌, Bool, true, false, ◌&&◌, ◌||◌, List, [], ◌∷◌, refl, ◌∙◌, ap}
use Rattle.std.specs.Prelude.{Option, Some, None}
use Rattle.std.specs.List.{list_any}
use Rattle.filter_tree.specs.Compare.{compare_known, distinct_of}
use Rattle.filter_tree.specs.Datum.{Constant, Datum, Missing, Known, value_at}
use Rattle.filter_tree.specs.Logic.{and_of, or_of, not_of, is_of, tri_of}
use Rattle.filter_tree.specs.Expr.{AtomOf, Cmp, IsNull, In, Between, Distinct, Expr, Const, Atom, Not, And, Or, Is, is_missing, term_value, atom_meaning, meaning}
use Rattle.filter_tree.specs.Mask.{same_tri, all_three, member, mask_where, single_of, lift_one, lift_two}
use Rattle.filter_tree.specs.Same.{same_atom}
use Rattle.filter_tree.specs.Paths.{Path, Agrees, first_value, open_mask, known_or_open, possible_of}
use Rattle.filter_tree.specs.declared.filter.Op.TheVariants.{Ne}
use Rattle.filter_tree.specs.declared.mask.Mask.{Mask}
use Rattle.filter_tree.specs.declared.tri.Tri.{Tri}
use Rattle.filter_tree.specs.declared.tri.Tri.TheVariants.{True, False, Null}
use Rattle.filter_tree.proofs.SameLemmas.{same_atom_is}
use Rattle.filter_tree.proofs.Tests.{by_test}

member_where : (test : Tri → Bool) (t : Tri) → member (mask_where test) t ≡ test t
member_where test True = refl
member_where test False = refl
member_where test Null = refl

same_tri_self : (t : Tri) → same_tri t t ≡ true
same_tri_self True = refl
same_tri_self False = refl
same_tri_self Null = refl

or_true_left : (p q : Bool) → p ≡ true → (p || q) ≡ true
or_true_left p q h = rw h refl

or_true_right : (p q : Bool) → q ≡ true → (p || q) ≡ true
or_true_right true q h = refl
or_true_right false q h = h

any_of_three : (test : Tri → Bool) (t : Tri) → test t ≡ true → list_any test all_three ≡ true
any_of_three test True h = or_true_left (test True) _ h
any_of_three test False h = or_true_right (test True) _ (or_true_left (test False) _ h)
any_of_three test Null h = or_true_right (test True) _ (or_true_right (test False) _ (or_true_left (test Null) _ h))

single_has : (t : Tri) → member (single_of t) t ≡ true
single_has t = member_where (same_tri t) t ∙ same_tri_self t

one_has : (f : Tri → Tri) (mask : Mask) (a : Tri) → member mask a ≡ true → member (lift_one f mask) (f a) ≡ true
one_has f mask a h =
    let here : (member mask a && same_tri (f a) (f a)) ≡ true = rw (h, same_tri_self (f a)) refl in
    member_where (λ t. list_any (λ x. member mask x && same_tri (f x) t) all_three) (f a)
    ∙ any_of_three (λ x. member mask x && same_tri (f x) (f a)) a here

two_has : (f : Tri → Tri → Tri) (left right : Mask) (a b : Tri) → member left a ≡ true → member right b ≡ true
    → member (lift_two f left right) (f a b) ≡ true
two_has f left right a b h k =
    let inner : (member left a && (member right b && same_tri (f a b) (f a b))) ≡ true =
    rw (h, k, same_tri_self (f a b)) refl in
    let outer = any_of_three (λ y. member left a && (member right y && same_tri (f a y) (f a b))) b inner in
    member_where (λ t. list_any
    (λ x. list_any (λ y. member left x && (member right y && same_tri (f x y) t)) all_three) all_three) (f a b)
    ∙ any_of_three (λ x. list_any (λ y. member left x && (member right y && same_tri (f x y) (f a b))) all_three) a
    outer

-- any truth value but null
abbrev not_null : Mask
not_null = record { truth = true; falsity = true; null = false }

-- a value in the path is the atom's
first_value_is : (row : List Datum) (atom : AtomOf) (path : Path) (value : Tri) → Agrees row path
    → first_value atom path ≡ Some value → atom_meaning atom row ≡ value
first_value_is row atom [] value agrees h = absurd cc
first_value_is row atom (entry ∷ path) value agrees h = by_test (same_atom atom entry.0)
    (λ same. let e : atom ≡ entry.0 = same_atom_is atom entry.0 same in
    let found : Some entry.1 ≡ Some value = rw same at h in
    let this : entry.1 ≡ value = cc in
    ap (λ c. atom_meaning c row) e ∙ (agrees.0 ∙ this))
    (λ differs. let later : first_value atom path ≡ Some value = rw differs at h in
    first_value_is row atom path value agrees.1 later)

missing_open : (value : Datum) → member not_null (is_missing value) ≡ true
missing_open Missing = refl
missing_open (Known constant) = refl

known_open : (b : Bool) → member not_null (tri_of b) ≡ true
known_open true = refl
known_open false = refl

distinct_open : (value : Datum) (constant : Constant) → member not_null (distinct_of value constant) ≡ true
distinct_open Missing constant = refl
distinct_open (Known value) constant = known_open (compare_known Ne value constant)

open_has : (row : List Datum) (atom : AtomOf) → member (open_mask atom) (atom_meaning atom row) ≡ true
open_has row (Cmp term op constant) = member_where (λ _. true) _
open_has row (IsNull column) = missing_open (value_at row column)
open_has row (In term constants) = member_where (λ _. true) _
open_has row (Between term low high) = member_where (λ _. true) _
open_has row (Distinct term constant) = distinct_open (term_value term row) constant

known_has : (row : List Datum) (atom : AtomOf) (known : Option Tri)
    → ((value : Tri) → known ≡ Some value → atom_meaning atom row ≡ value)
    → member (known_or_open known atom) (atom_meaning atom row) ≡ true
known_has row atom (Some value) h = rw (h value refl) (single_has value)
known_has row atom None h = open_has row atom

pub possible_holds : (filter : Expr) (path : Path) (row : List Datum) → Agrees row path
    → member (possible_of filter path) (meaning filter row) ≡ true
possible_holds (Const known) path row h = single_has (tri_of known)
possible_holds (Atom atom) path row h =
    known_has row atom (first_value atom path) (λ value. first_value_is row atom path value h)
possible_holds (Not part) path row h =
    one_has not_of (possible_of part path) (meaning part row) (possible_holds part path row h)
possible_holds (And left right) path row h =
    two_has and_of (possible_of left path) (possible_of right path) (meaning left row) (meaning right row)
    (possible_holds left path row h) (possible_holds right path row h)
possible_holds (Or left right) path row h =
    two_has or_of (possible_of left path) (possible_of right path) (meaning left row) (meaning right row)
    (possible_holds left path row h) (possible_holds right path row h)
possible_holds (Is test part) path row h =
    one_has (is_of test) (possible_of part path) (meaning part row) (possible_holds part path row h)

open_has_true : (atom : AtomOf) → member (open_mask atom) True ≡ true
open_has_true (Cmp term op constant) = refl
open_has_true (IsNull column) = refl
open_has_true (In term constants) = refl
open_has_true (Between term low high) = refl
open_has_true (Distinct term constant) = refl

some_known : (known : Option Tri) (atom : AtomOf) → (t : Tri) × (member (known_or_open known atom) t ≡ true)
some_known (Some value) atom = (value, single_has value)
some_known None atom = (True, open_has_true atom)

-- some truth value is left for each filter, even on a path with which no row agrees
some_possible : (filter : Expr) (path : Path) → (t : Tri) × (member (possible_of filter path) t ≡ true)
some_possible (Const known) path = (tri_of known, single_has (tri_of known))
some_possible (Atom atom) path = some_known (first_value atom path) atom
some_possible (Not part) path =
    let some = some_possible part path in
    (not_of some.0, one_has not_of (possible_of part path) some.0 some.1)
some_possible (And left right) path =
    let one = some_possible left path in
    let other = some_possible right path in
    (and_of one.0 other.0, two_has and_of (possible_of left path) (possible_of right path) one.0 other.0 one.1 other.1)
some_possible (Or left right) path =
    let one = some_possible left path in
    let other = some_possible right path in
    (or_of one.0 other.0, two_has or_of (possible_of left path) (possible_of right path) one.0 other.0 one.1 other.1)
some_possible (Is test part) path =
    let some = some_possible part path in
    (is_of test some.0, one_has (is_of test) (possible_of part path) some.0 some.1)

false_absorbs : (truth falsity null : Bool) (t : Tri)
    → member (record { truth = truth; falsity = falsity; null = null }) t ≡ true
    → lift_two and_of (single_of False) (record { truth = truth; falsity = falsity; null = null }) ≡ single_of False
false_absorbs true true true t h = refl
false_absorbs true true false t h = refl
false_absorbs true false true t h = refl
false_absorbs true false false t h = refl
false_absorbs false true true t h = refl
false_absorbs false true false t h = refl
false_absorbs false false true t h = refl
false_absorbs false false false True h = absurd cc
false_absorbs false false false False h = absurd cc
false_absorbs false false false Null h = absurd cc

true_absorbs : (truth falsity null : Bool) (t : Tri)
    → member (record { truth = truth; falsity = falsity; null = null }) t ≡ true
    → lift_two or_of (single_of True) (record { truth = truth; falsity = falsity; null = null }) ≡ single_of True
true_absorbs true true true t h = refl
true_absorbs true true false t h = refl
true_absorbs true false true t h = refl
true_absorbs true false false t h = refl
true_absorbs false true true t h = refl
true_absorbs false true false t h = refl
true_absorbs false false true t h = refl
true_absorbs false false false True h = absurd cc
true_absorbs false false false False h = absurd cc
true_absorbs false false false Null h = absurd cc

-- AND with a part that is surely false is false, whatever the other part is
pub both_false : (filter : Expr) (path : Path)
    → lift_two and_of (single_of False) (possible_of filter path) ≡ single_of False
both_false filter path =
    let some = some_possible filter path in
    let mask = possible_of filter path in
    false_absorbs mask.truth mask.falsity mask.null some.0 some.1

-- OR with a part that is surely true is true, whatever the other part is
pub either_true : (filter : Expr) (path : Path)
    → lift_two or_of (single_of True) (possible_of filter path) ≡ single_of True
either_true filter path =
    let some = some_possible filter path in
    let mask = possible_of filter path in
    true_absorbs mask.truth mask.falsity mask.null some.0 some.1
