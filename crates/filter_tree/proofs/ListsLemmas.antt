-- Rows that agree on a filter's columns have the same meaning under it.
use Rattle.std.proofs.Common.{◌≡◌, ℕ, true, List, [], ◌∷◌, ◌++◌, refl, sym, ap, subst}
use Rattle.std.specs.Prelude.{nat_eq, fold}
use Rattle.std.specs.List.{list_any}
use Rattle.std.specs.Cmp.{unsigned_Decides}
use Rattle.filter_tree.specs.Datum.{Datum, value_at}
use Rattle.filter_tree.specs.Logic.{not_of, is_of}
use Rattle.filter_tree.specs.Expr.{AtomOf, term_of, said_of, Expr, Const, Atom, Not, And, Or, Is, remainder_of, term_value, atom_meaning, meaning}
use Rattle.filter_tree.specs.Lists.{with_item, atoms_in, column_of, columns_in, distinct_columns, AgreesOn, IsDeterminedBy}
use Rattle.filter_tree.specs.declared.filter.Term.{Term}
use Rattle.filter_tree.specs.declared.filter.Term.TheVariants.{Col, Mod}
use Rattle.filter_tree.proofs.Tests.{by_test}

agrees_append : (one other : List Datum) (columns more : List ℕ) → AgreesOn (columns ++ more) one other
    → AgreesOn columns one other × AgreesOn more one other
agrees_append one other [] more h = (tt, h)
agrees_append one other (c ∷ columns) more h =
    let both = agrees_append one other columns more h.1 in
    ((h.0, both.0), both.1)

-- rows agree on each column that the list has
agrees_on : (one other : List Datum) (column : ℕ) (columns : List ℕ) → AgreesOn columns one other
    → list_any (nat_eq column) columns ≡ true → value_at one column ≡ value_at other column
agrees_on one other column [] h found = absurd cc
agrees_on one other column (c ∷ columns) h found = by_test (nat_eq column c)
    (λ here. let e : column ≡ c = (unsigned_Decides column c).0 here in
    subst (λ k. value_at one k ≡ value_at other k) (sym e) h.0)
    (λ later. let rest : list_any (nat_eq column) columns ≡ true = rw later at found in
    agrees_on one other column columns h.1 rest)

agrees_with_item : (one other : List Datum) (columns : List ℕ) (column : ℕ)
    → AgreesOn (with_item nat_eq columns column) one other
    → AgreesOn columns one other × (value_at one column ≡ value_at other column)
agrees_with_item one other columns column h = by_test (list_any (nat_eq column) columns)
    (λ found. let kept : AgreesOn columns one other = rw found at h in
    (kept, agrees_on one other column columns kept found))
    (λ new. let added : AgreesOn (columns ++ column ∷ []) one other = rw new at h in
    let both = agrees_append one other columns (column ∷ []) added in
    (both.0, both.1.0))

-- rows that agree on the distinct columns of a list agree on the list
agrees_distinct : (one other : List Datum) (held columns : List ℕ)
    → AgreesOn (fold (with_item nat_eq) held columns) one other
    → AgreesOn held one other × AgreesOn columns one other
agrees_distinct one other held [] h = (h, tt)
agrees_distinct one other held (c ∷ columns) h =
    let both = agrees_distinct one other (with_item nat_eq held c) columns h in
    let here = agrees_with_item one other held c both.0 in
    (here.0, (here.1, both.1))

agrees_parts : (one other : List Datum) (found more : List AtomOf) → AgreesOn (columns_in (found ++ more)) one other
    → AgreesOn (columns_in found) one other × AgreesOn (columns_in more) one other
agrees_parts one other [] more h = (tt, h)
agrees_parts one other (c ∷ found) more h =
    let both = agrees_parts one other found more h.1 in
    ((h.0, both.0), both.1)

term_agrees : (one other : List Datum) (term : Term) → value_at one (column_of term) ≡ value_at other (column_of term)
    → term_value term one ≡ term_value term other
term_agrees one other (Col c) h = h
term_agrees one other (Mod c m) h = ap (λ v. remainder_of v m) h

atom_agrees : (one other : List Datum) (atom : AtomOf)
    → value_at one (column_of (term_of atom)) ≡ value_at other (column_of (term_of atom))
    → atom_meaning atom one ≡ atom_meaning atom other
atom_agrees one other atom h = ap (said_of atom) (term_agrees one other (term_of atom) h)

filter_agrees : (one other : List Datum) (filter : Expr) → AgreesOn (columns_in (atoms_in filter)) one other
    → meaning filter one ≡ meaning filter other
filter_agrees one other (Const known) h = refl
filter_agrees one other (Atom atom) h = atom_agrees one other atom h.0
filter_agrees one other (Not part) h = ap not_of (filter_agrees one other part h)
filter_agrees one other (And left right) h =
    let both = agrees_parts one other (atoms_in left) (atoms_in right) h in
    let l = filter_agrees one other left both.0 in
    let r = filter_agrees one other right both.1 in
    rw (l, r) refl
filter_agrees one other (Or left right) h =
    let both = agrees_parts one other (atoms_in left) (atoms_in right) h in
    let l = filter_agrees one other left both.0 in
    let r = filter_agrees one other right both.1 in
    rw (l, r) refl
filter_agrees one other (Is test part) h = ap (is_of test) (filter_agrees one other part h)

pub determined_by_columns : (filter : Expr) (columns : List ℕ) → columns ≡ distinct_columns filter
    → IsDeterminedBy filter columns
determined_by_columns filter columns e = record {
  same_meaning = λ one other h.
      let agrees : AgreesOn (distinct_columns filter) one other = rw e at h in
      let parts = agrees_distinct one other [] (columns_in (atoms_in filter)) agrees in
      filter_agrees one other filter parts.1;
}
