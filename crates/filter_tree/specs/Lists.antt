-- What a row filter ("31.3 Row Filters") is made of: its atoms, the terms that they look at, and their columns, each
-- once, in the order of first appearance.
use Rattle.std.specs.Prelude.{ℕ, ◌<◌, Bool, nat_eq, List, [], ◌∷◌, ◌++◌, ◌≡◌, if◌then◌else◌, map, fold, All}
use Rattle.std.specs.List.{list_any}
use Rattle.filter_tree.specs.Datum.{Datum, value_at}
use Rattle.filter_tree.specs.Expr.{AtomOf, term_of, Expr, Const, Atom, Not, And, Or, Is, meaning}
use Rattle.filter_tree.specs.Same.{same_term, same_atom}
use Rattle.filter_tree.specs.declared.filter.Term.{Term}
use Rattle.filter_tree.specs.declared.filter.Term.TheVariants.{Col, Mod}

-- the list with the item at its end, unless it has it already
abbrev pub with_item : {X : Type 0} → (X → X → Bool) → List X → X → List X
with_item same xs x = if list_any (same x) xs then xs else xs ++ x ∷ []

-- each item once, where it first appears
abbrev pub distinct : {X : Type 0} → (X → X → Bool) → List X → List X
distinct same xs = fold (with_item same) [] xs

-- the atoms of a filter from left to right
abbrev pub atoms_in : Expr → List AtomOf
atoms_in (Const known) = []
atoms_in (Atom atom) = atom ∷ []
atoms_in (Not part) = atoms_in part
atoms_in (And left right) = atoms_in left ++ atoms_in right
atoms_in (Or left right) = atoms_in left ++ atoms_in right
atoms_in (Is test part) = atoms_in part

abbrev pub column_of : Term → ℕ
column_of (Col column) = column
column_of (Mod column divisor) = column

-- the terms of a filter's atoms from left to right
abbrev pub terms_in : Expr → List Term
terms_in filter = map term_of (atoms_in filter)

-- the columns of some atoms
abbrev pub columns_in : List AtomOf → List ℕ
columns_in found = map (λ atom. column_of (term_of atom)) found

abbrev pub distinct_atoms : Expr → List AtomOf
distinct_atoms filter = distinct same_atom (atoms_in filter)

abbrev pub distinct_terms : Expr → List Term
distinct_terms filter = distinct same_term (terms_in filter)

abbrev pub distinct_columns : Expr → List ℕ
distinct_columns filter = distinct nat_eq (columns_in (atoms_in filter))

-- the columns that a filter names are among the first `count` ones
abbrev pub NamesWithin : ℕ → Expr → Type 0
NamesWithin count filter = All (λ column. column < count) (columns_in (atoms_in filter))

-- the rows have the same values in these columns
abbrev pub AgreesOn : List ℕ → List Datum → List Datum → Type 0
AgreesOn [] one other = Unit {0}
AgreesOn (column ∷ columns) one other = (value_at one column ≡ value_at other column) × AgreesOn columns one other

-- rows with the same values in these columns have the same meaning under the filter
pub record IsDeterminedBy (filter : Expr) (columns : List ℕ) : Type 0 where
  pub same_meaning : (one other : List Datum) → AgreesOn columns one other → meaning filter one ≡ meaning filter other
