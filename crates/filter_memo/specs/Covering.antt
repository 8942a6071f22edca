-- Filters that compare only one term, and only with given bounds: row filters of PostgreSQL 15, "Logical Replication",
-- 31.3 Row Filters.
use Rattle.std.specs.Prelude.{Bool, true, ◌&&◌, List}
use Rattle.std.specs.List.{list_any, list_all}
use Rattle.std.specs.Ordering.{eq_by_cmp}
use Rattle.filter_tree.specs.Datum.{Constant, Number, Known}
use Rattle.filter_tree.specs.Expr.{AtomOf, Cmp, IsNull, In, Between, Distinct, term_of, Expr, Const, Atom, Not, And, Or, Is}
use Rattle.filter_tree.specs.Order.{datum_cmp}
use Rattle.filter_tree.specs.Same.{same_term}
use Rattle.filter_tree.specs.Values.{datum_view}
use Rattle.filter_tree.specs.declared.filter.Term.{Term}
use Rattle.filter_tree.specs.declared.value.Value.{Value}

-- the constant is a bound
abbrev pub has : {A : _} → List (Value A) → Constant → Bool
has bounds constant = list_any (λ bound. eq_by_cmp datum_cmp (datum_view bound) (Known constant)) bounds

-- the constants of the atom are bounds
abbrev pub has_constants : {A : _} → List (Value A) → AtomOf → Bool
has_constants bounds (Cmp term op constant) = has bounds constant
has_constants bounds (IsNull column) = true
has_constants bounds (In term constants) = list_all (has bounds) constants
has_constants bounds (Between term low high) = has bounds (Number low) && has bounds (Number high)
has_constants bounds (Distinct term constant) = has bounds constant

-- the atom is of the term, and its constants are bounds
abbrev pub covers_atom : {A : _} → Term → List (Value A) → AtomOf → Bool
covers_atom term bounds atom = same_term term (term_of atom) && has_constants bounds atom

abbrev pub covers : {A : _} → Term → List (Value A) → Expr → Bool
covers term bounds (Const known) = true
covers term bounds (Atom atom) = covers_atom term bounds atom
covers term bounds (Not part) = covers term bounds part
covers term bounds (And left right) = covers term bounds left && covers term bounds right
covers term bounds (Or left right) = covers term bounds left && covers term bounds right
covers term bounds (Is test part) = covers term bounds part
