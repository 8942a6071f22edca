-- A filter tree of the program as plain data, whichever memory it is in.
use Rattle.std.specs.Prelude.{List, map}
use Rattle.std.specs.Borrow.{Bor}
use Rattle.filter_tree.specs.Values.{constant_view}
use Rattle.filter_tree.specs.Expr.{AtomOf, Expr}
use Rattle.filter_tree.specs.Expr as e
use Rattle.filter_tree.specs.declared.filter.Atom.{Atom}
use Rattle.filter_tree.specs.declared.filter.Atom.TheVariants.{Cmp, IsNull, In, Between, Distinct}
use Rattle.filter_tree.specs.declared.filter.Filter.{Filter}
use Rattle.filter_tree.specs.declared.filter.Filter.TheVariants.{Const, Atom as Leaf, Not', And', Or', Is'}

abbrev pub atom_view : {A : _} → Atom A → AtomOf
atom_view (Cmp term op literal) = e.Cmp term op (constant_view literal)
atom_view (IsNull column) = e.IsNull column
atom_view (In term literals) = e.In term (map constant_view literals.items)
atom_view (Between term low high) = e.Between term low high
atom_view (Distinct term literal) = e.Distinct term (constant_view literal)

-- the atoms of a list of references to atoms
abbrev pub atoms_view : {A : _} → List (Bor (Atom A)) → List AtomOf
atoms_view atoms = map (λ atom. atom_view atom.now) atoms

-- `p` and `q` are where the boxes are
abbrev pub expr_view : {A : _} → Filter A → Expr
expr_view (Const known) = e.Const known
expr_view (Leaf atom) = e.Atom (atom_view atom)
expr_view (Not' p part) = e.Not (expr_view part)
expr_view (And' p left q right) = e.And (expr_view left) (expr_view right)
expr_view (Or' p left q right) = e.Or (expr_view left) (expr_view right)
expr_view (Is' test p part) = e.Is test (expr_view part)
