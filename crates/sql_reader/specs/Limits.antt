-- How large the filters of a table may be: at most 64 distinct atoms and at most 1,000 nodes in all its filters
-- ("31.3 Row Filters") together.
use Rattle.std.specs.Prelude.{ℕ, ◌+◌, List, [], ◌∷◌, Option, Some, None, if◌then◌else◌, length, map, nat_lt}
use Rattle.std.specs.List.{flat_map}
use Rattle.std.specs.Borrow.{Bor}
use Rattle.filter_tree.specs.Expr.{AtomOf, Expr, Const, Atom, Not, And, Or, Is}
use Rattle.filter_tree.specs.Lists.{distinct, atoms_in}
use Rattle.filter_tree.specs.Same.{same_atom}
use Rattle.filter_tree.specs.Shape.{expr_view}
use Rattle.filter_tree.specs.declared.filter.Filter.{Filter}
use Rattle.sql_reader.specs.declared.error.Limit.{Limit}
use Rattle.sql_reader.specs.declared.error.Limit.TheVariants.{Atoms, Nodes}

-- each constant, atom, NOT, AND, OR and IS test counts as one
abbrev pub expr_nodes : Expr → ℕ
expr_nodes (Const known) = 1
expr_nodes (Atom atom) = 1
expr_nodes (Not part) = 1 + expr_nodes part
expr_nodes (And left right) = 1 + (expr_nodes left + expr_nodes right)
expr_nodes (Or left right) = 1 + (expr_nodes left + expr_nodes right)
expr_nodes (Is test part) = 1 + expr_nodes part

abbrev pub all_nodes : List Expr → ℕ
all_nodes [] = 0
all_nodes (filter ∷ filters) = expr_nodes filter + all_nodes filters

abbrev pub all_atoms : List Expr → List AtomOf
all_atoms filters = flat_map atoms_in filters

-- how many distinct atoms the filters have
abbrev pub distinct_count : List Expr → ℕ
distinct_count filters = length (distinct same_atom (all_atoms filters))

-- the limit that the filters exceed; atoms are checked before nodes
unfoldable pub exceeded : List Expr → Option Limit
exceeded filters =
    if nat_lt 64 (distinct_count filters) then Some Atoms
    else if nat_lt 1000 (all_nodes filters) then Some Nodes
    else None

-- the filters of a list of references to trees
abbrev pub exprs_view : {A : _} → List (Bor (Filter A)) → List Expr
exprs_view filters = map (λ filter. expr_view filter.now) filters
