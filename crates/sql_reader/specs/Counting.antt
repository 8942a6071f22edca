-- Counts of atoms and nodes of filters that stop once a limit is passed.
use Rattle.std.specs.Prelude.{◌≡◌, ℕ, ◌+◌, ◌-◌, false, List, [], ◌∷◌, ◌++◌, Option, Some, None, if◌then◌else◌, length, nat_lt, nat_le}
use Rattle.filter_tree.specs.Expr.{AtomOf, Expr, Const, Atom, Not, And, Or, Is}
use Rattle.filter_tree.specs.Lists.{with_item}
use Rattle.filter_tree.specs.Same.{same_atom}
use Rattle.sql_reader.specs.Limits.{expr_nodes, all_nodes, distinct_count}

-- the atoms of a filter from right to left
abbrev pub atoms_backwards : Expr → List AtomOf
atoms_backwards (Const known) = []
atoms_backwards (Atom atom) = atom ∷ []
atoms_backwards (Not part) = atoms_backwards part
atoms_backwards (And left right) = atoms_backwards right ++ atoms_backwards left
atoms_backwards (Or left right) = atoms_backwards right ++ atoms_backwards left
atoms_backwards (Is test part) = atoms_backwards part

-- the list with the atom at its end, unless it has it already or has more than 64
abbrev pub gathered : List AtomOf → AtomOf → List AtomOf
gathered held atom = if nat_lt 64 (length held) then held else with_item same_atom held atom

-- what is left of a number after subtracting this many; `None` if the number is less
abbrev pub left_after : ℕ → ℕ → Option ℕ
left_after taken left = if nat_le taken left then Some (left - taken) else None

-- the nodes of filters, and one more for each filter
abbrev pub all_places : List Expr → ℕ
all_places [] = 0
all_places (filter ∷ filters) = (expr_nodes filter + 1) + all_places filters

-- the filters exceed no limit
pub record AreWithin (filters : List Expr) : Type 0 where
  pub few_atoms : nat_lt 64 (distinct_count filters) ≡ false
  pub few_nodes : nat_lt 1000 (all_nodes filters) ≡ false
