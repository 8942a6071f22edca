-- What it means that a list has each item once, in the order of first appearance: the atoms and terms of row filters
-- ("31.3 Row Filters"), by whose places certificates name them, and their columns.
use Rattle.std.specs.Prelude.{ℕ, Bool, nat_eq, List, ◌≡◌, ◌<◌}
use Rattle.std.specs.List.{IsDistinct, list_any, position_or_len}
use Rattle.filter_tree.specs.Expr.{AtomOf}
use Rattle.filter_tree.specs.Lists.{distinct}
use Rattle.filter_tree.specs.Same.{same_atom, same_term}
use Rattle.filter_tree.specs.declared.filter.Term.{Term}

-- the first list has each item of the second once: no two are the same (`apart`), none is lost and none is new
-- (`held`), and what first appears before another comes before it (`ordered`)
pub record HasEachOnce {X : Type 0} (same : X → X → Bool) (once items : List X) : Type 0 where
  pub apart : IsDistinct same once
  pub held : (x : X) → list_any (same x) once ≡ list_any (same x) items
  pub ordered : (x y : X) → position_or_len (same x) items < position_or_len (same y) items
      → position_or_len (same x) once < position_or_len (same y) once

-- A list that adds each item unless it already has it is such a list, for atoms, for terms and for numbers of columns.
pub record DistinctIsOnce : Type 0 where
  pub atoms : (atoms : List AtomOf) → HasEachOnce same_atom (distinct same_atom atoms) atoms
  pub terms : (terms : List Term) → HasEachOnce same_term (distinct same_term terms) terms
  pub columns : (columns : List ℕ) → HasEachOnce nat_eq (distinct nat_eq columns) columns
