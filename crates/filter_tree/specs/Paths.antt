-- What is known about a row once some atoms are tested, and which truth values a filter can still have on it.
use Rattle.std.specs.Prelude.{◌≡◌, true, false, List, [], ◌∷◌, map, if◌then◌else◌, Option, Some, None}
use Rattle.std.specs.Borrow.{Bor}
use Rattle.filter_tree.specs.Datum.{Datum}
use Rattle.filter_tree.specs.Logic.{and_of, or_of, not_of, is_of, tri_of}
use Rattle.filter_tree.specs.Expr.{AtomOf, Cmp, IsNull, In, Between, Distinct, Expr, Const, Not, And, Or, Is, atom_meaning}
use Rattle.filter_tree.specs.Expr as e
use Rattle.filter_tree.specs.Shape.{atom_view}
use Rattle.filter_tree.specs.Same.{same_atom}
use Rattle.filter_tree.specs.Mask.{single_of, mask_where, lift_one, lift_two}
use Rattle.filter_tree.specs.declared.mask.Mask.{Mask}
use Rattle.filter_tree.specs.declared.filter.Atom.{Atom}
use Rattle.filter_tree.specs.declared.tri.Tri.{Tri}

-- atoms with the value that each was found to have
abbrev pub Path : Type 0
Path = List (AtomOf × Tri)

abbrev pub path_view : {A : _} → List (Bor (Atom A) × Tri) → Path
path_view entries = map (λ entry. (atom_view entry.0.now, entry.1)) entries

-- each atom has its value on the row
abbrev pub Agrees : List Datum → Path → Type 0
Agrees row [] = Unit {0}
Agrees row (entry ∷ path) = (atom_meaning entry.0 row ≡ entry.1) × Agrees row path

-- the value that the path has first for an atom
abbrev pub first_value : AtomOf → Path → Option Tri
first_value atom [] = None
first_value atom (entry ∷ path) = if same_atom atom entry.0 then Some entry.1 else first_value atom path

-- what an atom may be while nothing is known about it: `IS NULL` and `IS DISTINCT FROM` are never null
abbrev pub open_mask : AtomOf → Mask
open_mask (Cmp term op constant) = mask_where (λ value. true)
open_mask (IsNull column) = record { truth = true; falsity = true; null = false }
open_mask (In term constants) = mask_where (λ value. true)
open_mask (Between term low high) = mask_where (λ value. true)
open_mask (Distinct term constant) = record { truth = true; falsity = true; null = false }

abbrev pub known_or_open : Option Tri → AtomOf → Mask
known_or_open (Some value) atom = single_of value
known_or_open None atom = open_mask atom

-- the truth values that a filter may have on the rows that agree with the path
abbrev pub possible_of : Expr → Path → Mask
possible_of (Const known) path = single_of (tri_of known)
possible_of (e.Atom atom) path = known_or_open (first_value atom path) atom
possible_of (Not part) path = lift_one not_of (possible_of part path)
possible_of (And left right) path = lift_two and_of (possible_of left path) (possible_of right path)
possible_of (Or left right) path = lift_two or_of (possible_of left path) (possible_of right path)
possible_of (Is test part) path = lift_one (is_of test) (possible_of part path)
