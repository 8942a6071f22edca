-- Filters as one list of steps, in which a step names its parts by their numbers, and the sets of truth values that
-- each may have: the connectives of "9.1 Logical Operators", on sets.
use Rattle.std.specs.Prelude.{◌≡◌, ℕ, ◌+◌, ◌<◌, ◌==◌, Bool, true, false, not, ◌&&◌, if◌then◌else◌, List, [], ◌∷◌, ◌++◌, Option, Some, None, slice_get, slice_index_or, length}
use Rattle.std.specs.List.{list_any}
use Rattle.filter_tree.specs.Expr.{AtomOf, Expr}
use Rattle.filter_tree.specs.Expr as e
use Rattle.filter_tree.specs.Logic.{and_of, or_of, not_of, is_of, tri_of}
use Rattle.filter_tree.specs.Mask.{mask_where, single_of, lift_one, lift_two}
use Rattle.filter_tree.specs.Same.{same_atom}
use Rattle.filter_tree.specs.declared.mask.Mask.{Mask}
use Rattle.replica_identity.specs.Shares.{ShareOf, Nothing, Everything, Where}
use Rattle.shard_checker.specs.declared.formulas.Formulas.{Formulas}
use Rattle.shard_checker.specs.declared.steps.FormulaNode.{FormulaNode}
use Rattle.shard_checker.specs.declared.steps.FormulaNode.TheVariants.{Const, Atom, Not, And, Or, Is}

-- ---- filters

-- the filter has no atoms but these
abbrev pub names_only : List AtomOf → Expr → Bool
names_only atoms (e.Const known) = true
names_only atoms (e.Atom atom) = list_any (same_atom atom) atoms
names_only atoms (e.Not part) = names_only atoms part
names_only atoms (e.And left right) = names_only atoms left && names_only atoms right
names_only atoms (e.Or left right) = names_only atoms left && names_only atoms right
names_only atoms (e.Is test part) = names_only atoms part

-- the step with this number is the filter, and each part of the filter is a step too
abbrev pub Stands : List AtomOf → List FormulaNode → ℕ → Expr → Type 0
Stands atoms steps number (e.Const known) = slice_get steps number ≡ Some (Const known)
Stands atoms steps number (e.Atom atom) = (place : ℕ)
    × ((slice_get steps number ≡ Some (Atom place)) × (slice_get atoms place ≡ Some atom))
Stands atoms steps number (e.Not part) = (first : ℕ)
    × ((slice_get steps number ≡ Some (Not first)) × Stands atoms steps first part)
Stands atoms steps number (e.And left right) =
    (first : ℕ) × ((second : ℕ)
    × ((slice_get steps number ≡ Some (And first second))
    × (Stands atoms steps first left × Stands atoms steps second right)))
Stands atoms steps number (e.Or left right) =
    (first : ℕ) × ((second : ℕ)
    × ((slice_get steps number ≡ Some (Or first second))
    × (Stands atoms steps first left × Stands atoms steps second right)))
Stands atoms steps number (e.Is test part) = (first : ℕ)
    × ((slice_get steps number ≡ Some (Is test first)) × Stands atoms steps first part)

pub record IsFilter (atoms : List AtomOf) (steps : List FormulaNode) (number : ℕ) (filter : Expr) : Type 0 where
  pub stands : Stands atoms steps number filter

-- the parts of a step are before this number
abbrev pub PartsBefore : ℕ → FormulaNode → Type 0
PartsBefore number (Const known) = Unit {0}
PartsBefore number (Atom place) = Unit {0}
PartsBefore number (Not part) = part < number
PartsBefore number (And left right) = (left < number) × (right < number)
PartsBefore number (Or left right) = (left < number) × (right < number)
PartsBefore number (Is test part) = part < number

-- each step is after its parts
pub record IsOrdered (steps : List FormulaNode) : Type 0 where
  pub each : (number : ℕ) (step : FormulaNode) → slice_get steps number ≡ Some step → PartsBefore number step

-- the steps exist with the same numbers among more steps
pub record Extends (old new : List FormulaNode) : Type 0 where
  pub each : (number : ℕ) (step : FormulaNode) → slice_get old number ≡ Some step → slice_get new number ≡ Some step

-- the step is added to the others, or exists already
pub record Adds (old new : List FormulaNode) (number : ℕ) (step : FormulaNode) : Type 0 where
  pub there : slice_get new number ≡ Some step
  pub extends : Extends old new
  pub ordered : IsOrdered old → PartsBefore (length old) step → IsOrdered new

-- the filter is added to the others
pub record Compiles (atoms : List AtomOf) (old new : List FormulaNode) (number : ℕ) (filter : Expr) : Type 0 where
  pub there : IsFilter atoms new number filter
  pub extends : Extends old new
  pub ordered : IsOrdered old → IsOrdered new

-- ---- sets of truth values

-- the set at a number; empty past the end
abbrev pub mask_in : List Mask → ℕ → Mask
mask_in masks number = slice_index_or masks number (mask_where (λ value. false))

-- what a step may be, from what the atoms and the steps may be
abbrev pub step_mask : List Mask → List Mask → FormulaNode → Mask
step_mask atoms masks (Const known) = single_of (tri_of known)
step_mask atoms masks (Atom place) = mask_in atoms place
step_mask atoms masks (Not part) = lift_one not_of (mask_in masks part)
step_mask atoms masks (And left right) = lift_two and_of (mask_in masks left) (mask_in masks right)
step_mask atoms masks (Or left right) = lift_two or_of (mask_in masks left) (mask_in masks right)
step_mask atoms masks (Is test part) = lift_one (is_of test) (mask_in masks part)

-- what the steps may be, one after another, after those that may be this
abbrev pub masks_of : List Mask → List Mask → List FormulaNode → List Mask
masks_of atoms masks [] = masks
masks_of atoms masks (step ∷ steps) = masks_of atoms (masks ++ step_mask atoms masks step ∷ []) steps

-- each step has the set that follows from the sets of its parts
pub record IsSettled (steps : List FormulaNode) (atoms masks : List Mask) : Type 0 where
  pub each : (number : ℕ) (step : FormulaNode) → slice_get steps number ≡ Some step
      → mask_in masks number ≡ step_mask atoms masks step

-- ---- the shares of a table

-- the filter of a share: nothing passes FALSE, and every row passes TRUE
abbrev pub filter_of : ShareOf → Expr
filter_of Nothing = e.Const false
filter_of Everything = e.Const true
filter_of (Where filter) = filter

-- the filters of the shares have no atoms but these
abbrev pub all_name_only : List AtomOf → List ShareOf → Bool
all_name_only atoms [] = true
all_name_only atoms (share ∷ shares) = names_only atoms (filter_of share) && all_name_only atoms shares

-- the steps with these numbers are the filters of the shares, each in its place
abbrev pub AreFilters : List AtomOf → List FormulaNode → List ℕ → List ShareOf → Type 0
AreFilters atoms steps [] [] = Unit {0}
AreFilters atoms steps (root ∷ roots) (share ∷ shares) = IsFilter atoms steps root (filter_of share)
    × AreFilters atoms steps roots shares
AreFilters atoms steps roots shares = ⊥

-- the filters of the shares are among the steps
pub record IsCompiled (atoms : List AtomOf) (shares : List ShareOf) (formulas : Formulas) : Type 0 where
  pub ordered : IsOrdered formulas.steps.list.items
  pub filters : AreFilters atoms formulas.steps.list.items formulas.roots.items shares

-- the least number of a share, other than the owner's, whose filter may be true
abbrev pub second_among : ℕ → ℕ → List Mask → Option ℕ
second_among owner number [] = None
second_among owner number (mask ∷ masks) = if not (number == owner) && mask.truth then
    Some number else second_among owner (number + 1) masks
