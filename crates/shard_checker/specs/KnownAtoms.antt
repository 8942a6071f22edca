-- What a path says about each atom of a table: the value that it has first on the path, or otherwise any value that it
-- may have.
use Rattle.std.specs.Prelude.{◌≡◌, ℕ, ◌==◌, Bool, false, ◌&&◌, if◌then◌else◌, List, [], ◌∷◌, ◌++◌, map, Option, Some, slice_get, slice_set}
use Rattle.std.specs.List.{list_any}
use Rattle.filter_tree.specs.Expr.{AtomOf}
use Rattle.filter_tree.specs.Mask.{same_tri, single_of}
use Rattle.filter_tree.specs.Paths.{Path, first_value, known_or_open}
use Rattle.filter_tree.specs.Same.{same_atom}
use Rattle.filter_tree.specs.declared.mask.Mask.{Mask}
use Rattle.filter_tree.specs.declared.tri.Tri.{Tri}
use Rattle.filter_tree.specs.declared.tri.Tri.TheVariants.{Null}
use Rattle.shard_checker.specs.declared.known.Undo.{Undo}
use Rattle.shard_checker.specs.declared.known.Known.{Known}
use Rattle.shard_checker.specs.Steps.{mask_in}

-- the atoms are distinct
abbrev pub Differ : List AtomOf → Type 0
Differ [] = Unit {0}
Differ (atom ∷ atoms) = (list_any (same_atom atom) atoms ≡ false) × Differ atoms

-- what an atom may be at the end of a path
abbrev pub atom_mask : Path → AtomOf → Mask
atom_mask path atom = known_or_open (first_value atom path) atom

abbrev pub atom_masks : List AtomOf → Path → List Mask
atom_masks atoms path = map (atom_mask path) atoms

-- what an atom may be after it was found to have the value: the value, unless it had one before
abbrev pub met : Mask → Tri → Mask
met mask value = if mask.truth && mask.falsity then single_of value else mask

abbrev pub undo_of : ℕ → Mask → Undo
undo_of number mask = record { number = number; mask = mask }

-- for each entry of a path, one after another, the number of its atom and what that atom might be before the entry
abbrev pub AreUndos : List AtomOf → Path → List Undo → Path → Type 0
AreUndos atoms done [] [] = Unit {0}
AreUndos atoms done (before ∷ undos) (entry ∷ path) =
    ((slice_get atoms before.number ≡ Some entry.0) × (before.mask ≡ atom_mask done entry.0))
    × AreUndos atoms (done ++ entry ∷ []) undos path
AreUndos atoms done undos path = ⊥

-- an entry of the path has the atom of the number, and the value null
abbrev pub null_at : ℕ → Option Undo → Option (AtomOf × Tri) → Bool
null_at number (Some before) (Some entry) = (before.number == number) && same_tri entry.1 Null
null_at number before entry = false

-- what is known is what the path says
pub record IsKnown (atoms : List AtomOf) (known : Known) (path : Path) : Type 0 where
  pub masks : known.atoms.items ≡ atom_masks atoms path
  pub undos : AreUndos atoms [] known.undos.items path

-- the atom of the number was found to have the value
pub record Learns (old new : Known) (number : ℕ) (value : Tri) : Type 0 where
  pub masks : new.atoms.items ≡ slice_set old.atoms.items number (met (mask_in old.atoms.items number) value)
  pub undos : new.undos.items ≡ old.undos.items ++ undo_of number (mask_in old.atoms.items number) ∷ []

-- what was found last is undone
pub record TakesBack (old new : Known) (before : Undo) : Type 0 where
  pub masks : new.atoms.items ≡ slice_set old.atoms.items before.number before.mask
  pub undos : old.undos.items ≡ new.undos.items ++ before ∷ []
