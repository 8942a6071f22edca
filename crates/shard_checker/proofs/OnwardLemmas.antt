-- The path after a leaf: its last entry has the next value, or is removed if it is null.
use Rattle.std.proofs.Common.{◌≡◌, [], ◌∷◌, ◌++◌, refl, ap}
use Rattle.std.specs.Prelude.{Some}
use Rattle.filter_tree.specs.Expr.{AtomOf}
use Rattle.filter_tree.specs.Paths.{Path}
use Rattle.filter_tree.specs.declared.tri.Tri.TheVariants.{True, False, Null}
use Rattle.shard_checker.specs.Walking.{onward, moved}

pub onward_true : (path : Path) (atom : AtomOf) → onward (path ++ (atom, True) ∷ []) ≡ Some (path ++ (atom, False) ∷ [])
onward_true [] atom = refl
onward_true (entry ∷ path) atom = ap (moved entry) (onward_true path atom)

pub onward_false : (path : Path) (atom : AtomOf)
    → onward (path ++ (atom, False) ∷ []) ≡ Some (path ++ (atom, Null) ∷ [])
onward_false [] atom = refl
onward_false (entry ∷ path) atom = ap (moved entry) (onward_false path atom)

pub onward_null : (path : Path) (atom : AtomOf) → onward (path ++ (atom, Null) ∷ []) ≡ onward path
onward_null [] atom = refl
onward_null (entry ∷ path) atom = ap (moved entry) (onward_null path atom)
