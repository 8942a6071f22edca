use Rattle.std.proofs.Common.{◌≡◌, drop}
use Rattle.filter_tree.specs.Shape.{atom_view}
use Rattle.filter_tree.specs.Paths.{path_view, first_value}
use Rattle.filter_tree.proofs.possibility.value_on_path.Given as goal

-- the first value on what is left of the path is that on the whole
abbrev pub invariant-loop-tested : goal.invariant-loop-tested
invariant-loop-tested g l =
    first_value (atom_view l.atom) (path_view (drop l.tested-index l.path))
    ≡ first_value (atom_view l.atom) (path_view l.path)
