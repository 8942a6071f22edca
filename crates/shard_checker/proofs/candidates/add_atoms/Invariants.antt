use Rattle.std.proofs.Common.{◌≡◌, ◌++◌, drop}
use Rattle.std.specs.Prelude.{flat_map}
use Rattle.filter_tree.specs.Shape.{atoms_view}
use Rattle.shard_checker.specs.Candidates.{candidates_view, named_in}
use Rattle.shard_checker.proofs.candidates.add_atoms.Given as goal

-- with the atoms that are left the candidates are those of all
abbrev pub invariant-loop-atom : goal.invariant-loop-atom
invariant-loop-atom g l =
    candidates_view l.candidates.items ++ flat_map (named_in l.kind l.term) (atoms_view (drop l.atom-index l.atoms))
    ≡ candidates_view l.initial.candidates.items ++ flat_map (named_in l.kind l.term) (atoms_view l.atoms)
