use Rattle.std.proofs.Common.{take}
use Rattle.filter_tree.specs.Shape.{atoms_view}
use Rattle.shard_checker.specs.Candidates.{candidates_view}
use Rattle.shard_checker.specs.CandidateSets.{AreSetsOfAtoms}
use Rattle.shard_checker.proofs.candidate_sets.sets_of_atoms.Given as goal

-- the sets of the atoms so far
abbrev pub invariant-loop-atom : goal.invariant-loop-atom
invariant-loop-atom g l =
    AreSetsOfAtoms (candidates_view l.candidates) (take l.atom-index (atoms_view l.atoms)) l.sets.items
