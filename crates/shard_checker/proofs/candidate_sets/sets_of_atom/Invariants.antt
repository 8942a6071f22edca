use Rattle.std.proofs.Common.{take}
use Rattle.filter_tree.specs.Shape.{atom_view}
use Rattle.shard_checker.specs.Candidates.{candidates_view}
use Rattle.shard_checker.specs.CandidateSets.{AreAtomSets}
use Rattle.shard_checker.proofs.candidate_sets.sets_of_atom.Given as goal

-- what the atom leaves of the candidates so far
abbrev pub invariant-loop-place : goal.invariant-loop-place
invariant-loop-place g l = AreAtomSets (candidates_view (take l.place l.candidates)) (atom_view l.atom) l.sets
