use Rattle.std.proofs.Common.{take}
use Rattle.shard_checker.specs.Candidates.{candidates_view}
use Rattle.shard_checker.specs.CandidateSets.{IsTermSet}
use Rattle.shard_checker.proofs.candidate_sets.set_of_term.Given as goal

-- the candidates of the term so far
abbrev pub invariant-loop-place : goal.invariant-loop-place
invariant-loop-place l = IsTermSet (candidates_view (take l.place l.candidates)) l.term l.set
