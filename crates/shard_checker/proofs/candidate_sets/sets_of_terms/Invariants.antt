use Rattle.std.proofs.Common.{take}
use Rattle.shard_checker.specs.Candidates.{candidates_view}
use Rattle.shard_checker.specs.CandidateSets.{AreSetsOfTerms}
use Rattle.shard_checker.proofs.candidate_sets.sets_of_terms.Given as goal

-- the sets of the terms so far
abbrev pub invariant-loop-term : goal.invariant-loop-term
invariant-loop-term l = AreSetsOfTerms (candidates_view l.candidates) (take l.term-index l.terms) l.sets.items
