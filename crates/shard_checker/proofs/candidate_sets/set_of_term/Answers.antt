use Rattle.std.proofs.Common.{arith}
use Rattle.filter_tree.specs.Same.{same_term}
use Rattle.shard_checker.proofs.CandidateSetLemmas.{set_more}
use Rattle.shard_checker.proofs.candidate_sets.set_of_term.Goals as goal

pub loop-place-preserved : goal.loop-place-preserved
loop-place-preserved c =
    set_more c.args.candidates.now c.loop-place.place _ (omega arith)
    (λ candidate. same_term candidate.term c.args.term) c.loop-place.set c.put.new.self c.same_term.result
    c.loop-place.invariant c.in_ok-put.ensures c.same_term.ensures.test
