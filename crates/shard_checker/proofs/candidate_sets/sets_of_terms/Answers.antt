use Rattle.std.proofs.Common.{arith}
use Rattle.shard_checker.specs.Candidates.{candidates_view}
use Rattle.shard_checker.proofs.CandidateSetLemmas.{term_sets_more}
use Rattle.shard_checker.proofs.candidate_sets.sets_of_terms.Goals as goal

pub loop-term-preserved : goal.loop-term-preserved
loop-term-preserved c =
    term_sets_more (candidates_view c.args.candidates.now) c.args.terms.now c.loop-term.term-index _
    c.loop-term.sets.items c.push.new.self.items c.in_ok-set_of_term.field-0 (omega arith)
    c.in_ok-push.ensures.items c.loop-term.invariant c.in_ok-set_of_term.ensures
