use Rattle.std.proofs.Common.{arith}
use Rattle.shard_checker.specs.Candidates.{candidates_view}
use Rattle.shard_checker.proofs.CandidateSetLemmas.{atom_sets_more}
use Rattle.shard_checker.proofs.candidate_sets.sets_of_atoms.Goals as goal

pub loop-atom-preserved : goal.loop-atom-preserved
loop-atom-preserved g c =
    atom_sets_more (candidates_view c.args.candidates.now) c.args.atoms.now c.loop-atom.atom-index c.atom-item.result
    c.loop-atom.sets.items c.push.new.self.items c.in_ok-sets_of_atom.field-0 (omega arith) c.atom-item.is
    c.in_ok-push.ensures.items c.loop-atom.invariant c.in_ok-sets_of_atom.ensures
