use Rattle.std.proofs.Common.{arith}
use Rattle.filter_tree.specs.Shape.{atom_view}
use Rattle.shard_checker.proofs.CandidateSetLemmas.{sets_more}
use Rattle.shard_checker.proofs.candidate_sets.sets_of_atom.Goals as goal

pub loop-place-preserved : goal.loop-place-preserved
loop-place-preserved g c =
    sets_more c.args.candidates.now c.loop-place.place _ (omega arith) (atom_view c.args.atom.now) c.loop-place.sets
    c.put.new.self c.mask_of.result c.loop-place.invariant c.in_ok-put.ensures c.mask_of.ensures
