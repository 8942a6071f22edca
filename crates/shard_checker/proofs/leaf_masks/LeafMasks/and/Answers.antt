use Rattle.shard_checker.proofs.LeafMaskLemmas.{and_at}
use Rattle.shard_checker.proofs.leaf_masks.LeafMasks.and.Goals as goal

pub returns : goal.returns
returns c = λ leaf. and_at leaf c.args.self c.args.other
