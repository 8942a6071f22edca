use Rattle.shard_checker.proofs.LeafMaskLemmas.{or_at}
use Rattle.shard_checker.proofs.leaf_masks.LeafMasks.or.Goals as goal

pub returns : goal.returns
returns c = λ leaf. or_at leaf c.args.self c.args.other
