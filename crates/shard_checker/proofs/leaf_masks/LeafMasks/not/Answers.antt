use Rattle.shard_checker.specs.LeafMasks.{at_leaf}
use Rattle.shard_checker.proofs.LeafMaskLemmas.{not_at}
use Rattle.shard_checker.proofs.leaf_masks.LeafMasks.not.Goals as goal

pub returns : goal.returns
returns c = λ leaf. not_at (at_leaf leaf c.args.self)
