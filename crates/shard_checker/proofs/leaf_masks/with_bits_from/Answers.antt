use Rattle.std.proofs.Common.{arith}
use Rattle.shard_checker.proofs.LeafMaskLemmas.{shifted_set, shifted_cleared}
use Rattle.shard_checker.proofs.leaf_masks.with_bits_from.Goals as goal

pub returns-then-is_set : goal.returns-then-is_set
returns-then-is_set c = shifted_set c.args.word c.args.leaf c.args.is_set (omega arith) c.if-is_set.true

pub returns-else-is_set : goal.returns-else-is_set
returns-else-is_set c = shifted_cleared c.args.word c.args.leaf c.args.is_set (omega arith) c.if-is_set.false
