use Rattle.shard_checker.proofs.BitSetLemmas.{bit_is_set}
use Rattle.shard_checker.proofs.bit_sets.set_bit.Goals as goal

pub returns : goal.returns
returns c = λ other. bit_is_set c.args.words.now c.args.number other c.requires
