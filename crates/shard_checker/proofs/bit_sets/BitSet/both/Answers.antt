use Rattle.std.proofs.Common.{◌≡◌, min, length, arith}
use Rattle.shard_checker.proofs.BitSetLemmas.{both_have}
use Rattle.shard_checker.proofs.bit_sets.BitSet.both.Goals as goal

pub returns : goal.returns
returns c = λ number.
    let one = c.args.self.now.words.items in
    let other = c.args.other.now.words.items in
    let both = c.loop-index.words.items in
    let long : length both ≡ min (length one) (length other) = omega (arith, c.len.ensures, c.len-2.ensures) in
    both_have one other both long (λ index low. c.loop-index.invariant.each index (omega (arith, low))) number
