use Rattle.std.proofs.Common.{arith}
use Rattle.copy_frames.proofs.CutLemmas.{front_tells}
use Rattle.copy_frames.proofs.front.peek.Goals as goal

pub returns-clause-tells : goal.returns-clause-tells
returns-clause-tells c =
    front_tells c.args.limit c.args.bytes.now _ (λ i. omega (arith, c.type_inv.bytes i)) c.classify.ensures
