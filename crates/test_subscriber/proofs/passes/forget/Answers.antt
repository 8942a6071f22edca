use Rattle.std.proofs.Common.{ap, arith}
use Rattle.test_subscriber.specs.Copies.{ForgetsCopy}
use Rattle.test_subscriber.specs.declared.shape.TableShape.{TableShape}
use Rattle.test_subscriber.proofs.CopyLemmas.{begins, goes_on, all_done}
use Rattle.test_subscriber.proofs.passes.forget.Goals as goal

pub loop-copy-init : goal.loop-copy-init
loop-copy-init c = begins ForgetsCopy _

pub loop-copy-preserved : goal.loop-copy-preserved
loop-copy-preserved c = goes_on ForgetsCopy _ _ _ _ _ (omega arith) c.forget.ensures c.loop-copy.invariant

pub returns : goal.returns
returns c = all_done ForgetsCopy
    (λ old new (does : ForgetsCopy old new). ap (λ (shape : TableShape). shape.relation.oid) does.shape) _ _ _
    (omega arith) c.loop-copy.invariant
