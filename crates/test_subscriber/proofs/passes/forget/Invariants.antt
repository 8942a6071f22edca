use Rattle.test_subscriber.specs.Copies.{ForgetsCopy}
use Rattle.test_subscriber.proofs.CopyLemmas.{Going}
use Rattle.test_subscriber.proofs.passes.forget.Given as goal

abbrev pub invariant-loop-copy : goal.invariant-loop-copy
invariant-loop-copy l = Going ForgetsCopy l.initial.copies l.copies l.copy-index
