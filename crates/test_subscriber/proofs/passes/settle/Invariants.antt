use Rattle.test_subscriber.specs.Copies.{SettlesCopy}
use Rattle.test_subscriber.proofs.CopyLemmas.{Going}
use Rattle.test_subscriber.proofs.passes.settle.Given as goal

abbrev pub invariant-loop-copy : goal.invariant-loop-copy
invariant-loop-copy l = Going SettlesCopy l.initial.copies l.copies l.copy-index
