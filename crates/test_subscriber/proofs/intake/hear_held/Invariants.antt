use Rattle.std.proofs.Common.{length}
use Rattle.test_subscriber.specs.Views.{machine_view}
use Rattle.test_subscriber.proofs.IntakeLemmas.{IsAt}
use Rattle.test_subscriber.proofs.intake.hear_held.Given as goal

abbrev pub invariant-loop-frame : goal.invariant-loop-frame
invariant-loop-frame l = IsAt l.initial.inbox l.inbox (machine_view l.initial.replica) (machine_view l.replica)

abbrev pub decreases-loop-frame : goal.decreases-loop-frame
decreases-loop-frame l = length l.inbox.bytes
