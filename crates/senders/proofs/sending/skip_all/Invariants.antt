use Rattle.std.specs.Arc.{arc_value}
use Rattle.senders.proofs.SkippingLemmas.{SkipsSome}
use Rattle.senders.proofs.sending.skip_all.Given as goal

abbrev pub invariant-loop-commit : goal.invariant-loop-commit
invariant-loop-commit l =
    SkipsSome (λ commit. arc_value commit) l.commits l.commit-index l.initial.voice l.voice
