use Rattle.cli.specs.Talks.{AreHeard}
use Rattle.cli.proofs.publish.callers.answer_callers.Given as goal

-- the callers so far are answered
abbrev pub invariant-loop : goal.invariant-loop
invariant-loop g l = AreHeard g.P.Publishing.checked g.P.Publishing.limit l.initial.seat l.seat
