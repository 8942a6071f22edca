use Rattle.cli.proofs.Exits.{reported, whole_outcome}
use Rattle.cli.specs.Runs.{asked_of_words}
use Rattle.cli.proofs.program.outcome.Goals as goal

pub returns-in-Ok-clause-concludes : goal.returns-in-Ok-clause-concludes
returns-in-Ok-clause-concludes g c = λ serves words may_fail known old ends.
    whole_outcome (asked_of_words serves words may_fail known) old
    (g.W.Writer.contents c.args.writer.now) c.in-Ok.status (rw c.in-Ok.is at ends)

pub returns-in-Err-clause-concludes : goal.returns-in-Err-clause-concludes
returns-in-Err-clause-concludes g c = λ serves words may_fail known old ends.
    reported (asked_of_words serves words may_fail known) old (g.W.Writer.contents c.args.writer.now)
    (g.W.Writer.contents c.report.new.writer) c.in-Err.failure c.report.result (rw c.in-Err.is at ends)
    c.report.ensures.written

pub returns-in-Ok-clause-failed : goal.returns-in-Ok-clause-failed
returns-in-Ok-clause-failed g c = λ old ends. rw c.in-Ok.is at ends

pub returns-in-Err-clause-failed : goal.returns-in-Err-clause-failed
returns-in-Err-clause-failed g c = λ old ends. c.report.ensures.failed old (rw c.in-Err.is at ends)
