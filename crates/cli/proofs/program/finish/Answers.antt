use Rattle.std.proofs.Common.{refl}
use Rattle.cli.proofs.Exits.{four_says, ran, ran_at_once, ran_unflushed, tag_says}
use Rattle.cli.specs.Runs.{asked_of_words}
use Rattle.cli.proofs.program.finish.Goals as goal

pub returns-then-eq-clause-finishes : goal.returns-then-eq-clause-finishes
returns-then-eq-clause-finishes g c = λ serves words may_fail known old ends.
    ran_at_once (asked_of_words serves words may_fail known) old (g.W.Writer.contents c.outcome-status.new.writer)
    c.outcome-status.result _ (c.outcome-status.ensures.concludes serves words may_fail known old ends) refl

pub returns-in-Ok-clause-finishes : goal.returns-in-Ok-clause-finishes
returns-in-Ok-clause-finishes g c = λ serves words may_fail known old ends.
    ran (asked_of_words serves words may_fail known) old (g.W.Writer.contents c.outcome-status.new.writer)
    (g.W.Writer.contents c.flush.new.self) c.outcome-status.result _
    (c.outcome-status.ensures.concludes serves words may_fail known old ends) c.flush.ensures.bytes refl

pub returns-in-Err-clause-finishes : goal.returns-in-Err-clause-finishes
returns-in-Err-clause-finishes g c = λ serves words may_fail known old ends.
    ran_unflushed (asked_of_words serves words may_fail known) old (g.W.Writer.contents c.outcome-status.new.writer)
    (g.W.Writer.contents c.flush.new.self) c.outcome-status.result _
    (c.outcome-status.ensures.concludes serves words may_fail known old ends) c.flush.ensures.bytes refl

pub returns-then-eq-clause-failed : goal.returns-then-eq-clause-failed
returns-then-eq-clause-failed g c = λ old ends.
    tag_says c.outcome-status.result _ old (g.W.Writer.has_failed c.outcome-status.new.writer)
    (g.W.Writer.has_failed c.outcome-status.new.writer) refl refl (c.outcome-status.ensures.failed old ends)

pub returns-in-Ok-clause-failed : goal.returns-in-Ok-clause-failed
returns-in-Ok-clause-failed g c = λ old ends.
    tag_says c.outcome-status.result _ old (g.W.Writer.has_failed c.outcome-status.new.writer)
    (g.W.Writer.has_failed c.flush.new.self) refl c.in-Ok.ensures.failed (c.outcome-status.ensures.failed old ends)

pub returns-in-Err-clause-failed : goal.returns-in-Err-clause-failed
returns-in-Err-clause-failed g c = λ old ends.
    four_says _ old (g.W.Writer.has_failed c.flush.new.self) refl c.in-Err.ensures.failed
