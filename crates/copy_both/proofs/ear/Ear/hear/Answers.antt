use Rattle.std.proofs.Common.{Ok, ap, sym, ◌∙◌}
use Rattle.copy_both.proofs.ear.Ear.hear.Goals as goal

pub returns-in-Ok-clause-answer : goal.returns-in-Ok-clause-answer
returns-in-Ok-clause-answer c = rw (← c.new.ensures) (c.in-Ok.ensures.answer ∙ ap Ok (sym c.reported.ensures))

pub returns-in-Err-clause-answer : goal.returns-in-Err-clause-answer
returns-in-Err-clause-answer c = rw (← c.new.ensures) c.in-Err.ensures.answer

pub returns-in-Err-clause-left : goal.returns-in-Err-clause-left
returns-in-Err-clause-left c = rw (← c.new.ensures) c.in-Err.ensures.left
