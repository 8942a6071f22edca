use Rattle.copy_both.specs.Ears.{ear_phase, ear_heard}
use Rattle.copy_both.proofs.LinkLemmas.{ended_answers}
use Rattle.copy_both.proofs.ear.Ear.listen.Goals as goal

-- nothing more is heard after an end
pub returns-in-Closed-clause-answer : goal.returns-in-Closed-clause-answer
returns-in-Closed-clause-answer c =
    ended_answers (ear_phase c.args.self.now) (ear_heard c.args.self.now c.args.book.now c.args.piece.now c.args.sent)
    c.in-Closed.is
