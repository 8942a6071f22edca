use Rattle.std.proofs.lemmas.Result.{IfOk-weaker}
use Rattle.std.specs.String.{string_bytes}
use Rattle.cli.proofs.LineAnswers.{no_text}
use Rattle.cli.proofs.publish.session.answer.Goals as goal

pub returns-in-Err : goal.returns-in-Err
returns-in-Err g c =
    IfOk-weaker c.fault_text.result _ _
    (λ text is. no_text g.P.Publishing.checked g.P.Publishing.limit c.args.line.now c.args.seat.now (string_bytes text)
    c.in-Err.ensures.cases.0 is)
    c.fault_text.ensures
