use Rattle.std.proofs.Common.{ℕ, ap, subst, sym}
use Rattle.std.specs.Prelude.{IfErr, OnOk, Option}
use Rattle.cli.proofs.Callers.{answered_by, cut_off_by}
use Rattle.cli.specs.Incoming.{coming}
use Rattle.cli.specs.Published.{callers_at}
use Rattle.cli.specs.Talks.{HasAnswered, IsCutOff}
use Rattle.cli.proofs.publish.answer_attended.Goals as goal

pub returns-in-Some-clause-ok : goal.returns-in-Some-clause-ok
returns-in-Some-clause-ok g c =
    answered_by g.P.Publishing.checked g.P.Publishing.limit g.I.Reader.may_fail (callers_at c.args.callers.now) c.in-Some.door.port
    (ap callers_at c.in-Some.is) (coming g.I.Read.remaining c.args.lines.now) (g.W.Writer.contents c.args.writer.now)
    c.args.seat.now c.answer_callers.new.seat c.answer_callers.result c.answer_callers.ensures.ok

pub returns-in-Some-clause-err : goal.returns-in-Some-clause-err
returns-in-Some-clause-err g c =
    cut_off_by g.P.Publishing.checked g.P.Publishing.limit (callers_at c.args.callers.now)
    (coming g.I.Read.remaining c.args.lines.now) (g.W.Writer.contents c.args.writer.now) c.args.seat.now
    c.answer_callers.new.seat c.answer_callers.result c.answer_callers.ensures.err

pub returns-in-None-clause-ok : goal.returns-in-None-clause-ok
returns-in-None-clause-ok g c =
    let read = coming g.I.Read.remaining in
    let written = g.W.Writer.contents in
    subst (λ (callers : Option ℕ). OnOk c.answer_input.result (HasAnswered g.P.Publishing.checked
    g.P.Publishing.limit callers g.I.Reader.may_fail (read c.args.lines.now) (read c.answer_input.new.lines)
    (written c.args.writer.now) (written c.answer_input.new.writer) c.args.seat.now c.answer_input.new.seat))
    (sym (ap callers_at c.in-None.is)) c.answer_input.ensures.ok

pub returns-in-None-clause-err : goal.returns-in-None-clause-err
returns-in-None-clause-err g c =
    let read = coming g.I.Read.remaining in
    let written = g.W.Writer.contents in
    subst (λ (callers : Option ℕ). IfErr c.answer_input.result (IsCutOff g.P.Publishing.checked
    g.P.Publishing.limit callers (read c.args.lines.now) (read c.answer_input.new.lines)
    (written c.args.writer.now) (written c.answer_input.new.writer) c.args.seat.now c.answer_input.new.seat))
    (sym (ap callers_at c.in-None.is)) c.answer_input.ensures.err
