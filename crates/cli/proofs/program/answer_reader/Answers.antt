use Rattle.std.proofs.Common.{inl, inr, refl}
use Rattle.cli.proofs.Answering.{reading_returned, reading_says}
use Rattle.cli.proofs.program.answer_reader.Goals as goal

pub returns-in_err-input-clause-ends : goal.returns-in_err-input-clause-ends
returns-in_err-input-clause-ends g c =
    inr (
      reading_returned g.I.Reader.may_fail (g.I.Read.remaining c.args.input) c.in_err-input.field-0.0
          c.from_residual.result c.in_err-input.ensures.stopped c.from_residual.ensures.1,
      refl,
    )

pub returns-in_err-input-clause-failed : goal.returns-in_err-input-clause-failed
returns-in_err-input-clause-failed g c =
    reading_says g.I.Reader.may_fail (g.I.Read.remaining c.args.input) c.in_err-input.field-0.0
    (g.W.Writer.has_failed c.args.writer.now) c.from_residual.result c.in_err-input.ensures.stopped
    c.from_residual.ensures.1

pub returns-clause-ends : goal.returns-clause-ends
returns-clause-ends g c = inl (record {
  input = c.as_str.result.now;
  given = rw c.as_str.ensures.value c.in_ok-input.ensures.bytes;
  ends = c.answer.ensures.ends g.I.Reader.may_fail;
})
