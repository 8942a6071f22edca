use Rattle.std.proofs.Common.{inl, inr, refl}
use Rattle.cli.proofs.Answering.{reading_returned, reading_says}
use Rattle.cli.proofs.Causes.{input_says}
use Rattle.cli.proofs.program.serve_script.Goals as goal

pub returns-in_err-input-clause-ends : goal.returns-in_err-input-clause-ends
returns-in_err-input-clause-ends g c =
    inr (
      reading_returned g.I.Reader.may_fail (g.I.Read.remaining c.args.input) c.in_err-input.field-0.0 c.from_residual.result c.in_err-input.ensures.stopped
          c.from_residual.ensures.1,
      refl,
    )

pub returns-in_err-input-clause-failed : goal.returns-in_err-input-clause-failed
returns-in_err-input-clause-failed g c =
    inr (reading_says g.I.Reader.may_fail (g.I.Read.remaining c.args.input) c.in_err-input.field-0.0
    (g.W.Writer.has_failed c.args.writer.now) c.from_residual.result c.in_err-input.ensures.stopped
    c.from_residual.ensures.1)

pub returns-clause-ends : goal.returns-clause-ends
returns-clause-ends g c = inl (record {
  input = c.as_str.result.now;
  given = rw c.as_str.ensures.value c.in_ok-input.ensures.bytes;
  ends =
      c.serve_input.ensures.ends;
})

pub returns-clause-failed : goal.returns-clause-failed
returns-clause-failed g c =
    input_says c.args.service (g.I.Read.remaining c.args.input) c.as_str.result.now
    (g.W.Writer.has_failed c.args.writer.now) (g.W.Writer.has_failed c.serve_input.new.writer) c.serve_input.result
    (rw c.as_str.ensures.value c.in_ok-input.ensures.bytes) c.serve_input.ensures.failed
