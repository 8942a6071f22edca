use Rattle.std.proofs.Common.{map, false}
use Rattle.cli.proofs.Answering.{unserved_ends, unserved_says}
use Rattle.cli.proofs.program.run.Goals as goal

pub returns-in-Ended-clause-run : goal.returns-in-Ended-clause-run
returns-in-Ended-clause-run g c =
    c.finish.ensures.finishes false (map g.S.AsStr.text c.args.words.now) g.I.Reader.may_fail (g.I.Read.remaining c.args.input)
    (g.W.Writer.contents c.args.writer.now) (c.in-Ended.ensures.course false)

pub returns-clause-run : goal.returns-clause-run
returns-clause-run g c =
    c.finish-in-Serve.ensures.finishes false (map g.S.AsStr.text c.args.words.now)
    g.I.Reader.may_fail (g.I.Read.remaining c.args.input) (g.W.Writer.contents c.args.writer.now)
    (unserved_ends (map g.S.AsStr.text c.args.words.now) g.I.Reader.may_fail (g.I.Read.remaining c.args.input) c.args.input _
    (g.W.Writer.contents c.args.writer.now) (g.W.Writer.contents c.answer_words.new.writer) _ c.unserved.result
    c.in-Serve.ensures.course c.unserved.ensures)

pub returns-in-Ended-clause-failed : goal.returns-in-Ended-clause-failed
returns-in-Ended-clause-failed g c =
    c.finish.ensures.failed (g.W.Writer.has_failed c.args.writer.now) c.in-Ended.ensures.failed

pub returns-clause-failed : goal.returns-clause-failed
returns-clause-failed g c =
    c.finish-in-Serve.ensures.failed (g.W.Writer.has_failed c.args.writer.now)
    (unserved_says c.unserved.result (g.W.Writer.has_failed c.args.writer.now)
    (g.W.Writer.has_failed c.answer_words.new.writer) c.unserved.ensures c.in-Serve.ensures.failed)
