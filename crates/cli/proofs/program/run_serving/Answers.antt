use Rattle.std.proofs.Common.{inr, map, rules, true}
use Rattle.cli.proofs.Answering.{served_ends}
use Rattle.cli.proofs.Causes.{served_says}
use Rattle.cli.proofs.RequestLemmas.{asked_can}
use Rattle.cli.proofs.program.run_serving.Goals as goal

pub returns-in-Ended-clause-run : goal.returns-in-Ended-clause-run
returns-in-Ended-clause-run g c =
    c.finish.ensures.finishes true (map g.S.AsStr.text c.args.words.now) g.I.Reader.may_fail (g.I.Read.remaining c.args.input)
    (g.W.Writer.contents c.args.writer.now) (c.in-Ended.ensures.course true)

pub serve_reader-ending-requires : goal.serve_reader-ending-requires
serve_reader-ending-requires g c =
    (search rules, asked_can (map g.S.AsStr.text c.args.words.now) c.in-Serve.request c.in-Serve.ensures.course.asks)

pub returns-in-Serve-clause-run : goal.returns-in-Serve-clause-run
returns-in-Serve-clause-run g c =
    c.finish-in-Serve.ensures.finishes true (map g.S.AsStr.text c.args.words.now)
    g.I.Reader.may_fail (g.I.Read.remaining c.args.input) (g.W.Writer.contents c.args.writer.now)
    (served_ends g.I.Reader.may_fail g.I.Read.remaining (map g.S.AsStr.text c.args.words.now) c.args.input c.in-Serve.input
    (g.W.Writer.contents c.args.writer.now) (g.W.Writer.contents c.answer_words.new.writer)
    (g.W.Writer.contents c.serve_reader-ending.new.writer) c.in-Serve.request c.serve_reader-ending.result
    c.in-Serve.ensures.course c.serve_reader-ending.ensures.ends)

pub returns-in-Ended-clause-failed : goal.returns-in-Ended-clause-failed
returns-in-Ended-clause-failed g c =
    inr (c.finish.ensures.failed (g.W.Writer.has_failed c.args.writer.now) c.in-Ended.ensures.failed)

pub returns-in-Serve-clause-failed : goal.returns-in-Serve-clause-failed
returns-in-Serve-clause-failed g c =
    served_says g.I.Read.remaining (map g.S.AsStr.text c.args.words.now) c.args.input c.in-Serve.input
    (g.W.Writer.contents c.args.writer.now) (g.W.Writer.contents c.answer_words.new.writer) c.in-Serve.request
    c.serve_reader-ending.result (g.W.Writer.has_failed c.args.writer.now)
    (g.W.Writer.has_failed c.answer_words.new.writer) (g.W.Writer.has_failed c.serve_reader-ending.new.writer)
    (g.W.Writer.has_failed c.finish-in-Serve.new.writer) c.finish-in-Serve.result c.in-Serve.ensures.course
    c.in-Serve.ensures.failed c.serve_reader-ending.ensures.failed c.finish-in-Serve.ensures.failed
