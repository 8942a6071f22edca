use Rattle.std.proofs.Common.{map, refl}
use Rattle.std.specs.String.{string_bytes}
use Rattle.cli.proofs.Answering.{help_ends, request_ends, words_end, words_say}
use Rattle.cli.specs.CommandLine.{IsRequest}
use Rattle.cli.proofs.program.answer_words.Goals as goal

pub returns-in-Err-clause-course : goal.returns-in-Err-clause-course
returns-in-Err-clause-course g c =
    λ serves. words_end serves (map g.S.AsStr.text c.args.words.now) g.I.Reader.may_fail (g.I.Read.remaining c.args.input)
    (g.W.Writer.contents c.args.writer.now) c.in-Err.failure c.in-Err.ensures.stopped

pub returns-in-Ok-Help-clause-course : goal.returns-in-Ok-Help-clause-course
returns-in-Ok-Help-clause-course g c =
    λ serves. help_ends serves (map g.S.AsStr.text c.args.words.now) g.I.Reader.may_fail (g.I.Read.remaining c.args.input)
    (string_bytes c.in-Ok-Help.text) (g.W.Writer.contents c.args.writer.now)
    (g.W.Writer.contents c.write_help.new.writer) c.write_help.result
    (rw c.in-Ok-Help.field-0-is at c.in-Ok-Help.ensures.asked) c.write_help.ensures.status c.write_help.ensures.written
    c.write_help.ensures.stopped

pub returns-then-needs_sockets-clause-course : goal.returns-then-needs_sockets-clause-course
returns-then-needs_sockets-clause-course g c =
    let asks : IsRequest (map g.S.AsStr.text c.args.words.now) c.in-Ok-Answer.request =
    rw c.in-Ok-Answer.field-0-is at c.in-Ok-Answer.ensures.asked in
    record { asks = asks; needs = c.needs_sockets.ensures.yes c.if-needs_sockets.true; unread = refl; unwritten = refl }

pub returns-else-needs_sockets-clause-course : goal.returns-else-needs_sockets-clause-course
returns-else-needs_sockets-clause-course g c =
    let asks : IsRequest (map g.S.AsStr.text c.args.words.now) c.in-Ok-Answer.request =
    rw c.in-Ok-Answer.field-0-is at c.in-Ok-Answer.ensures.asked in
    request_ends (map g.S.AsStr.text c.args.words.now) g.I.Reader.may_fail (g.I.Read.remaining c.args.input)
    c.in-Ok-Answer.request (g.W.Writer.contents c.args.writer.now) (g.W.Writer.contents c.answer_reader.new.writer)
    c.answer_reader.result asks (c.needs_sockets.ensures.no c.if-needs_sockets.false) c.answer_reader.ensures.ends

pub returns-in-Err-clause-failed : goal.returns-in-Err-clause-failed
returns-in-Err-clause-failed g c =
    words_say (map g.S.AsStr.text c.args.words.now) c.in-Err.failure (g.W.Writer.has_failed c.args.writer.now)
    c.in-Err.ensures.stopped
