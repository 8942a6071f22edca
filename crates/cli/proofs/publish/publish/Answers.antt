use Rattle.std.proofs.Common.{ℕ, All, ap, subst, sym, ◌∙◌}
use Rattle.std.proofs.lemmas.List.{with_items_is}
use Rattle.std.proofs.lemmas.List.Elements.{All-nil}
use Rattle.cli.proofs.Published.{closes_after, cut_off_returned, no_memory, nothing_said, unopened_returned}
use Rattle.cli.specs.Connections.{WasServed, served_at}
use Rattle.cli.specs.Incoming.{coming}
use Rattle.cli.specs.Published.{callers_at}
use Rattle.cli.specs.Talks.{IsCutOff}
use Rattle.cli.proofs.publish.publish.Goals as goal

pub returns-in_err-publisher : goal.returns-in_err-publisher
returns-in_err-publisher g c =
    nothing_said c.args.feed g.P.Publishing.checked g.I.Reader.may_fail (coming g.I.Read.remaining c.args.lines.now)
    (g.W.Writer.contents c.args.writer.now) c.from_residual-in_err-publisher.result
    c.from_residual-in_err-publisher.ensures.1

pub returns-in_err-doors : goal.returns-in_err-doors
returns-in_err-doors g c =
    unopened_returned c.args.feed g.P.Publishing.checked g.I.Reader.may_fail (coming g.I.Read.remaining c.args.lines.now)
    (g.W.Writer.contents c.args.writer.now) (g.W.Writer.contents c.open_doors.new.writer)
    c.in_err-doors.field-0.0 c.from_residual-in_err-doors.result c.in_err-doors.ensures.stopped
    c.from_residual-in_err-doors.ensures.1

pub returns-in_err-answered : goal.returns-in_err-answered
returns-in_err-answered g c =
    let read = coming g.I.Read.remaining in
    let written = g.W.Writer.contents in
    let doors = c.in_ok-doors.doors in
    cut_off_returned c.args.feed g.P.Publishing.checked g.I.Reader.may_fail doors.clients.port (callers_at doors.callers)
    (read c.args.lines.now) (read c.run_both-answered.new.lines) (written c.args.writer.now)
    (written c.open_doors.new.writer) c.in_ok-doors.ensures.opens (written c.run_both-answered.new.writer)
    c.in-Some.seat c.run_both-answered.new.seat
    c.in_err-answered.field-0.0 c.from_residual-in_err-answered.result c.in-Some.ensures.new
    (subst (λ (limit : ℕ). IsCutOff g.P.Publishing.checked limit (callers_at doors.callers) (read c.args.lines.now)
    (read c.run_both-answered.new.lines) (written c.open_doors.new.writer)
    (written c.run_both-answered.new.writer) c.in-Some.seat c.run_both-answered.new.seat c.in_err-answered.field-0.0)
    (sym c.requires.limit) c.in_err-answered.ensures.err)
    c.from_residual-in_err-answered.ensures.1

pub returns-in_err-served : goal.returns-in_err-served
returns-in_err-served g c =
    let read = coming g.I.Read.remaining in
    let written = g.W.Writer.contents in
    let doors = c.in_ok-doors.doors in
    no_memory c.args.feed g.P.Publishing.checked g.I.Reader.may_fail doors.clients.port (callers_at doors.callers)
    (read c.args.lines.now) (read c.run_both-answered.new.lines) (written c.args.writer.now)
    (written c.open_doors.new.writer) c.in_ok-doors.ensures.opens (written c.run_both-answered.new.writer)
    g.P.Publishing.limit c.from_residual-in_err-served.result c.requires.limit c.in-Some.ensures.new c.in_ok-answered.ensures.ok
    c.from_residual-in_err-served.ensures.1

pub returns : goal.returns
returns g c =
    let read = coming g.I.Read.remaining in
    let written = g.W.Writer.contents in
    let doors = c.in_ok-doors.doors in
    closes_after c.args.feed g.P.Publishing.checked g.I.Reader.may_fail doors.clients.port (callers_at doors.callers)
    (read c.args.lines.now) (read c.run_both-answered.new.lines) (written c.args.writer.now)
    (written c.open_doors.new.writer) c.in_ok-doors.ensures.opens (written c.run_both-answered.new.writer)
    (written c.close_session.new.writer) g.P.Publishing.limit c.close_session.result c.requires.limit
    c.in-Some.ensures.new c.in_ok-answered.ensures.ok c.close_session.ensures

pub close_session-requires-clause-served : goal.close_session-requires-clause-served
close_session-requires-clause-served g c =
    let is = WasServed g.P.Publishing.checked in
    let berths = c.in_ok-berths.berths in
    let left = c.run_both-answered.new.berths in
    subst (All is) (sym (c.in_ok-served.ensures ∙ ap served_at
    (with_items_is berths left (c.run_both-answered.auto.berths ∙ c.as_mut_slice.ensures.len))))
    (c.run_both-answered.ensures.served
    (subst (All is) (sym (ap served_at c.as_mut_slice.ensures.value ∙ c.in_ok-berths.ensures)) (All-nil is)))
