use Rattle.std.proofs.Common.{subst}
use Rattle.senders.specs.Listening.{HearsAll}
use Rattle.senders.proofs.ReadLemmas.{hears_all}
use Rattle.senders.proofs.running.run_out.Goals as goal

pub returns-in-Finished-clause-heard : goal.returns-in-Finished-clause-heard
returns-in-Finished-clause-heard g c =
    let left = g.S.Source.left in
    let both = c.run_both-sent in
    let on = c.listen-why in
    hears_all g.P.Publishing.checked c.args.viewer.now both.new.viewer on.new.viewer (left c.args.reader.now)
    (left both.new.reader) (left on.new.reader) c.args.listener.now both.new.listener on.new.listener
    (subst (HearsAll g.P.Publishing.checked c.args.viewer.now both.new.viewer (left c.args.reader.now)
    (left both.new.reader) (g.S.Source.has_failed both.new.reader) (g.S.Source.has_ended both.new.reader)
    c.args.listener.now both.new.listener) c.in_default.is both.ensures.heard)
    (g.S.Source.has_failed on.new.reader) (g.S.Source.has_ended on.new.reader) on.result on.ensures.hears
