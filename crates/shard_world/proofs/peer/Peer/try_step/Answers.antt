use Rattle.std.proofs.Common.{subst, sym, ◌∙◌}
use Rattle.std.specs.Prelude.{Ok}
use Rattle.std.specs.Arc.{arc_value}
use Rattle.shard_checker.specs.CheckedView.{checked_view}
use Rattle.shard_world.specs.PeerCalls.{Tries}
use Rattle.shard_world.proofs.peer.Peer.try_step.Goals as goal

pub returns-in-Open : goal.returns-in-Open
returns-in-Open c =
    subst (λ event. Tries (checked_view (arc_value c.args.checked.now)) c.args.now event c.args.book.now c.args.book.now
    c.args.self.now c.open.result c.open.new.self) (sym c.in-Open.is)
    (c.open.ensures c.args.now c.args.book.now)

pub returns-in-Hear : goal.returns-in-Hear
returns-in-Hear c =
    subst (λ event. Tries (checked_view (arc_value c.args.checked.now)) c.args.now event c.args.book.now c.hear.new.book
    c.args.self.now c.hear.result c.hear.new.self) (sym c.in-Hear.is)
    (c.hear.ensures (checked_view (arc_value c.args.checked.now)))

pub returns-in-Take : goal.returns-in-Take
returns-in-Take c =
    subst (λ event. Tries (checked_view (arc_value c.args.checked.now)) c.args.now event c.args.book.now c.args.book.now
    c.args.self.now c.take.result c.take.new.self) (sym c.in-Take.is)
    (c.take.ensures (checked_view (arc_value c.args.checked.now)))

pub returns-in-Keep : goal.returns-in-Keep
returns-in-Keep c =
    subst (λ event. Tries (checked_view (arc_value c.args.checked.now)) c.args.now event c.args.book.now c.args.book.now
    c.args.self.now c.keep.result c.keep.new.self) (sym c.in-Keep.is)
    (c.keep.ensures (checked_view (arc_value c.args.checked.now)) c.args.book.now)

pub returns-in-Deliver : goal.returns-in-Deliver
returns-in-Deliver c =
    subst (λ event. Tries (checked_view (arc_value c.args.checked.now)) c.args.now event c.args.book.now c.args.book.now
    c.args.self.now c.deliver.result c.deliver.new.self) (sym c.in-Deliver.is)
    (c.deliver.ensures (checked_view (arc_value c.args.checked.now)) c.args.now c.args.book.now)

pub returns-in-Report : goal.returns-in-Report
returns-in-Report c =
    subst (λ event. Tries (checked_view (arc_value c.args.checked.now)) c.args.now event c.args.book.now c.args.book.now
    c.args.self.now c.report.result c.report.new.self) (sym c.in-Report.is)
    (c.report.ensures (checked_view (arc_value c.args.checked.now)) c.args.book.now)

pub returns-in-Lose : goal.returns-in-Lose
returns-in-Lose c =
    subst (λ event. Tries (checked_view (arc_value c.args.checked.now)) c.args.now event c.args.book.now c.lose.new.book
    c.args.self.now (Ok c.lose.result) c.lose.new.self) (sym c.in-Lose.is)
    (c.lose.ensures (checked_view (arc_value c.args.checked.now)) c.args.now)

pub take-requires : goal.take-requires
take-requires c = λ link some subscriber change.
    c.requires.book subscriber change ∙ c.requires.linked link some subscriber change
