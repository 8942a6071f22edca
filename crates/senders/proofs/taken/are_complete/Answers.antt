use Rattle.std.proofs.Common.{List, All, subst, take_all, arith}
use Rattle.std.proofs.lemmas.List.Elements.{All-more}
use Rattle.tables_log.specs.BookView.{book_log}
use Rattle.senders.specs.Results.{ServedOf}
use Rattle.senders.specs.TakenCommits.{IsComplete}
use Rattle.senders.proofs.taken.are_complete.Goals as goal

pub loop-one-preserved : goal.loop-one-preserved
loop-one-preserved g c =
    All-more (IsComplete (book_log c.args.book.now)) c.args.served.now c.loop-one.one-index c.one-item.result
    (omega arith) c.loop-one.invariant
    (subst (IsComplete (book_log c.args.book.now)) c.one-item.is c.if-not-is_complete.ensures)

pub returns : goal.returns
returns g c =
    subst (λ (served : List ServedOf). All (IsComplete (book_log c.args.book.now)) served)
    (take_all c.loop-one.one-index c.args.served.now (omega arith)) c.loop-one.invariant
