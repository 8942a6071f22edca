use Rattle.std.proofs.Common.{List, subst}
use Rattle.row_owners.specs.Owners.{OwnedWhere}
use Rattle.tables_log.specs.BookView.{book_checked, book_log}
use Rattle.tables_log.specs.Commits.{CommitOf}
use Rattle.tables_log.specs.Logs.{entry_at}
use Rattle.tables_log.specs.Routes.{gets_some}
use Rattle.publisher_desk.proofs.HeldLemmas.{concerned_in}
use Rattle.publisher_desk.proofs.desk.Desk.concerned.Goals as goal

pub returns : goal.returns
returns g c =
    subst (λ (log : List CommitOf).
    OwnedWhere c.concerned.result (gets_some g.P.Publishing.checked.plan (entry_at log c.args.number))) c.self.view_is
    (concerned_in (book_checked c.self.inside.book) g.P.Publishing.checked (book_log c.self.inside.book)
    c.concerned.result c.args.number c.self.invariant.is.named c.concerned.ensures)
