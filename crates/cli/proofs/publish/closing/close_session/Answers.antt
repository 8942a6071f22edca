use Rattle.std.proofs.Common.{◌≡◌, [], ◌∷◌, ℕ, List, length, rules, subst, sym}
use Rattle.tables_log.specs.BookView.{book_log}
use Rattle.publisher_desk.specs.Seats.{SeatOf}
use Rattle.publisher_desk.specs.Viewers.{ClosingOf}
use Rattle.senders.specs.CloseReasons.{RefusedClose}
use Rattle.senders.specs.Closing.{IsClosed}
use Rattle.commands.specs.declared.failure.Status.TheVariants.{Done}
use Rattle.cli.specs.Published.{Closed, Differs, IsLastLine}
use Rattle.cli.specs.Telling.{closed_line}
use Rattle.cli.proofs.publish.closing.close_session.Goals as goal

pub returns-in-Ok : goal.returns-in-Ok
returns-in-Ok g c =
    let checked = g.P.Publishing.checked in
    let limit = g.P.Publishing.limit in
    let served = c.args.served.items in
    let closing : ClosingOf = c.into_closing-closing.result in
    let book = c.in-Ok.closed.book in
    let seats : c.in_ok-seats.seats.items ≡ c.args.seat ∷ [] = search rules in
    let is : IsClosed checked limit closing (c.args.seat ∷ []) served book =
    subst (λ (s : List SeatOf). IsClosed checked limit closing s served book) seats c.in-Ok.ensures.ok in
    let commits : c.log_len.result ≡ length (book_log book) = search rules in
    let many : c.len.result ≡ length served = search rules in
    c.tell_closed.ensures checked limit c.args.seat
    (subst (λ (n : ℕ). IsLastLine checked limit c.args.seat (closed_line n c.len.result) Done) (sym commits)
    (subst (λ (m : ℕ). IsLastLine checked limit c.args.seat (closed_line (length (book_log book)) m) Done) (sym many)
    (Closed served closing book c.requires.served is)))

pub returns : goal.returns
returns g c =
    let checked = g.P.Publishing.checked in
    let limit = g.P.Publishing.limit in
    let served = c.args.served.items in
    let closing : ClosingOf = c.into_closing-closing.result in
    let error = c.in-Err.error in
    let seats : c.in_ok-seats.seats.items ≡ c.args.seat ∷ [] = search rules in
    let refused : RefusedClose checked limit 1000 999 closing (c.args.seat ∷ []) served error =
    subst (λ (n : ℕ). RefusedClose checked limit n 999 closing (c.args.seat ∷ []) served error) c.requires.parts
    (subst (λ (n : ℕ). RefusedClose checked limit g.P.Ledger.parts n closing (c.args.seat ∷ []) served error)
    c.requires.rest
    (subst (λ (s : List SeatOf). RefusedClose checked limit g.P.Ledger.parts c.args.rest closing s served error) seats
    c.in-Err.ensures.refused)) in
    c.tell_error.ensures checked limit c.args.seat
    (λ name named. Differs served closing error name c.requires.served refused named)
