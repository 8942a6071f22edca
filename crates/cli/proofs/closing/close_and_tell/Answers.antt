use Rattle.std.proofs.Common.{◌≡◌, [], ◌∷◌, ℕ, List, length, rules, subst, sym}
use Rattle.tables_log.specs.BookView.{book_log}
use Rattle.publisher_desk.specs.Seats.{SeatOf}
use Rattle.publisher_desk.specs.Viewers.{ClosingOf}
use Rattle.senders.specs.CloseReasons.{RefusedClose}
use Rattle.senders.specs.Closing.{IsClosed}
use Rattle.commands.specs.declared.failure.Status.TheVariants.{Done}
use Rattle.cli.proofs.LastLines.{closed_is_last, error_is_last}
use Rattle.cli.specs.Telling.{IsLast, closed_line}
use Rattle.cli.proofs.closing.close_and_tell.Goals as goal

pub returns-in-Ok : goal.returns-in-Ok
returns-in-Ok g c service is_for over =
    let checked = g.P.Publishing.checked in
    let limit = g.P.Publishing.limit in
    let served = c.args.served.items in
    let closing : ClosingOf = c.into_closing-closing.result in
    let book = c.in-Ok.closed.book in
    let seats : c.in_ok-seats.seats.items ≡ c.args.seat ∷ [] = search rules in
    let is : IsClosed checked limit closing (c.args.seat ∷ []) served book =
    subst (λ (s : List SeatOf). IsClosed checked limit closing s served book) seats c.in-Ok.ensures.ok in
    let commits : c.log_len.result ≡ length (book_log book) = search rules in
    let many : c.len.result ≡ length served = search rules in
    c.say_closed.ensures service
    (subst (λ (n : ℕ). IsLast service (closed_line n c.len.result) Done) (sym commits)
    (subst (λ (m : ℕ). IsLast service (closed_line (length (book_log book)) m) Done) (sym many)
    (closed_is_last service c.args.seat served over checked limit closing is_for book is)))

pub returns : goal.returns
returns g c service is_for over =
    let checked = g.P.Publishing.checked in
    let limit = g.P.Publishing.limit in
    let served = c.args.served.items in
    let closing : ClosingOf = c.into_closing-closing.result in
    let error = c.in-Err.error in
    let seats : c.in_ok-seats.seats.items ≡ c.args.seat ∷ [] = search rules in
    c.say_error.ensures service (error_is_last service c.args.seat served over checked limit closing is_for error
    (subst (λ (n : ℕ). RefusedClose checked limit n 999 closing (c.args.seat ∷ []) served error) c.requires.parts
    (subst (λ (n : ℕ). RefusedClose checked limit g.P.Ledger.parts n closing (c.args.seat ∷ []) served error)
    c.requires.rest
    (subst (λ (s : List SeatOf). RefusedClose checked limit g.P.Ledger.parts c.args.rest closing s served error) seats
    c.in-Err.ensures.refused))))
