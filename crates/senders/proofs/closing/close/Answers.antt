use Rattle.std.proofs.Common.{List, ◌∙◌, ap, rules, subst}
use Rattle.tables_log.specs.StandsFor.{StandsFor}
use Rattle.tables_log.specs.declared.slots.Slot.{Slot}
use Rattle.publisher_desk.specs.Receipts.{transactions_of}
use Rattle.publisher_desk.specs.SlotEvents.{AreConfirmed, AreInTurn, acquisitions, confirmed_after, no_position, no_use}
use Rattle.publisher_desk.specs.Viewers.{ClosingOf}
use Rattle.senders.specs.CloseReasons.{RefusedClose}
use Rattle.senders.specs.Replays.{IsConfirmedAs}
use Rattle.senders.proofs.ReplayLemmas.{passes_on}
use Rattle.senders.proofs.ClosingLemmas.{closed_as_named, memory_refused, refused_as_named}
use Rattle.senders.proofs.LoggedLemmas.{witnessed_as_named}
use Rattle.senders.proofs.closing.close.Goals as goal

pub returns-in_err-checked-clause-refused : goal.returns-in_err-checked-clause-refused
returns-in_err-checked-clause-refused g c =
    let closing : ClosingOf = c.args.closing.now in
    let stands = subst (λ (it : ClosingOf). StandsFor c.book-book.result.now (transactions_of it.log))
    c.count_all.ensures.closing c.book-book.ensures.stands in
    memory_refused g.P.Publishing.checked g.P.Publishing.limit g.P.Ledger.parts c.args.rest.now closing
    c.args.seats.items c.args.served.items c.book-book.result.now c.book-book.ensures.named c.book-book.ensures.limited
    stands c.count_all.ensures.counted c.count_all.ensures.logged c.count_all.ensures.shown
    c.count_all.ensures.seen c.from_residual.result c.from_residual.ensures.1

pub returns-in_err-fresh-clause-refused : goal.returns-in_err-fresh-clause-refused
returns-in_err-fresh-clause-refused g c =
    let closing : ClosingOf = c.args.closing.now in
    let stands = subst (λ (it : ClosingOf). StandsFor c.book-book.result.now (transactions_of it.log))
    c.count_all.ensures.closing c.book-book.ensures.stands in
    memory_refused g.P.Publishing.checked g.P.Publishing.limit g.P.Ledger.parts c.args.rest.now closing
    c.args.seats.items c.args.served.items c.book-book.result.now c.book-book.ensures.named c.book-book.ensures.limited
    stands c.count_all.ensures.counted c.count_all.ensures.logged c.count_all.ensures.shown
    c.count_all.ensures.seen c.from_residual-in_err-fresh.result c.from_residual-in_err-fresh.ensures.1

pub returns-in_err-compare-clause-refused : goal.returns-in_err-compare-clause-refused
returns-in_err-compare-clause-refused g c =
    let closing : ClosingOf = c.args.closing.now in
    let stands = subst (λ (it : ClosingOf). StandsFor c.book-book.result.now (transactions_of it.log))
    c.count_all.ensures.closing c.book-book.ensures.stands in
    let acquired_is = c.acquisitions.ensures
    ∙ ap (λ (it : ClosingOf). acquisitions it.events) c.count_all.ensures.closing in
    let slots_are = c.book-book.ensures.slots ∙ ap (λ (it : ClosingOf). it.slots) c.count_all.ensures.closing in
    let turns = subst (λ (it : ClosingOf). AreInTurn no_use no_position it.events) c.count_all.ensures.closing
    c.book-book.ensures.turns in
    let known = subst (λ (it : ClosingOf). AreConfirmed (confirmed_after it.events) it.slots)
    c.count_all.ensures.closing c.book-book.ensures.confirmed in
    let seats_are = c.as_slice.ensures.value ∙ c.count_all.ensures.seats in
    let served_are = c.as_slice-2.ensures.value ∙ c.count_all.ensures.served in
    passes_on (RefusedClose g.P.Publishing.checked g.P.Publishing.limit g.P.Ledger.parts c.args.rest.now closing
    c.args.seats.items c.args.served.items)
    c.from_residual-in_err-compare.result c.in_err-compare.field-0.0 (search rules)
    (refused_as_named g.P.Publishing.checked g.P.Publishing.limit g.P.Ledger.parts c.args.rest.now closing
    c.args.seats.items c.args.served.items c.book-book.result.now c.book-book.ensures.named c.book-book.ensures.limited
    stands c.count_all.ensures.counted c.count_all.ensures.logged c.count_all.ensures.shown
    c.count_all.ensures.seen c.acquisitions.result acquired_is slots_are c.as_slice.result.now c.as_slice-2.result.now
    c.in_err-compare.field-0.0 seats_are served_are
    (c.in_err-compare.ensures.err closing
    (witnessed_as_named g.P.Publishing.checked closing c.acquisitions.result c.args.seats.items c.as_slice.result.now
    c.args.served.items c.as_slice-2.result.now c.book-book.result.now c.book-book.ensures.named stands acquired_is
    seats_are served_are c.count_all.ensures.logged c.count_all.ensures.shown c.count_all.ensures.witnessed
    c.count_all.ensures.seen turns known)))

pub returns-clause-ok : goal.returns-clause-ok
returns-clause-ok g c =
    let closing : ClosingOf = c.args.closing.now in
    let stands = subst (λ (it : ClosingOf). StandsFor c.book-book.result.now (transactions_of it.log))
    c.count_all.ensures.closing c.book-book.ensures.stands in
    let slots_are = c.book-book.ensures.slots ∙ ap (λ (it : ClosingOf). it.slots) c.count_all.ensures.closing in
    let acquired_is = c.acquisitions.ensures
    ∙ ap (λ (it : ClosingOf). acquisitions it.events) c.count_all.ensures.closing in
    let turns = subst (λ (it : ClosingOf). AreInTurn no_use no_position it.events) c.count_all.ensures.closing
    c.book-book.ensures.turns in
    let known = subst (λ (it : ClosingOf). AreConfirmed (confirmed_after it.events) it.slots)
    c.count_all.ensures.closing c.book-book.ensures.confirmed in
    let seats_are = c.as_slice.ensures.value ∙ c.count_all.ensures.seats in
    let served_are = c.as_slice-2.ensures.value ∙ c.count_all.ensures.served in
    closed_as_named g.P.Publishing.checked g.P.Publishing.limit closing c.book-book.result.now
    c.keep_confirmed.new.fresh c.args.seats.items c.as_slice.result.now c.args.served.items c.as_slice-2.result.now
    c.book-book.ensures.named
    c.book-book.ensures.limited seats_are served_are
    (c.in_ok-compare.ensures.ok closing
    (witnessed_as_named g.P.Publishing.checked closing c.acquisitions.result c.args.seats.items c.as_slice.result.now
    c.args.served.items c.as_slice-2.result.now c.book-book.result.now c.book-book.ensures.named stands acquired_is
    seats_are served_are c.count_all.ensures.logged c.count_all.ensures.shown c.count_all.ensures.witnessed
    c.count_all.ensures.seen turns known)
    slots_are c.keep_confirmed.new.fresh
    (subst (λ (slots : List Slot). IsConfirmedAs slots c.compare.new.fresh c.keep_confirmed.new.fresh) slots_are
    c.keep_confirmed.ensures))
