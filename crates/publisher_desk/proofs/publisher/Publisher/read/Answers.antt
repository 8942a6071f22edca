use Rattle.std.proofs.Common.{◌≡◌, length, ap, ◌∙◌, arith}
use Rattle.filter_tree.specs.Expr.{Expr}
use Rattle.pub_catalog.specs.CatalogView.{catalog_view}
use Rattle.pub_catalog.specs.Catalogs.{CatalogOf}
use Rattle.shard_checker.specs.CheckedView.{CheckedOf, setting_in}
use Rattle.shard_checker.specs.declared.checked.Checked.{Checked}
use Rattle.publisher_desk.specs.Seats.{SeatOf}
use Rattle.publisher_desk.specs.Sights.{sight_of}
use Rattle.publisher_desk.specs.declared.note.Reading.{Reading}
use Rattle.publisher_desk.proofs.LoggedLemmas.{no_events, none_later, read_as, reading_noted, seen_begins, seen_noted}
use Rattle.publisher_desk.proofs.SeatLemmas.{reading_pushed, seat_stays, up_to_seen}
use Rattle.publisher_desk.proofs.publisher.Publisher.read.Goals as goal

-- the seat has seen more of the log, and has no note of it
pub invariant_of-seat-in_err-kept : goal.invariant_of-seat-in_err-kept
invariant_of-seat-in_err-kept g c = (
  seat_stays c.seat.inside.notes.items c.reserve.new.self.items c.seat.inside.high
      c.seat.inside.mark.parts c.look.new.mark.parts c.seat.inside.mark.amount c.look.new.mark.amount
      c.reserve.ensures.items c.look.ensures.parts c.look.ensures.amount c.seat.invariant.0,
  seen_noted (setting_in g.P.Publishing.checked) c.seat.inside.notes.items c.reserve.new.self.items
      c.reserve.new.self.items (sight_of c.seat.inside.token) (sight_of c.look.new.token) c.reserve.ensures.items
      c.seat.invariant.1 _ _ _ _ c.in_ok-number.ensures.seen,
)

pub invariant_of-seat-2 : goal.invariant_of-seat-2
invariant_of-seat-2 g c = (
  reading_pushed c.seat.inside.notes.items c.reserve.new.self.items c.push_reserved.new.self.items
      c.reserve.ensures.items c.in_ok-kept.kept c.seat.inside.high c.in_ok-number.number
      c.seat.inside.mark.parts c.look.new.mark.parts c.seat.inside.mark.amount c.look.new.mark.amount
      c.push_reserved.ensures.items (ap (λ (reading : Reading). reading.number) c.in_ok-kept.ensures)
      (none_later (setting_in g.P.Publishing.checked) c.seat.inside.notes.items (sight_of c.seat.inside.token)
      (sight_of c.look.new.token) c.seat.invariant.1 c.seat.inside.high _ _ _ _ c.seat.invariant.0.high_is
      c.in_ok-number.ensures.seen) c.look.ensures.parts
      c.look.ensures.amount c.seat.invariant.0,
  reading_noted (setting_in g.P.Publishing.checked) c.seat.inside.notes.items c.reserve.new.self.items
      c.push_reserved.new.self.items (sight_of c.seat.inside.token) (sight_of c.look.new.token)
      c.reserve.ensures.items c.seat.invariant.1 _ c.in_ok-kept.kept c.push_reserved.ensures.items
      c.in_ok-kept.ensures c.in_ok-number.ensures.seen,
)

pub returns-clause-forward : goal.returns-clause-forward
returns-clause-forward g c =
    up_to_seen c.seat.inside.notes.items c.args.seat.now.notes c.seat.inside.high c.in_ok-number.number
    (ap (λ (seat : SeatOf). seat.notes) c.seat.view_is)
    c.seat.invariant.0.high_is
    (none_later (setting_in g.P.Publishing.checked) c.seat.inside.notes.items (sight_of c.seat.inside.token)
    (sight_of c.look.new.token) c.seat.invariant.1 c.seat.inside.high _ _ _ _ c.seat.invariant.0.high_is
    c.in_ok-number.ensures.seen)

pub returns-clause-answer : goal.returns-clause-answer
returns-clause-answer g c =
    read_as g.P.Publishing.checked _ (sight_of c.seat.inside.token) (sight_of c.look.new.token)
    c.in_ok-number.ensures.seen

pub returns-clause-begins : goal.returns-clause-begins
returns-clause-begins g c =
    seen_begins c.args.seat.now c.seat.inside.notes.items _ (sight_of c.seat.inside.token)
    (sight_of c.look.new.token) _ _ c.seat.view_is c.in_ok-number.ensures.seen.log c.in_ok-number.ensures.seen.sees
    (no_events _)

-- there is no such table
pub returns-then-table-len-clause-refused : goal.returns-then-table-len-clause-refused
returns-then-table-len-clause-refused g c =
    let known : catalog_view c.catalog.result.now ≡ g.P.Publishing.checked.catalog =
    c.catalog.ensures.shows ∙ ap (λ (checked : Checked). catalog_view checked.catalog) c.deref.ensures
    ∙ ap (λ (checked : CheckedOf). checked.catalog) c.self.invariant in
    let count : length c.catalog.result.now.tables.items ≡ length g.P.Publishing.checked.catalog.tables =
    ap (λ (catalog : CatalogOf Expr). length catalog.tables) known in
    omega (arith, count, c.catalog.result.now.tables.ok.0, c.len.ensures, c.if-table-len.true)
