use Rattle.std.proofs.Common.{arith}
use Rattle.tables_log.specs.BookView.{book_slots}
use Rattle.senders.proofs.ClosingLemmas.{slots_after, uses_after}
use Rattle.senders.proofs.KeptConfirmed.{all_confirmed, confirmed_next}
use Rattle.senders.proofs.closing.keep_confirmed.Goals as goal

pub loop-slot-preserved : goal.loop-slot-preserved
loop-slot-preserved c = (
  slots_after c.args.fresh.now c.loop-slot.fresh c.confirm.new.self _ c.confirm.result c.loop-slot.invariant.0
      c.confirm.ensures.ok c.confirm.ensures.err,
  uses_after (book_slots c.args.fresh.now) c.loop-slot.fresh c.confirm.new.self c.loop-slot.slot _ c.confirm.result
      c.loop-slot.invariant.1 c.confirm.ensures.ok c.confirm.ensures.err,
  confirmed_next c.loop-slot.fresh c.confirm.new.self (book_slots c.args.book.now) c.args.slots c.loop-slot.slot _
      c.confirm.result (omega arith) c.confirmed-position.ensures.shows c.loop-slot.invariant.2 c.confirm.ensures.ok
      c.confirm.ensures.refused,
)

pub returns : goal.returns
returns c = record {
  changes = c.loop-slot.invariant.0;
  uses = c.loop-slot.invariant.1;
  confirmed = all_confirmed (book_slots c.loop-slot.fresh) (book_slots c.args.book.now) c.args.slots c.loop-slot.slot
      c.loop-slot.invariant.2 (omega (arith, c.requires.slots));
}
