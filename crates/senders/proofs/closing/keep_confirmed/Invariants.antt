use Rattle.tables_log.specs.BookView.{book_slots}
use Rattle.tables_log.specs.Committing.{ChangesSlots}
use Rattle.tables_log.specs.Slots.{KeepsUse}
use Rattle.senders.proofs.KeptConfirmed.{AreConfirmedTo}
use Rattle.senders.proofs.closing.keep_confirmed.Given as goal

abbrev pub invariant-loop-slot : goal.invariant-loop-slot
invariant-loop-slot l = ChangesSlots l.fn.fresh l.fresh (book_slots l.fresh)
    × KeepsUse (book_slots l.fn.fresh) (book_slots l.fresh)
    × AreConfirmedTo l.slots l.slot (book_slots l.fresh) (book_slots l.book)
