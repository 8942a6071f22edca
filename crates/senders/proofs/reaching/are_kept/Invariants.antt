use Rattle.std.proofs.Common.{Bor, map}
use Rattle.tables_log.specs.BookView.{book_slots}
use Rattle.senders.specs.Reached.{AllEndReached}
use Rattle.senders.specs.Results.{ServedOf}
use Rattle.senders.proofs.reaching.are_kept.Given as goal

abbrev pub invariant-loop-slot : goal.invariant-loop-slot
invariant-loop-slot g l = AllEndReached l.slot (book_slots l.book) (map (λ (one : Bor ServedOf). one.now) l.starts)
