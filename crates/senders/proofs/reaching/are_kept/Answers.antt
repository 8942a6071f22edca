use Rattle.std.proofs.Common.{Bor, map, arith}
use Rattle.tables_log.specs.BookView.{book_slots}
use Rattle.senders.specs.Results.{ServedOf}
use Rattle.senders.proofs.ResumeLemmas.{one_kept_more}
use Rattle.senders.proofs.reaching.are_kept.Goals as goal

pub loop-slot-preserved : goal.loop-slot-preserved
loop-slot-preserved g c =
    one_kept_more (book_slots c.args.book.now) c.loop-slot.slot
    (map (λ (one : Bor ServedOf). one.now) c.args.starts.now) c.loop-slot.invariant c.if-not-is_kept.ensures

pub returns : goal.returns
returns g c = λ slot below. c.loop-slot.invariant slot (omega (arith, below))
