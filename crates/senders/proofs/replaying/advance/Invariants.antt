use Rattle.std.proofs.Common.{◌≡◌, Bor, length, map}
use Rattle.publisher_desk.specs.Receipts.{ReceiptOf}
use Rattle.tables_log.specs.BookView.{book_log}
use Rattle.senders.specs.Replays.{Replays}
use Rattle.senders.proofs.replaying.advance.Given as goal

abbrev pub invariant-loop-place : goal.invariant-loop-place
invariant-loop-place l = Replays l.book l.fresh (map (λ (one : Bor ReceiptOf). one.now) l.receipts)
    × (length (book_log l.fresh) ≡ l.place)
