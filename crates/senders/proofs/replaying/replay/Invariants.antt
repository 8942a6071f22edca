use Rattle.std.proofs.Common.{◌<◌, ◌≤◌, All, Bor, MatchBool, get_or, length, map, take}
use Rattle.publisher_desk.specs.Receipts.{ReceiptOf, transactions_of}
use Rattle.publisher_desk.specs.declared.note.Reading.{Reading}
use Rattle.tables_log.specs.BookView.{book_log, book_setting}
use Rattle.senders.specs.Histories.{IsRight}
use Rattle.senders.specs.Replays.{Replays}
use Rattle.senders.proofs.replaying.replay.Given as goal

abbrev pub invariant-loop-reading : goal.invariant-loop-reading
invariant-loop-reading l =
    Replays l.book l.fresh (map (λ (one : Bor ReceiptOf). one.now) l.receipts)
    × ((d : Bor Reading) → l.reading-index < length l.readings
    → length (book_log l.fresh) ≤ (get_or l.readings l.reading-index d).now.number)
    × MatchBool l.are_right
    (All (IsRight (book_setting l.book) (transactions_of (map (λ (one : Bor ReceiptOf). one.now) l.receipts)))
    (take l.reading-index (map (λ (one : Bor Reading). one.now) l.readings)))
    (¬ All (IsRight (book_setting l.book) (transactions_of (map (λ (one : Bor ReceiptOf). one.now) l.receipts)))
    (take l.reading-index (map (λ (one : Bor Reading). one.now) l.readings)))
    × (length (book_log l.fresh) ≤ length l.receipts)
