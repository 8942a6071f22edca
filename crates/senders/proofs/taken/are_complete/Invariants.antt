use Rattle.std.proofs.Common.{All, take}
use Rattle.tables_log.specs.BookView.{book_log}
use Rattle.senders.specs.TakenCommits.{IsComplete}
use Rattle.senders.proofs.taken.are_complete.Given as goal

abbrev pub invariant-loop-one : goal.invariant-loop-one
invariant-loop-one g l = All (IsComplete (book_log l.book)) (take l.one-index l.served)
