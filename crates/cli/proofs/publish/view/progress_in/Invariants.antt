use Rattle.std.proofs.Common.{◌≡◌, length}
use Rattle.shard_world.specs.ViewContents.{AllAt}
use Rattle.tables_log.specs.BookView.{book_slots}
use Rattle.tables_log.specs.Committing.{IsKept}
use Rattle.cli.specs.Views.{progress_seen}
use Rattle.cli.proofs.publish.view.progress_in.Given as goal

-- nothing of the book is changed, and this many subscribers were looked at, each as it is
abbrev pub invariant-loop-slot : goal.invariant-loop-slot
invariant-loop-slot l =
    IsKept l.fn.book l.book × (length l.progress.items ≡ l.slot)
    × AllAt (λ slot one. one ≡ progress_seen (book_slots l.fn.book) l.connections slot) l.progress.items
