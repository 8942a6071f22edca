use Rattle.std.proofs.Common.{◌≡◌, ℕ, ◌<◌, get_or}
use Rattle.tables_log.specs.BookView.{book_slots}
use Rattle.tables_log.specs.Slots.{confirmed_at}
use Rattle.senders.proofs.listener.confirmed_positions.Given as goal

abbrev pub invariant-loop-slot : goal.invariant-loop-slot
invariant-loop-slot l = (slot : ℕ) → slot < l.slot → get_or l.position-items slot 0 ≡ confirmed_at (book_slots l.book) slot
