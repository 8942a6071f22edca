-- What a closed publisher is: one list of transactions explains all receipts, all readings and all connections:
-- PostgreSQL 15, 3.4. Transactions, and 55.4. Streaming Replication Protocol.
use Rattle.std.specs.Prelude.{◌≡◌, ℕ, List, All, length}
use Rattle.shard_checker.specs.CheckedView.{CheckedOf, setting_in}
use Rattle.tables_log.specs.BookView.{book_checked, book_limit, book_log, book_slots}
use Rattle.tables_log.specs.Slots.{AreInUse, confirmed_at}
use Rattle.tables_log.specs.StandsFor.{StandsFor}
use Rattle.tables_log.specs.declared.book.Book.{Book}
use Rattle.publisher_desk.specs.Receipts.{transactions_of}
use Rattle.publisher_desk.specs.Seats.{IsForwardSeat, IsTimedSeat, SeatOf}
use Rattle.publisher_desk.specs.Sights.{StartsWith}
use Rattle.publisher_desk.specs.SlotEvents.{acquisitions, no_use}
use Rattle.publisher_desk.specs.SlotSights.{BeginsWith}
use Rattle.publisher_desk.specs.Viewers.{ClosingOf, IsSeenIn}
use Rattle.publisher_desk.specs.declared.slot_event.SlotEvent.{SlotEvent}
use Rattle.senders.specs.Gathering.{all_readings}
use Rattle.senders.specs.Histories.{AreInOrder, IsRight}
use Rattle.senders.specs.Reached.{AllEndAsConfirmed, AreReached, AreResumed, IsOrder}
use Rattle.senders.specs.Results.{HadStream, ServedOf}
use Rattle.senders.specs.TakenCommits.{IsTaken}

-- the stream of the connection had its slot in these events
abbrev pub HadStreamIn : List SlotEvent → ServedOf → Type 0
HadStreamIn events one =
    HadStream one.slot one.start one.is_requested one.number one.confirmed one.sent (length one.viewer.seen) events

-- The book is of the checked catalog, takes this number of commits, and is that of the transactions of the publisher's
-- log; its log has an entry for each. No slot is in use, and each is confirmed as the publisher's is. The publisher's
-- log has the receipts of the seats in the order of their numbers, and no others. What each seat has seen is a
-- beginning of it, and what each has seen of the events of slots is a beginning of them. Each reading is right by
-- these transactions, and is of no fewer commits than an earlier note of its seat knows of. Times have 64 bits. Each
-- connection took the commits of the book's log, and has seen a beginning of the publisher's log and the first events
-- of its slots. In these events the stream of each connection acquired its slot and released it, and no event in
-- between acquires or releases it; the stream began where the slot was confirmed then, or later if its client
-- requested that, and left it confirmed as far as before, or as its client confirmed it if that is further. Each
-- acquisition is that of one of the connections. In the order of these, each commit before the start of a connection
-- was taken for an earlier one of its slot, whose client confirmed it, or is before a position that its client, or
-- that of an earlier one of the slot, requested; and no start is before a position that an earlier one of the slot
-- reports as confirmed. The same holds of the position up to which each of the publisher's slots is confirmed: each
-- commit before it is accounted for by a connection of the slot, and no connection of the slot reports a later
-- position.
pub record IsClosed (checked : CheckedOf) (limit : ℕ) (closing : ClosingOf) (seats : List SeatOf)
    (served : List ServedOf) (book : Book) : Type 0 where
  pub named : book_checked book ≡ checked
  pub limited : book_limit book ≡ limit
  pub ordered : AreInOrder seats closing.log
  pub begins : All (λ (seat : SeatOf). StartsWith closing.log seat.seen) seats
  pub shown : All (λ (seat : SeatOf). BeginsWith closing.events seat.events) seats
  pub stands : StandsFor book (transactions_of closing.log)
  pub counted : length (book_log book) ≡ length closing.log
  pub free : AreInUse no_use (book_slots book)
  pub confirmed : (slot : ℕ) → confirmed_at (book_slots book) slot ≡ confirmed_at closing.slots slot
  pub right : All (IsRight (setting_in checked) (transactions_of closing.log)) (all_readings seats)
  pub forward : All IsForwardSeat seats
  pub timed : All IsTimedSeat seats
  pub taken : All (IsTaken (book_log book)) served
  pub seen : All (λ (one : ServedOf). IsSeenIn closing one.viewer) served
  pub had : All (HadStreamIn closing.events) served
  pub starts : List ServedOf
  pub ordered_starts : IsOrder (acquisitions closing.events) served starts
  pub reached : AreReached (length checked.catalog.subscriptions) starts
  pub resumed : AreResumed (length checked.catalog.subscriptions) starts
  pub kept : AllEndAsConfirmed (length checked.catalog.subscriptions) closing.slots starts
