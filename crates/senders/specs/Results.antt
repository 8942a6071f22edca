-- What contracts see of the result of a connection: the stream that it started, the commits that were taken for it, and
-- what it has seen of its publisher: PostgreSQL 15, 55.4. Streaming Replication Protocol.
use Rattle.std.specs.Prelude.{◌≡◌, ◌≢◌, ℕ, ◌<◌, ◌≤◌, max, Bool, true, false, List, [], ◌∷◌, length, map, unwrap_or, Option, Some, None}
use Rattle.std.specs.Arc.{arc_value}
use Rattle.shard_checker.specs.CheckedView.{CheckedOf}
use Rattle.tables_log.specs.Commits.{CommitOf}
use Rattle.tables_log.specs.Lsn.{commits_before}
use Rattle.copy_both.specs.HeardFrames.{BooksOf}
use Rattle.copy_both.specs.VoiceLaws.{AreAt}
use Rattle.copy_both.specs.declared.link_fault.LinkFault.{LinkFault}
use Rattle.publisher_desk.specs.Receipts.{transactions_of}
use Rattle.publisher_desk.specs.Sights.{times}
use Rattle.publisher_desk.specs.SlotEvents.{use_after, uses_in}
use Rattle.publisher_desk.specs.SlotSights.{hold}
use Rattle.publisher_desk.specs.Viewers.{HadSlot, IsAcceptedLog, ViewerOf, log_seen}
use Rattle.publisher_desk.specs.declared.slot_event.Acquisition.{Acquisition}
use Rattle.publisher_desk.specs.declared.slot_event.SlotEvent.{SlotEvent}
use Rattle.senders.specs.declared.end.End.{End}
use Rattle.senders.specs.declared.outcome.Outcome.{Outcome}

-- `fault` is that of what its client sent, if it has one. `confirmed` is reported as the greatest position that a status
-- of its client confirmed, or 0. `sent` is up to where its client was sent the log, or 0. `number` is that of the
-- acquisition of its slot, from 1; 0 if it started no stream.
pub record ServedOf : Type 0 where
  pub slot : Option ℕ
  pub start : Option ℕ
  pub is_requested : Bool
  pub taken : List CommitOf
  pub end : End
  pub fault : Option LinkFault
  pub confirmed : ℕ
  pub sent : ℕ
  pub number : ℕ
  pub viewer : ViewerOf

-- the commits that were taken
abbrev pub commits_of : Outcome → List CommitOf
commits_of outcome = map (λ commit. arc_value commit) outcome.taken.items

abbrev pub served_of : Outcome → ℕ → Bool → ℕ → ℕ → ViewerOf → ServedOf
served_of outcome sent is_requested confirmed number viewer = record {
  slot = outcome.slot;
  start = outcome.start;
  is_requested = is_requested;
  taken = commits_of outcome;
  end = outcome.end;
  fault = outcome.fault;
  confirmed = confirmed;
  sent = sent;
  number = number;
  viewer = viewer;
}

-- how many commits of the log begin before its start; none where it has no start
abbrev pub taken_from : ServedOf → ℕ
taken_from served = commits_before (unwrap_or served.start 0)

-- ---- what it has seen

-- the books that its publisher has had, as far as it has seen
abbrev pub books_seen : ViewerOf → BooksOf
books_seen viewer = record { log = transactions_of viewer.seen; least = 0; uses = uses_in viewer.events }

-- the book that it had when the connection had seen just this
abbrev pub book_seen : ViewerOf → BooksOf
book_seen viewer = record {
  log = transactions_of viewer.seen;
  least = length (transactions_of viewer.seen);
  uses = use_after viewer.events ∷ [];
}

abbrev pub acquisition : ℕ → ℕ → Bool → Acquisition
acquisition slot start is_requested = record { slot = slot; start = start; is_requested = is_requested }

-- A stream whose client requested its start begins after what was confirmed for its slot, and any other there.
abbrev pub StartsFrom : ℕ → ℕ → Bool → Type 0
StartsFrom found start true = found < start
StartsFrom found start false = start ≡ found

-- It had the slot of its stream, which was confirmed up to `found` when it acquired it, and released it when the log
-- had so many commits. Then the slot was confirmed up to the position that its client confirmed, if that is greater,
-- and the client had been sent the log up to `sent`.
pub record HadStreamOf (slot start : ℕ) (is_requested : Bool) (number confirmed sent commits : ℕ)
    (events : List SlotEvent) : Type 0 where
  pub found : ℕ
  pub had : HadSlot events (hold (acquisition slot start is_requested) number found (max found confirmed)) sent commits
  pub from : StartsFrom found start is_requested

-- so it is, or it started none
abbrev pub HadStream : Option ℕ → Option ℕ → Bool → ℕ → ℕ → ℕ → ℕ → List SlotEvent → Type 0
HadStream (Some slot) (Some start) is_requested number confirmed sent commits events =
    HadStreamOf slot start is_requested number confirmed sent commits events
HadStream None None is_requested number confirmed sent commits events =
    (number ≡ 0) × (is_requested ≡ false) × (sent ≡ 0)
HadStream (Some slot) None is_requested number confirmed sent commits events = ⊥
HadStream None (Some start) is_requested number confirmed sent commits events = ⊥

-- The commits that were taken for it are those of the log that it has seen, from its start on, which is not after that
-- log's end. It had its slot, by an acquisition of its own, and that log is the one as of the release. What its client
-- confirmed is then confirmed for the slot, which is free, and it has no other.
pub record IsWitnessed (checked : CheckedOf) (served : ServedOf) : Type 0 where
  pub accepted : IsAcceptedLog checked served.viewer.seen
  pub within : taken_from served ≤ length served.viewer.seen
  pub taken : AreAt (log_seen checked served.viewer.seen) (taken_from served) served.taken
  pub had : HadStream served.slot served.start served.is_requested served.number served.confirmed served.sent
      (length served.viewer.seen) served.viewer.events
  pub free : (slot : ℕ) → served.slot ≡ Some slot → use_after served.viewer.events slot ≡ false
  pub none : served.viewer.held ≡ None
  pub own : (start : ℕ) → served.start ≡ Some start → 1 ≤ times served.number served.viewer.own

-- If both started a stream, these did not acquire their slots by the same acquisition.
abbrev pub AcquiredApart : ServedOf → ServedOf → Type 0
AcquiredApart one other = (start next : ℕ) → one.start ≡ Some start → other.start ≡ Some next
    → one.number ≢ other.number
