-- That a connection that was served sent its client a log: what was written is a prefix of the stream of its commits,
-- and a subscriber that is fed it has its shard: PostgreSQL 15, 55.4. Streaming Replication Protocol, and "Logical
-- Replication", 31.3 Row Filters.
use Rattle.std.specs.Prelude.{◌≡◌, ◌≢◌, ◌≤◌, ℕ, Bool, List, [], ◌++◌, All, Contains, Some, length, None}
use Rattle.shard_checker.specs.CheckedView.{CheckedOf, checked_view, setting_in}
use Rattle.shard_checker.specs.declared.checked.Checked.{Checked}
use Rattle.table_changes.specs.Tables.{no_rows}
use Rattle.tables_log.specs.BookView.{book_checked, book_log}
use Rattle.tables_log.specs.Commits.{CommitOf}
use Rattle.tables_log.specs.StandsFor.{Transaction, AreAccepted, StandsFor}
use Rattle.tables_log.specs.declared.book.Book.{Book}
use Rattle.copy_frames.specs.Contents.{copy_done}
use Rattle.copy_frames.specs.declared.frame.Frame.{Frame}
use Rattle.copy_both.specs.HeardFrames.{BooksOf, HasEnd}
use Rattle.copy_both.specs.Streams.{Move}
use Rattle.tables_log.specs.Lsn.{commits_before}
use Rattle.copy_both.specs.VoiceLaws.{AreAt, takes_in}
use Rattle.senders.specs.declared.end.End.{End}
use Rattle.senders.specs.declared.end.End.TheVariants.{Finished}
use Rattle.senders.specs.Results.{ServedOf}
use Rattle.publisher_desk.specs.Receipts.{transactions_of}
use Rattle.publisher_desk.specs.Seats.{SeatOf}
use Rattle.publisher_desk.specs.Viewers.{ClosingOf}
use Rattle.senders.specs.Closing.{IsClosed}
use Rattle.stream_laws.specs.Following.{Follows, items_from}
use Rattle.stream_laws.specs.Cutting.{whole_in}
use Rattle.stream_laws.specs.FollowingBytes.{AreFirst, StopsFollowing, SubFollows, position_after_bytes}
use Rattle.stream_laws.specs.LayoutRoom.{IsClocked, IsTimedTransaction}
use Rattle.test_subscriber.specs.Copies.{sub_fault}
use Rattle.test_subscriber.specs.Subscribers.{FeedStops, Feeds, Opens, sub_machine}
use Rattle.test_subscriber.specs.declared.fault.SubFault.{SubFault}
use Rattle.test_subscriber.specs.declared.subscriber.Subscriber.{Subscriber}
use Rattle.senders.specs.Serving.{IsStream}

-- nothing, or the first bytes of the CopyDone that answers a client's
pub data IsLastPart (frames : List Frame) (bytes : List ℕ) : Type 0 where
  NoBytes : bytes ≡ [] → IsLastPart frames bytes
  OfDone : (rest : List ℕ) → bytes ++ rest ≡ copy_done → HasEnd frames 99 → IsLastPart frames bytes

-- What was written, without a CopyDone at the end, is a prefix of the stream over the log of these transactions,
-- which starts at this position and takes these commits.
pub record IsFirstPart (checked : CheckedOf) (transactions : List Transaction) (frames : List Frame) (slot start : ℕ)
    (taken : List CommitOf) (written : List ℕ) (why : End) : Type 0 where
  pub moves : List Move
  pub clocks : All IsClocked moves
  pub takes : takes_in moves ≡ length taken
  pub front : List ℕ
  pub last : List ℕ
  pub written_is : written ≡ front ++ last
  pub last_is : IsLastPart frames last
  pub others : List ℕ
  pub first : AreFirst checked transactions slot start moves front others
  -- CopyDone comes after the whole stream, and so does the end of a publisher that was finished
  pub uncut : last ≢ [] → others ≡ []
  pub whole : why ≡ Finished → others ≡ []

-- So it is of each connection whose commits are those of a book's log from its start on.
abbrev pub ServedAreFirstParts : Type 0
ServedAreFirstParts = (checked : CheckedOf) (book : Book) (transactions : List Transaction)
    → book_checked book ≡ checked → StandsFor book transactions
    → (known : BooksOf) (frames : List Frame) (slot start : ℕ) (taken : List CommitOf) (written : List ℕ)
    (failed : Bool) (why : End) → IsStream checked known frames slot start taken written failed why
    → AreAt (book_log book) (commits_before start) taken
    → IsFirstPart checked transactions frames slot start taken written why

-- A subscriber that has its shard, opens a connection at its own position, and is fed any prefix of such a stream, in
-- any pieces, has its shard of the tables as of the commits that its position counts.
abbrev pub ClientsFollow : Type 0
ClientsFollow = (checked : Checked) (transactions : List Transaction)
    → AreAccepted (setting_in (checked_view checked)) no_rows transactions → All IsTimedTransaction transactions
    → length transactions ≤ 1000000000 → (slot start : ℕ) (moves : List Move) → All IsClocked moves
    → (old between new : Subscriber) → SubFollows (checked_view checked) transactions slot old
    → (sub_machine old).position ≡ start → Opens old between
    → (bytes others : List ℕ) → AreFirst (checked_view checked) transactions slot start moves bytes others
    → Feeds between bytes new
    → Follows (checked_view checked) transactions slot
    (position_after_bytes (checked_view checked) transactions slot start moves bytes) (sub_machine new)

-- If a piece stops it, memory was refused, and it still follows, after everything that is whole in the bytes before
-- the piece, and some of what is whole with it.
abbrev pub ClientsStop : Type 0
ClientsStop = (checked : Checked) (transactions : List Transaction)
    → AreAccepted (setting_in (checked_view checked)) no_rows transactions → All IsTimedTransaction transactions
    → length transactions ≤ 1000000000 → (slot start : ℕ) (moves : List Move) → All IsClocked moves
    → (old between middle new : Subscriber) → SubFollows (checked_view checked) transactions slot old
    → (sub_machine old).position ≡ start → Opens old between
    → (bytes piece others : List ℕ) (error : SubFault)
    → AreFirst (checked_view checked) transactions slot start moves (bytes ++ piece) others
    → Feeds between bytes middle → FeedStops middle piece error new
    → (sub_fault error ≡ None)
    × StopsFollowing (checked_view checked) transactions slot start
    (whole_in (length bytes) (items_from (checked_view checked) transactions slot start moves))
    (whole_in (length (bytes ++ piece)) (items_from (checked_view checked) transactions slot start moves)) new

-- ---- in a publisher that was closed

-- The transactions that explain the receipts were accepted one after another, have times of 64 bits, and are few
-- enough.
pub record AreExplained (checked : CheckedOf) (transactions : List Transaction) : Type 0 where
  pub accepted : AreAccepted (setting_in checked) no_rows transactions
  pub timed : All IsTimedTransaction transactions
  pub few : length transactions ≤ 1000000000

abbrev pub ClosedAreExplained : Type 0
ClosedAreExplained = (checked : CheckedOf) (limit : ℕ) (closing : ClosingOf) (seats : List SeatOf)
    (served : List ServedOf) (book : Book) → IsClosed checked limit closing seats served book
    → AreExplained checked (transactions_of closing.log)

-- So what was written to each connection, without a CopyDone at the end, is a prefix of the stream over the log of
-- these transactions.
abbrev pub ClosedTellTheLog : Type 0
ClosedTellTheLog = (checked : CheckedOf) (limit : ℕ) (closing : ClosingOf) (seats : List SeatOf)
    (served : List ServedOf) (book : Book) → IsClosed checked limit closing seats served book
    → (one : ServedOf) → Contains served one → (known : BooksOf) (frames : List Frame) (slot start : ℕ)
    → one.start ≡ Some start → (written : List ℕ) (failed : Bool)
    → IsStream checked known frames slot start one.taken written failed one.end
    → IsFirstPart checked (transactions_of closing.log) frames slot start one.taken written one.end

-- And a subscriber that has its shard, opened this connection at its own position, and was fed any prefix of what was
-- written has its shard of the tables as of the commits of these transactions that its position counts.
abbrev pub ClosedAreFollowed : Type 0
ClosedAreFollowed = (checked : Checked) (limit : ℕ) (closing : ClosingOf) (seats : List SeatOf)
    (served : List ServedOf) (book : Book) → IsClosed (checked_view checked) limit closing seats served book
    → (one : ServedOf) (frames : List Frame) (slot start : ℕ) (written : List ℕ)
    → (part : IsFirstPart (checked_view checked) (transactions_of closing.log) frames slot start one.taken written
    one.end)
    → (old between new : Subscriber)
    → SubFollows (checked_view checked) (transactions_of closing.log) slot old
    → (sub_machine old).position ≡ start → Opens old between
    → (bytes rest : List ℕ) → bytes ++ rest ≡ part.front → Feeds between bytes new
    → Follows (checked_view checked) (transactions_of closing.log) slot
    (position_after_bytes (checked_view checked) (transactions_of closing.log) slot start part.moves bytes)
    (sub_machine new)
