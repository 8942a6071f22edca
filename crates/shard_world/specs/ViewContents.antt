-- What is read of a book and of subscribers to show them: PostgreSQL 15, 7.5 Sorting Rows.
use Rattle.std.specs.Prelude.{◌≡◌, ℕ, List, length, slice_get, IfSome, Option}
use Rattle.filter_tree.specs.Datum.{Datum}
use Rattle.tables_log.specs.BookView.{book_listed, book_log, book_rows, book_slots}
use Rattle.tables_log.specs.Listing.{ListsFound}
use Rattle.tables_log.specs.Lsn.{commits_before}
use Rattle.tables_log.specs.Places.{IsInOrder}
use Rattle.tables_log.specs.Slots.{confirmed_at}
use Rattle.tables_log.specs.declared.book.Book.{Book}
use Rattle.pgoutput_msgs.specs.Telling.{oid_of}
use Rattle.test_subscriber.specs.Subscribers.{sub_listed, sub_machine}
use Rattle.test_subscriber.specs.declared.subscriber.Subscriber.{Subscriber}
use Rattle.shard_world.specs.Joined.{PeerOf}
use Rattle.shard_world.specs.declared.view.SubscriberView.{SubscriberView}
use Rattle.shard_world.specs.declared.view.View.{View}

-- each by its number
abbrev pub AllAt : {X : Type 0} → (ℕ → X → Type 0) → List X → Type 0
AllAt P xs = (number : ℕ) → IfSome (slice_get xs number) (P number)

-- these are the rows that are found, in their order
pub record AreFound (found : List Datum → Option (List Datum)) (listed rows : List (List Datum)) : Type 0 where
  pub lists : ListsFound found listed
  pub in_order : IsInOrder listed rows

abbrev pub FoundIn : Book → ℕ → List (List Datum) → Type 0
FoundIn book table rows = AreFound (book_rows book table 0) (book_listed book table) rows

abbrev pub FoundBy : Subscriber → ℕ → List (List Datum) → Type 0
FoundBy subscriber table rows =
    AreFound ((sub_machine subscriber).rows (oid_of table)) (sub_listed subscriber (oid_of table)) rows

-- what is seen of the subscriber with this number
pub record IsSeen (book : Book) (tables number : ℕ) (subscriber : Subscriber) (shown : SubscriberView) : Type 0 where
  pub position_is : shown.position ≡ (sub_machine subscriber).position
  pub applied_is : shown.applied ≡ commits_before shown.position
  pub confirmed_is : shown.confirmed ≡ confirmed_at (book_slots book) number
  pub width : length shown.rows.items ≡ tables
  pub rows : AllAt (λ table rows. FoundBy subscriber table rows.items) shown.rows.items

abbrev pub SeenAt : Book → ℕ → List PeerOf → ℕ → SubscriberView → Type 0
SeenAt book tables peers number shown =
    IfSome (slice_get peers number) (λ peer. IsSeen book tables number peer.subscriber shown)

-- and of all subscribers
pub record AreSeen (book : Book) (tables : ℕ) (peers : List PeerOf) (shown : View) : Type 0 where
  pub log_is : shown.log ≡ length (book_log book)
  pub width : length shown.rows.items ≡ tables
  pub rows : AllAt (λ table rows. FoundIn book table rows.items) shown.rows.items
  pub count : length shown.subscribers.items ≡ length peers
  pub each : AllAt (SeenAt book tables peers) shown.subscribers.items
