-- One step on the connection of a subscriber, in a world that events lead to: PostgreSQL 15, 55.4. Streaming
-- Replication Protocol.
use Rattle.std.specs.Prelude.{◌≡◌, ◌≢◌, ◌<◌, ◌^◌, ℕ, false, is_some, List, All, length, slice_get, Option, Some, None}
use Rattle.shard_checker.specs.CheckedView.{CheckedOf}
use Rattle.tables_log.specs.BookView.{book_checked, book_log, book_slots}
use Rattle.tables_log.specs.Committing.{ChangesSlots}
use Rattle.tables_log.specs.declared.book.Book.{Book}
use Rattle.tables_log.specs.declared.slots.Slot.{Slot}
use Rattle.copy_both.specs.Ears.{ear_phase, ear_started}
use Rattle.copy_both.specs.Links.{link_ear}
use Rattle.copy_both.specs.declared.link.Link.{Link}
use Rattle.copy_both.specs.declared.phase.Phase.TheVariants.{Lost}
use Rattle.test_subscriber.specs.Subscribers.{sub_machine}
use Rattle.test_subscriber.specs.declared.subscriber.Subscriber.{Subscriber}
use Rattle.shard_world.specs.Joined.{HasSlot, IsNamed, PeerOf, PeerIs, StaysAlike}
use Rattle.shard_world.specs.World as w
use Rattle.shard_world.specs.World.{Answer, Connection, Event, PeerEvent, Open, Hear, Take, Keep, Deliver, Report, Lose, Leads, first_world, as_many, hears, delivers, machine_now, peer_step, StreamSource, source_in, step_in, in_part, log_in}
use Rattle.shard_world.specs.WorldLaws.{IsPublisher, IsTimedEvent}

-- ---- in which world

-- events that led to the world, a subscriber, and the clock
pub record Case : Type 0 where
  pub checked : CheckedOf
  pub most : ℕ
  pub events : List (ℕ × Event)
  pub world : w.World
  pub number : ℕ
  pub now : ℕ

abbrev pub source_of : Case → StreamSource
source_of case = source_in case.checked case.world case.number

abbrev pub peer_of : Case → w.Peer
peer_of case = case.world.peers case.number

-- the subscriber exists
pub record IsCase (case : Case) : Type 0 where
  pub publisher : IsPublisher case.checked case.most
  pub times : All IsTimedEvent case.events
  pub leads : Leads case.checked case.most case.events first_world case.world
  pub there : case.number < length case.checked.plan
  pub timed : case.now < 2 ^ 64

-- the subscriber of a program matches that of the world
abbrev pub MatchesPeer : Case → List Slot → PeerOf → Type 0
MatchesPeer case slots code = PeerIs (source_of case) slots code (peer_of case)

-- the book has the log of the world
pub record HasLog (case : Case) (book : Book) : Type 0 where
  pub checked_is : book_checked book ≡ case.checked
  pub log_is : book_log book ≡ log_in (source_of case)

-- ---- what a step leaves

abbrev pub stepped : Case → PeerEvent → Answer × w.Peer
stepped case event = step_in case.checked case.world case.number case.now event

-- it returns what the world's step answers, and leaves what matches what that step leaves
pub record StepsPeerTo (case : Case) (event : PeerEvent) (answer : Answer) (slots : List Slot) (code : PeerOf) : Type 0
  where
    pub answer_is : answer ≡ (stepped case event).0
    pub peer_is : PeerIs (source_of case) slots code (stepped case event).1

-- no other slot changes, and nothing else of the book
pub record ChangesOwn (number : ℕ) (before after : Book) : Type 0 where
  pub book : ChangesSlots before after (book_slots after)
  pub others : (other : ℕ) → other ≢ number → slice_get (book_slots after) other ≡ slice_get (book_slots before) other

-- ---- if memory is refused

-- what was done before the connection is lost: some of the bytes were heard or delivered
abbrev pub before_loss : Case → PeerEvent → ℕ → w.Peer → Option Connection → w.Peer
before_loss case event some peer None = peer
before_loss case event some peer (Some c) = in_part (source_of case) case.now event peer some c

abbrev pub IsOwnStream : ℕ → Option (ℕ × ℕ) → Type 0
IsOwnStream number None = Unit {0}
IsOwnStream number (Some started) = started.0 ≡ number

-- a stream that started uses the slot
pub record HasStream (slots : List Slot) (number confirmed : ℕ) (link : Link) : Type 0 where
  pub own : IsOwnStream number (ear_started (link_ear link))
  pub not_lost : ear_phase (link_ear link) ≢ Lost
  pub slot : HasSlot slots number confirmed (is_some (ear_started (link_ear link)))

abbrev pub HasStreamBy : List Slot → ℕ → ℕ → Option Link → Type 0
HasStreamBy slots number confirmed None = HasSlot slots number confirmed false
HasStreamBy slots number confirmed (Some link) = HasStream slots number confirmed link

-- what stays across connections is that of this subscriber of the world
pub record IsHalf (case : Case) (slots : List Slot) (link : Option Link) (subscriber : Subscriber) (peer : w.Peer) :
    Type 0 where
  pub named : IsNamed case.checked case.number subscriber
  pub machine : StaysAlike (sub_machine subscriber) (machine_now (source_of case) peer)
  pub stream : HasStreamBy slots case.number peer.confirmed link

pub record Halts (case : Case) (event : PeerEvent) (slots : List Slot) (code : PeerOf) : Type 0 where
  pub some : ℕ
  pub half : IsHalf case slots code.link code.subscriber
      (before_loss case event some (peer_of case) (peer_of case).connection)
