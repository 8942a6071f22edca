-- Which world of the model a program's world matches, and what its calls do there: PostgreSQL 15, 31.2. Subscription,
-- and 55.4. Streaming Replication Protocol.
use Rattle.std.specs.Prelude.{◌≡◌, ◌<◌, ℕ, List, [], ◌∷◌, ◌++◌, All, length, slice_get, Option, Some, None}
use Rattle.std.specs.Arc.{arc_value}
use Rattle.shard_checker.specs.CheckedView.{CheckedOf, checked_view}
use Rattle.tables_log.specs.BookView.{book_checked, book_limit, book_slots}
use Rattle.tables_log.specs.StandsFor.{StandsFor}
use Rattle.tables_log.specs.declared.book.Book.{Book}
use Rattle.tables_log.specs.declared.slots.Slot.{Slot}
use Rattle.shard_world.specs.Joined.{PeerOf, PeerIs}
use Rattle.shard_world.specs.World as w
use Rattle.shard_world.specs.World.{Answer, Event, first_world, Steps, Leads, StreamSource, source_in}
use Rattle.shard_world.specs.WorldLaws.{IsPublisher, IsTimedEvent}
use Rattle.shard_world.specs.declared.world.World.{World}

-- ---- views

abbrev pub world_checked : World → CheckedOf
world_checked world = checked_view (arc_value world.checked)

abbrev pub world_book : World → Book
world_book world = world.book

-- its subscribers and their connections
abbrev pub world_peers : World → List PeerOf
world_peers world = world.peers.items

-- ---- which world it matches

-- the subscriber with this number exists, and matches that of the world
abbrev pub PeerAt : StreamSource → List Slot → w.Peer → Option PeerOf → Type 0
PeerAt source slots peer None = ⊥
PeerAt source slots peer (Some code) = PeerIs source slots code peer

-- A book and subscribers match those of a world that these events led to. The log may have at most this number of
-- commits.
pub record IsWorldBy (checked : CheckedOf) (most : ℕ) (book : Book) (peers : List PeerOf) (events : List (ℕ × Event))
    (world : w.World) : Type 0 where
  pub publisher : IsPublisher checked most
  pub times : All IsTimedEvent events
  pub leads : Leads checked most events first_world world
  pub checked_is : book_checked book ≡ checked
  pub limit_is : book_limit book ≡ most
  pub stands : StandsFor book world.transactions
  pub count : length peers ≡ length checked.plan
  pub each : (number : ℕ) → number < length checked.plan
      → PeerAt (source_in checked world number) (book_slots book) (world.peers number) (slice_get peers number)

abbrev pub IsWorld : World → ℕ → List (ℕ × Event) → w.World → Type 0
IsWorld code most events world = IsWorldBy (world_checked code) most (world_book code) (world_peers code) events world

-- ---- what calls do

-- an event has this answer, and leaves what matches what the step of the world leaves
pub record StepsFrom (before after : World) (most : ℕ) (events : List (ℕ × Event)) (world : w.World) (now : ℕ)
    (event : Event) (answer : Answer) : Type 0 where
  pub next : w.World
  pub steps : Steps (world_checked before) most world now event answer next
  pub is : IsWorld after most (events ++ (now, event) ∷ []) next
  pub checked : world_checked after ≡ world_checked before

-- in each world that it matches
abbrev pub StepsFromEach : World → World → ℕ → Event → Answer → Type 0
StepsFromEach before after now event answer =
    (most : ℕ) (events : List (ℕ × Event)) (world : w.World) → IsWorld before most events world
    → StepsFrom before after most events world now event answer

-- ---- several events

-- events are answered one after another, and lead on
abbrev pub Runs : CheckedOf → ℕ → List (ℕ × Event) → List Answer → w.World → w.World → Type 0
Runs checked most [] [] world last = last ≡ world
Runs checked most (event ∷ events) (answer ∷ answers) world last =
    (next : w.World) × Steps checked most world event.0 event.1 answer next × Runs checked most events answers next last
Runs checked most events answers world last = ⊥

pub record RunsFrom (before after : World) (most : ℕ) (events : List (ℕ × Event)) (world : w.World)
    (asked : List (ℕ × Event)) (answers : List Answer) : Type 0 where
  pub next : w.World
  pub runs : Runs (world_checked before) most asked answers world next
  pub is : IsWorld after most (events ++ asked) next
  pub checked : world_checked after ≡ world_checked before

-- in each world that it matches
abbrev pub RunsFromEach : World → World → List (ℕ × Event) → List Answer → Type 0
RunsFromEach before after asked answers =
    (most : ℕ) (events : List (ℕ × Event)) (world : w.World) → IsWorld before most events world
    → RunsFrom before after most events world asked answers
