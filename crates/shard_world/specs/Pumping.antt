-- What a pump makes happen on the connection of a subscriber, so that it gets all that was committed and reports it:
-- PostgreSQL 15, 55.4. Streaming Replication Protocol.
use Rattle.std.specs.Prelude.{◌≡◌, ◌<◌, ◌⊎◌, ℕ, ◌-◌, ◌^◌, false, List, [], ◌∷◌, ◌++◌, All, length, map, replicate, Some, Result, Ok, Err}
use Rattle.tables_log.specs.BookView.{book_log}
use Rattle.tables_log.specs.Lsn.{end_lsn_of}
use Rattle.shard_world.specs.PeerCalls.{HasSmallCount}
use Rattle.shard_world.specs.World as w
use Rattle.shard_world.specs.World.{Answer, At, Connection, Event, Idle, NoSubscriber, NotOpen, On, OutOfMemory, PeerEvent, Hear, Take, Keep, Deliver, Report, position_now, position_of}
use Rattle.shard_world.specs.WorldCalls.{IsWorld, RunsFromEach, world_book, world_checked}
use Rattle.shard_world.specs.declared.world.World.{World}

-- as many bytes as can wait
abbrev pub all_bytes : ℕ
all_bytes = 2 ^ 64 - 1

-- ---- events on one connection, all at one clock

abbrev pub on_clock : ℕ → ℕ → PeerEvent → ℕ × Event
on_clock now subscriber event = (now, On subscriber event)

-- after this answer there is no connection
abbrev pub EndsWalk : Answer → Type 0
EndsWalk NoSubscriber = Unit {0}
EndsWalk NotOpen = Unit {0}
EndsWalk OutOfMemory = Unit {0}
EndsWalk answer = ⊥

-- after the others there is one
abbrev pub KeepsConnection : Answer → Type 0
KeepsConnection NoSubscriber = ⊥
KeepsConnection NotOpen = ⊥
KeepsConnection OutOfMemory = ⊥
KeepsConnection answer = HasSmallCount answer

-- they happen one after another
pub record WalksAll (before after : World) (now subscriber : ℕ) (events : List PeerEvent) : Type 0 where
  pub answers : List Answer
  pub go_on : All KeepsConnection answers
  pub runs : RunsFromEach before after (map (on_clock now subscriber) events) answers

-- the first of them happen, the last of these has this answer, and no more happens
pub record WalksSome (before after : World) (now subscriber : ℕ) (events : List PeerEvent) (answer : Answer) : Type 0
  where
    pub done : List PeerEvent
    pub others : List PeerEvent
    pub are : done ++ others ≡ events
    pub answers : List Answer
    pub go_on : All KeepsConnection answers
    pub ends : EndsWalk answer
    pub runs : RunsFromEach before after (map (on_clock now subscriber) done) (answers ++ answer ∷ [])

abbrev pub WalksThrough : World → World → ℕ → ℕ → List PeerEvent → Result (Unit {0}) Answer → Type 0
WalksThrough before after now subscriber events (Ok done) = WalksAll before after now subscriber events
WalksThrough before after now subscriber events (Err answer) = WalksSome before after now subscriber events answer

-- the last of the answers reports that there is no further commit
pub record EndsIdle (answers : List Answer) : Type 0 where
  pub earlier : List Answer
  pub are : answers ≡ earlier ++ Idle ∷ []

-- commits are taken until there is none, or more often than there are commits
pub record TakesAll (before after : World) (now subscriber : ℕ) : Type 0 where
  pub takes : ℕ
  pub walks : WalksAll before after now subscriber (replicate takes Take)
  pub enough : EndsIdle walks.answers ⊎ (length (book_log (world_book before)) < takes)

pub record TakesSome (before after : World) (now subscriber : ℕ) (answer : Answer) : Type 0 where
  pub takes : ℕ
  pub some : WalksSome before after now subscriber (replicate takes Take) answer

abbrev pub TakesThrough : World → World → ℕ → ℕ → Result (Unit {0}) Answer → Type 0
TakesThrough before after now subscriber (Ok done) = TakesAll before after now subscriber
TakesThrough before after now subscriber (Err answer) = TakesSome before after now subscriber answer

-- ---- a pump

-- all that was sent is heard, this number of commits is taken, a keepalive is sent, all is delivered, and a status is
-- sent and heard
abbrev pub pump_events : ℕ → List PeerEvent
pump_events takes = Hear all_bytes
    ∷ (replicate takes Take ++ Keep false ∷ Deliver all_bytes ∷ Report false ∷ Hear all_bytes ∷ [])

-- the position of a subscriber in each world that the program's matches
abbrev pub IsPosition : World → ℕ → ℕ → Type 0
IsPosition code subscriber position =
    subscriber < length (world_checked code).plan → (most : ℕ) (events : List (ℕ × Event)) (world : w.World)
    → IsWorld code most events world
    → position ≡ position_of (world_checked code) world subscriber

-- after the answer to what was heard, the answers to this number of takes: the last reports that there is no further
-- commit, or there are more takes than commits
pub record TakesEnough (takes commits : ℕ) (answers : List Answer) : Type 0 where
  pub heard : List Answer
  pub taken : List Answer
  pub rest : List Answer
  pub are : answers ≡ heard ++ (taken ++ rest)
  pub one : length heard ≡ 1
  pub as_many : length taken ≡ takes
  pub enough : EndsIdle taken ⊎ (commits < takes)

-- in each world that the program's matches and that has this subscriber
abbrev pub InEach : World → ℕ → (ℕ → w.World → Type 0) → Type 0
InEach before subscriber Holds =
    subscriber < length (world_checked before).plan → (most : ℕ) (events : List (ℕ × Event)) (world : w.World)
    → IsWorld before most events world → Holds most world

pub record PumpsAll (before after : World) (now subscriber : ℕ) : Type 0 where
  pub takes : ℕ
  pub all : WalksAll before after now subscriber (pump_events takes)
  pub enough : InEach before subscriber (λ most world. TakesEnough takes (length world.transactions) all.answers)

pub record PumpsSome (before after : World) (now subscriber : ℕ) (answer : Answer) : Type 0 where
  pub takes : ℕ
  pub some : WalksSome before after now subscriber (pump_events takes) answer

-- ---- where a pump ends

-- the subscriber is where the last of this number of commits ends, in a world that the program's matches
pub record IsAtEnd (before after : World) (subscriber count most : ℕ) : Type 0 where
  pub events : List (ℕ × Event)
  pub world : w.World
  pub is : IsWorld after most events world
  pub checked : world_checked after ≡ world_checked before
  pub position_is : position_of (world_checked after) world subscriber ≡ end_lsn_of count

-- where the log ends
abbrev pub ReachesEnd : World → World → ℕ → Type 0
ReachesEnd before after subscriber =
    InEach before subscriber (λ most world. IsAtEnd before after subscriber (length world.transactions) most)

abbrev pub IsEndOfLog : World → ℕ → ℕ → Type 0
IsEndOfLog before subscriber position =
    InEach before subscriber (λ most world. position ≡ end_lsn_of (length world.transactions))

-- a subscriber that has a connection loses it only if memory runs out
abbrev pub WantsMemory : World → ℕ → Answer → Type 0
WantsMemory before subscriber answer =
    InEach before subscriber
    (λ most world. (c : Connection) → (world.peers subscriber).connection ≡ Some c → answer ≡ OutOfMemory)

abbrev pub PumpsThrough : World → World → ℕ → ℕ → Result (Unit {0}) Answer → Type 0
PumpsThrough before after now subscriber (Ok done) = PumpsAll before after now subscriber
    × ReachesEnd before after subscriber
PumpsThrough before after now subscriber (Err answer) = PumpsSome before after now subscriber answer

-- its answer is the subscriber's position, or else the answer that ends it
pub data PumpsFromEach (before after : World) (now subscriber : ℕ) : Answer → Type 0 where
  Pumped : (position : ℕ) → PumpsAll before after now subscriber → IsPosition after subscriber position
      → IsEndOfLog before subscriber position
      → PumpsFromEach before after now subscriber (At position)
  Ended : (answer : Answer) → PumpsSome before after now subscriber answer → WantsMemory before subscriber answer
      → PumpsFromEach before after now subscriber answer
