-- What calls on a subscriber and its connection do, in each world that they match at a time: PostgreSQL 15, 31.2.
-- Subscription, and 55.4. Streaming Replication Protocol.
use Rattle.std.specs.Prelude.{◌≡◌, ◌<◌, ◌⊎◌, ◌^◌, ℕ, Option, Some, None, Result, IfOk, OnErr}
use Rattle.shard_checker.specs.CheckedView.{CheckedOf}
use Rattle.tables_log.specs.BookView.{book_checked, book_slots}
use Rattle.tables_log.specs.Committing.{IsKept}
use Rattle.tables_log.specs.declared.book.Book.{Book}
use Rattle.copy_both.specs.Links.{LinkLoses}
use Rattle.copy_both.specs.declared.link.Link.{Link}
use Rattle.test_subscriber.specs.Subscribers.{Loses}
use Rattle.shard_world.specs.Joined.{PeerOf}
use Rattle.shard_world.specs.Linked.{IsLinkedTo}
use Rattle.shard_world.specs.PeerSteps.{Case, ChangesOwn, HasLog, IsCase, MatchesPeer, StepsPeerTo, stepped}
use Rattle.shard_world.specs.Refusals.{BreaksOn, HaltsOn}
use Rattle.shard_world.specs.World.{Answer, AsksMemory, Heard, Delivered, OutOfMemory, PeerEvent}
use Rattle.shard_world.specs.declared.halted.Halted.{Halted}

-- ---- memory is not refused

-- a world that they match at this time
pub record MatchesCase (checked : CheckedOf) (now : ℕ) (book : Book) (code : PeerOf) (case : Case) : Type 0 where
  pub is : IsCase case
  pub checked_is : case.checked ≡ checked
  pub now_is : case.now ≡ now
  pub log : HasLog case book
  pub peer : MatchesPeer case (book_slots book) code

-- the step of the world is made, and only its own slot changes
pub record MakesFrom (case : Case) (event : PeerEvent) (answer : Answer) (before after : Book)
    (new : PeerOf) : Type 0 where
  pub steps : StepsPeerTo case event answer (book_slots after) new
  pub own : ChangesOwn case.number before after

abbrev pub MakesFromEach : CheckedOf → ℕ → PeerEvent → Book → Book → PeerOf → PeerOf → Answer → Type 0
MakesFromEach checked now event before after old new answer = (case : Case) → MatchesCase checked now before old case
    → MakesFrom case event answer before after new

-- ---- memory is refused

-- some of the bytes were heard or delivered; if there was no connection yet, there is none
abbrev pub IsStopped : Case → PeerEvent → Book → Book → PeerOf → Option Link → Type 0
IsStopped case event before after new None = BreaksOn case event before after new
IsStopped case event before after new (Some link) = HaltsOn case event before after new

-- the step would have done something
pub record StopsFrom (case : Case) (event : PeerEvent) (before after : Book) (new : PeerOf) : Type 0 where
  pub needed : AsksMemory (stepped case event).0
  pub stopped : IsStopped case event before after new new.link

abbrev pub StopsFromEach : CheckedOf → ℕ → PeerEvent → Book → Book → PeerOf → PeerOf → Type 0
StopsFromEach checked now event before after old new = (case : Case) → MatchesCase checked now before old case
    → StopsFrom case event before after new

-- the connection's end at the publisher is lost
pub record LosesLink (link : Link) (before after : Book) : Type 0 where
  pub lost : Link
  pub loses : LinkLoses link lost before after

abbrev pub LosesIfThere : Option Link → Book → Book → Type 0
LosesIfThere None before after = IsKept before after
LosesIfThere (Some link) before after = LosesLink link before after

-- there is no longer a connection
pub record Drops (old new : PeerOf) (before after : Book) : Type 0 where
  pub none : new.link ≡ None
  pub subscriber : Loses old.subscriber new.subscriber
  pub link : LosesIfThere old.link before after

-- ---- the step of the world, or what out of memory leaves

pub record BreaksFrom (case : Case) (event : PeerEvent) (answer : Answer) (before after : Book) (new : PeerOf) : Type 0
  where
    pub needed : AsksMemory (stepped case event).0
    pub answer_is : answer ≡ OutOfMemory
    pub on : BreaksOn case event before after new

abbrev pub MovesFromEach : CheckedOf → ℕ → PeerEvent → Book → Book → PeerOf → PeerOf → Answer → Type 0
MovesFromEach checked now event before after old new answer =
    (case : Case) → MatchesCase checked now before old case
    → MakesFrom case event answer before after new ⊎ BreaksFrom case event answer before after new

-- ---- how many bytes can be heard or delivered at once

-- no list of bytes is this long
abbrev pub HasSmallCount : Answer → Type 0
HasSmallCount (Heard bytes) = bytes < 2 ^ 63
HasSmallCount (Delivered bytes) = bytes < 2 ^ 63
HasSmallCount answer = Unit {0}

-- ---- a call that memory may be refused to

-- its step is made, with this answer, or the connection cannot continue; either way the book and the connection keep
-- the catalog
pub record Tries (checked : CheckedOf) (now : ℕ) (event : PeerEvent) (before after : Book) (old : PeerOf)
    (result : Result Answer Halted) (new : PeerOf) : Type 0 where
  pub made : IfOk result (λ answer. MakesFromEach checked now event before after old new answer)
  pub counted : IfOk result HasSmallCount
  pub stops : OnErr result (StopsFromEach checked now event before after old new)
  pub book : book_checked after ≡ book_checked before
  pub linked : IsLinkedTo checked old → IsLinkedTo checked new
