-- That if memory is refused to a call on the connection of a subscriber, the connection is lost after some of the
-- bytes, as in the world: PostgreSQL 15, 31.2. Subscription, and 55.4. Streaming Replication Protocol.
use Rattle.std.specs.Prelude.{◌≡◌, ℕ, Bool, List, Some, None, Result, Ok, Err}
use Rattle.filter_tree.specs.Memory.{TellsFault}
use Rattle.tables_log.specs.BookView.{book_slots}
use Rattle.tables_log.specs.declared.book.Book.{Book}
use Rattle.tables_log.specs.declared.slots.Slot.{Slot}
use Rattle.copy_both.specs.Ears.{HearLeaves, ear_phase, hear_answer}
use Rattle.copy_both.specs.Links.{LinkCloses, LinkLoses, link_checked, link_ear, link_output, link_sent, link_stage, next_answer}
use Rattle.copy_both.specs.Voices.{keep_answer, reported_fault}
use Rattle.copy_both.specs.declared.link.Link.{Link}
use Rattle.copy_both.specs.declared.link_fault.LinkFault.{LinkFault}
use Rattle.test_subscriber.specs.StartQuery.{start_query}
use Rattle.test_subscriber.specs.Subscribers.{FeedStops, Loses, fed_heard, status_answer, sub_machine, sub_output, sub_publications, sub_slot}
use Rattle.test_subscriber.specs.declared.fault.SubFault.{SubFault}
use Rattle.test_subscriber.specs.declared.subscriber.Subscriber.{Subscriber}
use Rattle.shard_world.specs.Connections.{front_of}
use Rattle.shard_world.specs.Joined.{PeerIs, PeerOf}
use Rattle.shard_world.specs.PeerSteps.{Case, ChangesOwn, Halts, HasLog, IsCase, MatchesPeer, source_of}
use Rattle.shard_world.specs.World.{PeerEvent, Open, Hear, Take, Keep, Deliver, Report, broken_in, log_in}

-- ---- the result is not a fault, so that an error means that memory was refused

pub record IsAnswered {A F : Type 0} (answer : Result A F) : Type 0 where
  pub value : A
  pub is : answer ≡ Ok value

abbrev pub OpensAreAnswered : Type 0
OpensAreAnswered = (case : Case) → IsCase case → (slots : List Slot) (old : PeerOf) → MatchesPeer case slots old
    → old.link ≡ None
    → IsAnswered (start_query (sub_slot old.subscriber) (sub_publications old.subscriber)
    (sub_machine old.subscriber).position)

abbrev pub HearsAreAnswered : Type 0
HearsAreAnswered = (case : Case) → IsCase case → (book : Book) (old : PeerOf) (link : Link) (count : ℕ)
    → HasLog case book → MatchesPeer case (book_slots book) old → old.link ≡ Some link
    → IsAnswered (hear_answer (link_ear link) book (front_of count (sub_output old.subscriber)) (link_sent link))

abbrev pub TakesAreAnswered : Type 0
TakesAreAnswered = (case : Case) → IsCase case → (slots : List Slot) (old : PeerOf) (link : Link)
    → MatchesPeer case slots old → old.link ≡ Some link
    → IsAnswered (next_answer (link_checked link) (link_stage link) (log_in (source_of case)))

abbrev pub KeepsAreAnswered : Type 0
KeepsAreAnswered = (case : Case) (slots : List Slot) (old : PeerOf) (link : Link) → MatchesPeer case slots old
    → old.link ≡ Some link → IsAnswered (keep_answer (link_stage link))

abbrev pub DeliversAreAnswered : Type 0
DeliversAreAnswered = (case : Case) → IsCase case → (slots : List Slot) (old : PeerOf) (link : Link) (count : ℕ)
    → MatchesPeer case slots old → old.link ≡ Some link
    → (fed_heard old.subscriber (front_of count (link_output link))).fault ≡ None

abbrev pub ReportsAreAnswered : Type 0
ReportsAreAnswered = (case : Case) (slots : List Slot) (old : PeerOf) (link : Link) → MatchesPeer case slots old
    → old.link ≡ Some link → IsAnswered (status_answer (sub_machine old.subscriber).phase)

-- ---- a subscriber without a connection, whose connection cannot be opened, stays without one

-- what exists matches what the world's step leaves if memory is refused
pub record StepBreaks (case : Case) (event : PeerEvent) (slots : List Slot) (code : PeerOf) : Type 0 where
  pub some : ℕ
  pub peer_is : PeerIs (source_of case) slots code (broken_in case.checked case.world case.number case.now event some)

-- nothing changed
abbrev pub OpenStays : Type 0
OpenStays = (case : Case) (slots : List Slot) (old : PeerOf) → MatchesPeer case slots old → old.link ≡ None
    → StepBreaks case Open slots old

-- the command was refused
abbrev pub OpenBreaks : Type 0
OpenBreaks = (case : Case) (slots : List Slot) (old : PeerOf) (after : Subscriber) → MatchesPeer case slots old
    → old.link ≡ None → Loses old.subscriber after
    → StepBreaks case Open slots (record { link = None; subscriber = after })

-- ---- a call on a connection is refused

-- the first few frames are heard, and only its own slot changes
pub record HaltsOn (case : Case) (event : PeerEvent) (before after : Book) (code : PeerOf) : Type 0 where
  pub halts : Halts case event (book_slots after) code
  pub own : ChangesOwn case.number before after

abbrev pub HearHalts : Type 0
HearHalts = (case : Case) → IsCase case → (before after : Book) (old : PeerOf) (link : Link) (count : ℕ)
    → HasLog case before → MatchesPeer case (book_slots before) old → old.link ≡ Some link
    → (new : Link) (error : LinkFault)
    → TellsFault (reported_fault error)
    (hear_answer (link_ear link) before (front_of count (sub_output old.subscriber)) (link_sent link))
    → HearLeaves (ear_phase (link_ear link)) (link_ear link) (link_ear new) before after
    (front_of count (sub_output old.subscriber)) (link_sent link) (Err error)
    → HaltsOn case (Hear count) before after (record { link = Some new; subscriber = old.subscriber })

-- nothing is sent
abbrev pub TakeHalts : Type 0
TakeHalts = (case : Case) (slots : List Slot) (old : PeerOf) (link new : Link) → MatchesPeer case slots old
    → old.link ≡ Some link → LinkCloses link new
    → Halts case Take slots (record { link = Some new; subscriber = old.subscriber })

abbrev pub KeepHalts : Type 0
KeepHalts = (case : Case) (slots : List Slot) (old : PeerOf) (link new : Link) (want : Bool)
    → MatchesPeer case slots old → old.link ≡ Some link → LinkCloses link new
    → Halts case (Keep want) slots (record { link = Some new; subscriber = old.subscriber })

-- the first few frames are applied
abbrev pub DeliverHalts : Type 0
DeliverHalts = (case : Case) → IsCase case
    → (slots : List Slot) (old : PeerOf) (link : Link) (after : Subscriber) (count : ℕ) (error : SubFault)
    → MatchesPeer case slots old → old.link ≡ Some link
    → FeedStops old.subscriber (front_of count (link_output link)) error after
    → Halts case (Deliver count) slots (record { link = old.link; subscriber = after })

abbrev pub ReportHalts : Type 0
ReportHalts = (case : Case) (slots : List Slot) (old : PeerOf) (link : Link) (after : Subscriber) (want : Bool)
    → MatchesPeer case slots old → old.link ≡ Some link
    → Loses old.subscriber after → Halts case (Report want) slots (record { link = old.link; subscriber = after })

-- ---- and then the connection is lost

pub record BreaksOn (case : Case) (event : PeerEvent) (before after : Book) (code : PeerOf) : Type 0 where
  pub breaks : StepBreaks case event (book_slots after) code
  pub own : ChangesOwn case.number before after

abbrev pub LossBreaks : Type 0
LossBreaks = (case : Case) (event : PeerEvent) (before after : Book) (code : PeerOf) (link new : Link)
    (subscriber : Subscriber) → Halts case event (book_slots before) code → code.link ≡ Some link
    → LinkLoses link new before after → Loses code.subscriber subscriber
    → BreaksOn case event before after (record { link = None; subscriber = subscriber })
