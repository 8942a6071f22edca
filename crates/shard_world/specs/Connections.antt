-- That what the calls of a subscriber and of the publisher's end of its connection leave is what the steps of the
-- world leave: PostgreSQL 15, 31.2. Subscription, and 55.4. Streaming Replication Protocol.
use Rattle.std.specs.Prelude.{◌≡◌, ℕ, Bool, if◌then◌else◌, List, length, min, take, Some, None, Ok}
use Rattle.tables_log.specs.BookView.{book_slots}
use Rattle.tables_log.specs.declared.book.Book.{Book}
use Rattle.tables_log.specs.declared.slots.Slot.{Slot}
use Rattle.copy_both.specs.Ears.{HearLeaves, ear_phase, hear_answer}
use Rattle.copy_both.specs.Links.{HearSays, IsNewLink, LinkLoses, LinkPasses, LinkSays, link_checked, link_ear, link_heard, link_output, link_sent, link_stage, next_answer, next_bytes, next_stage}
use Rattle.copy_both.specs.Voices.{keep_answer, kept_bytes}
use Rattle.copy_both.specs.declared.heard.Heard as h
use Rattle.copy_both.specs.declared.link.Link.{Link}
use Rattle.copy_both.specs.declared.taken.Taken.{Taken}
use Rattle.copy_both.specs.declared.taken.Taken.TheVariants as taken
use Rattle.test_subscriber.specs.Subscribers.{Feeds, Loses, Opens, Passes, Reports, sub_output}
use Rattle.test_subscriber.specs.declared.subscriber.Subscriber.{Subscriber}
use Rattle.shard_world.specs.Joined.{PeerOf}
use Rattle.shard_world.specs.PeerSteps.{Case, ChangesOwn, HasLog, IsCase, MatchesPeer, StepsPeerTo, source_of}
use Rattle.shard_world.specs.World.{Answer, Delivered, Idle, Kept, Lost, NotStarted, Opened, Reported, Sent, Skipped, Open, Hear, Take, Keep, Deliver, Report, Lose, log_in}
use Rattle.shard_world.specs.World as w

-- the first bytes that wait, at most this number
abbrev pub front_of : ℕ → List ℕ → List ℕ
front_of count bytes = take (min count (length bytes)) bytes

-- the answer when a commit is to be taken, and that for a keepalive
abbrev pub answer_of : Taken → Answer
answer_of taken.NotStarted = NotStarted
answer_of taken.Idle = Idle
answer_of (taken.Skipped number) = Skipped number
answer_of (taken.Sent number) = Sent number

abbrev pub kept_or_not : Bool → Answer
kept_or_not said = if said then Kept else NotStarted

-- ---- a subscriber without a connection opens one

abbrev pub OpensStep : Type 0
OpensStep = (case : Case) → IsCase case → (slots : List Slot) (old : PeerOf) (link : Link) (after : Subscriber)
    → MatchesPeer case slots old → old.link ≡ None
    → IsNewLink link case.checked → Opens old.subscriber after
    → StepsPeerTo case Open Opened slots (record { link = Some link; subscriber = after })

-- ---- with a connection

-- some of what the subscriber sent is heard, and only its own slot changes
pub record HearsOn (case : Case) (count heard : ℕ) (before after : Book) (code : PeerOf) : Type 0 where
  pub steps : StepsPeerTo case (Hear count) (w.Heard heard) (book_slots after) code
  pub own : ChangesOwn case.number before after

abbrev pub HearsStep : Type 0
HearsStep = (case : Case) → IsCase case → (before after : Book) (old : PeerOf) (link : Link) (count : ℕ)
    → HasLog case before → MatchesPeer case (book_slots before) old → old.link ≡ Some link
    → (new : Link) (subscriber : Subscriber) (heard : h.Heard)
    → Ok heard ≡ hear_answer (link_ear link) before (front_of count (sub_output old.subscriber)) (link_sent link)
    → HearLeaves (ear_phase (link_ear link)) (link_ear link) (link_ear new) before after
    (front_of count (sub_output old.subscriber)) (link_sent link) (Ok heard)
    → HearSays link new (link_heard link before (front_of count (sub_output old.subscriber))) case.now (Ok heard)
    → Passes old.subscriber (length (front_of count (sub_output old.subscriber))) subscriber
    → HearsOn case count (length (front_of count (sub_output old.subscriber))) before after
    (record { link = Some new; subscriber = subscriber })

-- the next commit is taken
abbrev pub TakesStep : Type 0
TakesStep = (case : Case) (slots : List Slot) (old : PeerOf) (link new : Link) → MatchesPeer case slots old
    → old.link ≡ Some link
    → LinkSays link new (next_bytes (link_checked link) (link_stage link) (log_in (source_of case)) case.now)
    (next_stage (link_checked link) (link_stage link) (log_in (source_of case)) case.now)
    → (found : Taken) → Ok found ≡ next_answer (link_checked link) (link_stage link) (log_in (source_of case))
    → StepsPeerTo case Take (answer_of found) slots (record { link = Some new; subscriber = old.subscriber })

-- a keepalive is sent
abbrev pub KeepsStep : Type 0
KeepsStep = (case : Case) (slots : List Slot) (old : PeerOf) (link new : Link) (want : Bool)
    → MatchesPeer case slots old → old.link ≡ Some link
    → LinkSays link new (kept_bytes (link_stage link) case.now want) (link_stage link) → (said : Bool)
    → Ok said ≡ keep_answer (link_stage link)
    → StepsPeerTo case (Keep want) (kept_or_not said) slots (record { link = Some new; subscriber = old.subscriber })

-- some of what waits at the publisher's end is delivered to the subscriber
abbrev pub DeliversStep : Type 0
DeliversStep = (case : Case) → IsCase case
    → (slots : List Slot) (old : PeerOf) (link new : Link) (after : Subscriber) (count : ℕ) → MatchesPeer case slots old
    → old.link ≡ Some link
    → Feeds old.subscriber (front_of count (link_output link)) after
    → LinkPasses link new (length (front_of count (link_output link)))
    → StepsPeerTo case (Deliver count) (Delivered (length (front_of count (link_output link)))) slots
    (record { link = Some new; subscriber = after })

-- the subscriber reports its position
abbrev pub ReportsStep : Type 0
ReportsStep = (case : Case) → IsCase case
    → (slots : List Slot) (old : PeerOf) (link : Link) (after : Subscriber) (want : Bool) → MatchesPeer case slots old
    → old.link ≡ Some link
    → Reports old.subscriber case.now want after
    → StepsPeerTo case (Report want) Reported slots (record { link = old.link; subscriber = after })

-- the connection is lost
pub record LosesOn (case : Case) (before after : Book) (code : PeerOf) : Type 0 where
  pub steps : StepsPeerTo case Lose Lost (book_slots after) code
  pub own : ChangesOwn case.number before after

abbrev pub LosesStep : Type 0
LosesStep = (case : Case) (before after : Book) (old : PeerOf) (link new : Link) (subscriber : Subscriber)
    → MatchesPeer case (book_slots before) old → old.link ≡ Some link
    → LinkLoses link new before after → Loses old.subscriber subscriber
    → LosesOn case before after (record { link = None; subscriber = subscriber })
