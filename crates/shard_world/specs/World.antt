-- The world of a publisher and its subscribers, in which any of them moves next: commits, connections that are opened
-- and lost, and bytes that come in any pieces: PostgreSQL 15, "Logical Replication", 31.2 Subscription, and 55.4.
-- Streaming Replication Protocol. Its events and answers are this project's own.
use Rattle.std.specs.Prelude.{◌≡◌, ◌<◌, ◌⊎◌, ℕ, ◌+◌, ◌-◌, ◌==◌, max, min, nat_lt, Bool, true, false, if◌then◌else◌, List, [], ◌∷◌, ◌++◌, drop, fold, length, map, slice_get, take, Option, Some, None}
use Rattle.std.specs.List.{flat_map}
use Rattle.copy_both.specs.Streams as s
use Rattle.copy_both.specs.Streams.{StreamItem, spelled, StreamStateOf, Move, state_at, all_moved}
use Rattle.copy_both.specs.Tellings.{telling_of}
use Rattle.copy_frames.specs.Frames.{cut}
use Rattle.copy_frames.specs.declared.status.Status.{Status}
use Rattle.pgoutput_msgs.specs.Telling.{messages_for}
use Rattle.pgoutput_msgs.specs.declared.message.Msg.{Msg}
use Rattle.shard_checker.specs.CheckedView.{CheckedOf, setting_in}
use Rattle.table_changes.specs.Commands.{Command, first_fault, command_view}
use Rattle.tables_log.specs.Commits.{CommitOf}
use Rattle.tables_log.specs.Committing.{IsTransaction}
use Rattle.tables_log.specs.Faults.{fault_view}
use Rattle.tables_log.specs.StandsFor.{Transaction, after, IsAccepted}
use Rattle.tables_log.specs.declared.error.CommitError.{CommitError}
use Rattle.tables_log.specs.declared.error.CommitError.TheVariants as e
use Rattle.test_subscriber.specs.Feeding.{limit}
use Rattle.test_subscriber.specs.Frames.{hear_cut}
use Rattle.test_subscriber.specs.Machine.{Machine, lost, opened}
use Rattle.test_subscriber.specs.Subscribers.{first_machine, status_at}
use Rattle.stream_laws.specs.Cutting.{whole_in}
use Rattle.stream_laws.specs.Following.{log_of, items_from, position_after}
pub use Rattle.stream_laws.specs.Ups.{Up, Asks, Says, subscription_name, publications_taken, publication_name, start_of, up_frame, spelled_up, whole_up}
pub use Rattle.shard_world.specs.declared.answer.Answer.{Answer}
pub use Rattle.shard_world.specs.declared.answer.Answer.TheVariants.{Committed, Refused, NoSubscriber, NotOpen, AlreadyOpen, Opened, Heard, NotStarted, Idle, Skipped, Sent, Kept, Delivered, Reported, Lost, At, OutOfMemory}
pub use Rattle.shard_world.specs.declared.event.PeerEvent.{PeerEvent}
pub use Rattle.shard_world.specs.declared.event.PeerEvent.TheVariants.{Open, Hear, Take, Keep, Deliver, Report, Lose}
use Rattle.shard_world.specs.declared.event.Event as d
use Rattle.shard_world.specs.declared.event.Event.TheVariants as v

-- ---- the state

-- where the stream started, once it has; its moves; the statuses that were sent; and how many bytes were heard of
-- what the subscriber sends, and delivered of the stream
pub record Connection : Type 0 where
  pub start : Option ℕ
  pub moves : List Move
  pub reports : List Status
  pub heard : ℕ
  pub delivered : ℕ

-- the position and the machine as the connection was opened, or as they are without one; and the position that was
-- confirmed
pub record Peer : Type 0 where
  pub position : ℕ
  pub machine : Machine
  pub confirmed : ℕ
  pub connection : Option Connection

-- subscribers by their numbers
pub record World : Type 0 where
  pub transactions : List Transaction
  pub peers : ℕ → Peer

abbrev pub first_peer : Peer
first_peer = record { position = 0; machine = first_machine; confirmed = 0; connection = None }

abbrev pub first_world : World
first_world = record { transactions = []; peers = λ subscriber. first_peer }

-- ---- what is seen of a subscriber

-- what the stream of a subscriber is made of: the publisher's catalog, what was committed, and the subscriber's number
pub record StreamSource : Type 0 where
  pub checked : CheckedOf
  pub transactions : List Transaction
  pub number : ℕ

abbrev pub source_in : CheckedOf → World → ℕ → StreamSource
source_in checked world subscriber =
    record { checked = checked; transactions = world.transactions; number = subscriber }

abbrev pub log_in : StreamSource → List CommitOf
log_in source = log_of source.checked source.transactions

-- the items of its stream, and their bytes; none before the start
abbrev pub down_items : StreamSource → Option ℕ → List Move → List StreamItem
down_items source None moves = []
down_items source (Some start) moves = items_from source.checked source.transactions source.number start moves

abbrev pub down_bytes : StreamSource → Option ℕ → List Move → List ℕ
down_bytes source start moves = flat_map spelled (down_items source start moves)

abbrev pub connection_position : StreamSource → Peer → Option Connection → ℕ
connection_position source peer None = peer.position
connection_position source peer (Some c) =
    position_after peer.position (whole_in c.delivered (down_items source c.start c.moves))

abbrev pub connection_machine : StreamSource → Peer → Option Connection → Machine
connection_machine source peer None = peer.machine
connection_machine source peer (Some c) =
    (hear_cut (cut limit (take c.delivered (down_bytes source c.start c.moves))) (opened peer.machine)).machine

-- the position and the machine now
abbrev pub position_now : StreamSource → Peer → ℕ
position_now source peer = connection_position source peer peer.connection

abbrev pub machine_now : StreamSource → Peer → Machine
machine_now source peer = connection_machine source peer peer.connection

-- in a world
abbrev pub position_of : CheckedOf → World → ℕ → ℕ
position_of checked world subscriber = position_now (source_in checked world subscriber) (world.peers subscriber)

abbrev pub machine_of : CheckedOf → World → ℕ → Machine
machine_of checked world subscriber = machine_now (source_in checked world subscriber) (world.peers subscriber)

-- ---- events

pub data Event : Type 0 where
  Commit : List Command → ℕ → Event
  On : ℕ → PeerEvent → Event

-- an event of the code
abbrev pub event_view : d.Event → Event
event_view (v.Commit commands time) = Commit (map command_view commands.items) time
event_view (v.On subscriber event) = On subscriber event

-- at its clock
abbrev pub timed_view : ℕ × d.Event → ℕ × Event
timed_view event = (event.0, event_view event.1)

-- ---- what the publisher hears

abbrev pub first_connection : Connection
first_connection = record { start = None; moves = []; reports = []; heard = 0; delivered = 0 }

abbrev pub ups_of : Peer → Connection → List Up
ups_of peer c = Asks peer.position ∷ map Says c.reports

-- the number of bytes of the command with which it requests its stream
abbrev pub asking_length : StreamSource → ℕ → ℕ
asking_length source position = length (spelled_up source.checked source.number (Asks position))

-- all that it sends, and all of its stream
abbrev pub up_bytes : StreamSource → Peer → Connection → List ℕ
up_bytes source peer c = flat_map (spelled_up source.checked source.number) (ups_of peer c)

abbrev pub down_of : StreamSource → Connection → List ℕ
down_of source c = down_bytes source c.start c.moves

pub record Session : Type 0 where
  pub confirmed : ℕ
  pub start : Option ℕ
  pub moves : List Move

-- the stream starts where it is requested to, or at what was confirmed if that is greater; another command changes
-- nothing
abbrev pub start_at : Option ℕ → ℕ → ℕ → Option ℕ
start_at None position confirmed = Some (max position confirmed)
start_at (Some start) position confirmed = Some start

abbrev pub replies_to : Bool → ℕ → List Move
replies_to true now = s.Keep now false ∷ []
replies_to false now = []

-- a status confirms what it reports as flushed, and is answered if it requests a reply
abbrev pub hear_up : ℕ → Session → Up → Session
hear_up now session (Asks position) = record session { start = start_at session.start position session.confirmed }
hear_up now session (Says status) =
    record session {
      confirmed = max session.confirmed status.flushed;
      moves =
          session.moves ++ replies_to status.wants_reply now;
    }

-- what is whole in these bytes and was not in those heard before
abbrev pub newly : StreamSource → Peer → Connection → ℕ → List Up
newly source peer c more =
    drop (length (whole_up source.checked source.number c.heard (ups_of peer c)))
    (whole_up source.checked source.number (c.heard + more) (ups_of peer c))

abbrev pub heard_of : StreamSource → ℕ → Peer → Connection → ℕ → Session
heard_of source now peer c more =
    fold (hear_up now) (record { confirmed = peer.confirmed; start = c.start; moves = c.moves })
    (newly source peer c more)

-- as many bytes as are requested, or as wait
abbrev pub as_many : ℕ → ℕ → ℕ → ℕ
as_many asked all done = min asked (all - done)

-- ---- steps of a subscriber's connection

abbrev pub with_connection : Peer → Connection → Peer
with_connection peer c = record peer { connection = Some c }

abbrev pub hears : StreamSource → ℕ → Peer → Connection → ℕ → Peer
hears source now peer c more =
    let session = heard_of source now peer c more in
    record peer {
      confirmed = session.confirmed;
      connection =
          Some (record c { start = session.start; moves = session.moves; heard = c.heard + more });
    }

abbrev pub delivers : Peer → Connection → ℕ → Peer
delivers peer c more = with_connection peer (record c { delivered = c.delivered + more })

-- the connection is lost: what was half read is dropped, and the position and rows stay
abbrev pub loses : StreamSource → Peer → Peer
loses source peer =
    record peer { position = position_now source peer; machine = lost (machine_now source peer); connection = None }

abbrev pub moves_on : Peer → Connection → Move → Peer
moves_on peer c move = with_connection peer (record c { moves = c.moves ++ move ∷ [] })

-- where a stream of these moves is
abbrev pub stream_state : StreamSource → ℕ → List Move → StreamStateOf
stream_state source start moves =
    all_moved (telling_of source.checked) (log_in source)
    (state_at source.number (length source.checked.catalog.tables) start) moves

abbrev pub took : ℕ → List Msg → Answer
took number [] = Skipped number
took number (message ∷ messages) = Sent number

abbrev pub take_commit : CheckedOf → ℕ → Peer → Connection → StreamStateOf → Option CommitOf → Answer × Peer
take_commit checked now peer c state None = (Idle, peer)
take_commit checked now peer c state (Some commit) =
    (took commit.number (messages_for checked state.slot state.relation_sent commit), moves_on peer c (s.Take now))

abbrev pub take_step : StreamSource → ℕ → Peer → Connection → Option ℕ → Answer × Peer
take_step source now peer c None = (NotStarted, peer)
take_step source now peer c (Some start) =
    let state = stream_state source start c.moves in
    take_commit source.checked now peer c state (slice_get (log_in source) state.done)

abbrev pub keep_step : ℕ → Bool → Peer → Connection → Option ℕ → Answer × Peer
keep_step now want peer c None = (NotStarted, peer)
keep_step now want peer c (Some start) = (Kept, moves_on peer c (s.Keep now want))

abbrev pub open_step : StreamSource → ℕ → PeerEvent → Peer → Connection → Answer × Peer
open_step source now Open peer c = (AlreadyOpen, peer)
open_step source now (Hear count) peer c =
    let more = as_many count (length (up_bytes source peer c)) c.heard in (Heard more, hears source now peer c more)
open_step source now Take peer c = take_step source now peer c c.start
open_step source now (Keep want) peer c = keep_step now want peer c c.start
open_step source now (Deliver count) peer c =
    let more = as_many count (length (down_of source c)) c.delivered in (Delivered more, delivers peer c more)
open_step source now (Report want) peer c = (
  Reported,
  with_connection peer
      (record c { reports = c.reports ++ status_at (position_now source peer) now want ∷ [] }),
)
open_step source now Lose peer c = (Lost, loses source peer)

abbrev pub shut_step : PeerEvent → Peer → Answer × Peer
shut_step Open peer = (Opened, with_connection peer first_connection)
shut_step (Hear count) peer = (NotOpen, peer)
shut_step Take peer = (NotOpen, peer)
shut_step (Keep want) peer = (NotOpen, peer)
shut_step (Deliver count) peer = (NotOpen, peer)
shut_step (Report want) peer = (NotOpen, peer)
shut_step Lose peer = (NotOpen, peer)

abbrev pub peer_step : StreamSource → ℕ → PeerEvent → Peer → Option Connection → Answer × Peer
peer_step source now event peer None = shut_step event peer
peer_step source now event peer (Some c) = open_step source now event peer c

-- some of the bytes that were to be heard or delivered
abbrev pub in_part : StreamSource → ℕ → PeerEvent → Peer → ℕ → Connection → Peer
in_part source now (Hear count) peer some c =
    hears source now peer c (as_many (min some count) (length (up_bytes source peer c)) c.heard)
in_part source now (Deliver count) peer some c =
    delivers peer c (as_many (min some count) (length (down_of source c)) c.delivered)
in_part source now Open peer some c = peer
in_part source now Take peer some c = peer
in_part source now (Keep want) peer some c = peer
in_part source now (Report want) peer some c = peer
in_part source now Lose peer some c = peer

-- If memory was refused, the connection is lost, after some of the bytes that were to be heard or delivered.
abbrev pub broken : StreamSource → ℕ → PeerEvent → Peer → ℕ → Option Connection → Peer
broken source now event peer some None = peer
broken source now event peer some (Some c) = loses source (in_part source now event peer some c)

-- ---- steps of the world

abbrev pub with_peer : World → ℕ → Peer → World
with_peer world subscriber peer =
    record world { peers = λ other. if other == subscriber then peer else world.peers other }

abbrev pub with_transaction : World → List Command → ℕ → World
with_transaction world commands time =
    record world { transactions = world.transactions ++ record { commands = commands; time = time } ∷ [] }

-- why a list of commands is refused; memory is allocated if the log has room for a transaction
abbrev pub RefusedFor : CheckedOf → ℕ → World → List Command → CommitError → Type 0
RefusedFor checked most world commands e.EmptyTransaction = commands ≡ []
RefusedFor checked most world commands e.TooManyCommands = 1000 < length commands
RefusedFor checked most world commands e.LogFull = IsTransaction commands × (length world.transactions ≡ most)
RefusedFor checked most world commands (e.At number fault) = IsTransaction commands × (length world.transactions < most)
    × (first_fault (setting_in checked) (after (setting_in checked) world.transactions) 1 commands
    ≡ Some (number, fault_view fault))
RefusedFor checked most world commands e.OutOfMemory = IsTransaction commands × (length world.transactions < most)

-- it is accepted, or refused and nothing changes; the log has at most this number
pub record IsCommitted (checked : CheckedOf) (most : ℕ) (world : World) (commands : List Command) (time : ℕ)
    (answer : Answer) (next : World) : Type 0 where
  pub accepted : IsAccepted (setting_in checked) (after (setting_in checked) world.transactions)
      (record { commands = commands; time = time })
  pub room : length world.transactions < most
  pub answer_is : answer ≡ Committed (length world.transactions + 1)
  pub next_is : next ≡ with_transaction world commands time

pub record RefusesCommit (checked : CheckedOf) (most : ℕ) (world : World) (commands : List Command) (answer : Answer)
    (next : World) : Type 0 where
  pub error : CommitError
  pub refused : RefusedFor checked most world commands error
  pub answer_is : answer ≡ Refused error
  pub next_is : next ≡ world

abbrev pub step_in : CheckedOf → World → ℕ → ℕ → PeerEvent → Answer × Peer
step_in checked world subscriber now event =
    peer_step (source_in checked world subscriber) now event (world.peers subscriber)
    (world.peers subscriber).connection

abbrev pub broken_in : CheckedOf → World → ℕ → ℕ → PeerEvent → ℕ → Peer
broken_in checked world subscriber now event some =
    broken (source_in checked world subscriber) now event (world.peers subscriber) some
    (world.peers subscriber).connection

-- the connection's own step, or memory was refused
pub record MovesPeer (checked : CheckedOf) (world : World) (subscriber now : ℕ) (event : PeerEvent) (answer : Answer)
    (next : World) : Type 0 where
  pub answer_is : answer ≡ (step_in checked world subscriber now event).0
  pub next_is : next ≡ with_peer world subscriber (step_in checked world subscriber now event).1

-- memory is allocated if the step has something to do, and so not instead of these answers, nor if no bytes move
abbrev pub AsksMemory : Answer → Type 0
AsksMemory AlreadyOpen = ⊥
AsksMemory NotOpen = ⊥
AsksMemory NotStarted = ⊥
AsksMemory Idle = ⊥
AsksMemory Lost = ⊥
AsksMemory (Heard bytes) = 0 < bytes
AsksMemory (Delivered bytes) = 0 < bytes
AsksMemory answer = Unit {0}

pub record BreaksPeer (checked : CheckedOf) (world : World) (subscriber now : ℕ) (event : PeerEvent) (answer : Answer)
    (next : World) : Type 0 where
  pub needed : AsksMemory (step_in checked world subscriber now event).0
  pub some : ℕ
  pub answer_is : answer ≡ OutOfMemory
  pub next_is : next ≡ with_peer world subscriber (broken_in checked world subscriber now event some)

abbrev pub StepsPeer : Bool → CheckedOf → World → ℕ → ℕ → PeerEvent → Answer → World → Type 0
StepsPeer false checked world subscriber now event answer next = (answer ≡ NoSubscriber) × (next ≡ world)
StepsPeer true checked world subscriber now event answer next =
    MovesPeer checked world subscriber now event answer next ⊎ BreaksPeer checked world subscriber now event answer next

-- at a time, an event has this answer, and leaves this
abbrev pub Steps : CheckedOf → ℕ → World → ℕ → Event → Answer → World → Type 0
Steps checked most world now (Commit commands time) answer next =
    IsCommitted checked most world commands time answer next ⊎ RefusesCommit checked most world commands answer next
Steps checked most world now (On subscriber event) answer next =
    StepsPeer (nat_lt subscriber (length checked.plan)) checked world subscriber now event answer next

-- events, each with its time, lead from one world to another
abbrev pub Leads : CheckedOf → ℕ → List (ℕ × Event) → World → World → Type 0
Leads checked most [] world last = last ≡ world
Leads checked most (event ∷ events) world last =
    (answer : Answer) × (next : World) × Steps checked most world event.0 event.1 answer next
    × Leads checked most events next last
