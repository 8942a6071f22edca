-- When a subscriber of a program and its connection match those of the world: PostgreSQL 15, "Logical Replication",
-- 31.2 Subscription, and 55.4. Streaming Replication Protocol.
use Rattle.std.specs.Prelude.{◌≡◌, ◌<◌, ◌≤◌, ◌^◌, ℕ, Bool, false, is_some, List, [], All, drop, length, map, slice_get, take, Option, Some, None}
use Rattle.filter_tree.specs.Datum.{Datum}
use Rattle.shard_checker.specs.CheckedView.{CheckedOf}
use Rattle.tables_log.specs.declared.slots.Slot.{Slot}
use Rattle.copy_frames.specs.Frames.{cut, rest_of}
use Rattle.copy_frames.specs.declared.status.Status.{Status}
use Rattle.copy_both.specs.Ears.{ear_checked, ear_held, ear_phase, ear_started}
use Rattle.copy_both.specs.LinkLaws.{Run, IsStreaming}
use Rattle.copy_both.specs.Links.{link_checked, link_ear, link_output, link_stage}
use Rattle.copy_both.specs.Streams.{Move}
use Rattle.copy_both.specs.Voices as voices
use Rattle.copy_both.specs.declared.link.Link.{Link}
use Rattle.copy_both.specs.declared.phase.Phase.TheVariants as phase
use Rattle.test_subscriber.specs.Feeding.{limit}
use Rattle.test_subscriber.specs.Machine.{Machine}
use Rattle.test_subscriber.specs.Subscribers.{sub_held, sub_machine, sub_output, sub_publications, sub_slot}
use Rattle.test_subscriber.specs.declared.subscriber.Subscriber.{Subscriber}
use Rattle.shard_world.specs.World as w
use Rattle.shard_world.specs.declared.peer.Peer.{Peer}
use Rattle.shard_world.specs.World.{Connection, down_bytes, connection_machine, StreamSource, up_bytes, down_of, log_in, asking_length}

-- ---- machines

-- the same except for whether a status is requested
pub record AlikeBut (one other : Machine) : Type 0 where
  pub phase : one.phase ≡ other.phase
  pub position : one.position ≡ other.position
  pub kept : (oid : ℕ) → one.kept oid ≡ other.kept oid
  pub known : (oid : ℕ) → one.known oid ≡ other.known oid
  pub rows : (oid : ℕ) (key : List Datum) → one.rows oid key ≡ other.rows oid key
  pub work : (oid : ℕ) (key : List Datum) → one.work oid key ≡ other.work oid key

-- the same position, Relations and rows, which stay across connections
pub record StaysAlike (one other : Machine) : Type 0 where
  pub position : one.position ≡ other.position
  pub kept : (oid : ℕ) → one.kept oid ≡ other.kept oid
  pub rows : (oid : ℕ) (key : List Datum) → one.rows oid key ≡ other.rows oid key

-- ---- a subscriber and its connection

-- its names are those of its subscription
pub record IsNamed (checked : CheckedOf) (number : ℕ) (subscriber : Subscriber) : Type 0 where
  pub slot : sub_slot subscriber ≡ w.subscription_name (slice_get checked.catalog.subscriptions number)
  pub publications : sub_publications subscriber
      ≡ map (λ publication. w.publication_name (slice_get checked.catalog.publications publication))
      (w.publications_taken (slice_get checked.catalog.subscriptions number))

-- its slot is confirmed up to here, and is in use by a stream or not
abbrev pub HasSlot : List Slot → ℕ → ℕ → Bool → Type 0
HasSlot slots number confirmed taken = slice_get slots number ≡ Some (record { confirmed = confirmed; taken = taken })

-- without a connection
pub record IsApart (number : ℕ) (slots : List Slot) (subscriber : Subscriber) (peer : w.Peer) : Type 0 where
  pub machine : StaysAlike (sub_machine subscriber) peer.machine
  pub slot : HasSlot slots number peer.confirmed false

-- the publisher's end: nothing was sent before the start
pub record IsSilent (link : Link) (moves : List Move) : Type 0 where
  pub stage_is : link_stage link ≡ voices.NotStarted
  pub output : link_output link ≡ []
  pub none : moves ≡ []

-- and then the stream, of which this number of bytes was delivered
abbrev pub run_of : StreamSource → ℕ → List Move → ℕ → Run
run_of source start moves delivered = record {
  checked = source.checked;
  log = log_in source;
  start = record { slot = source.number; tables = length source.checked.catalog.tables; position = start };
  moves = moves;
  passed = take delivered (down_bytes source (Some start) moves);
}

abbrev pub SendsStream : StreamSource → Link → List Move → ℕ → Option ℕ → Type 0
SendsStream source link moves delivered None = IsSilent link moves
SendsStream source link moves delivered (Some start) =
    IsStreaming link (run_of source start moves delivered) (w.stream_state source start moves)

abbrev pub stream_of : ℕ → Option ℕ → Option (ℕ × ℕ)
stream_of number None = None
stream_of number (Some start) = Some (number, start)

-- the command was heard whole if, and only if, a stream started
abbrev pub IsAsked : ℕ → ℕ → Option ℕ → Type 0
IsAsked heard asking None = heard < asking
IsAsked heard asking (Some start) = asking ≤ heard

-- all its positions are the same
pub record IsOneStatus (status : Status) : Type 0 where
  pub written : status.written ≡ status.flushed
  pub applied : status.applied ≡ status.flushed
  pub timed : status.clock < 2 ^ 64

-- what the publisher heard of what the subscriber sent
pub record Hears (source : StreamSource) (link : Link) (peer : w.Peer) (c : Connection) : Type 0 where
  pub checked_is : ear_checked (link_ear link) ≡ source.checked
  pub phase_is : ear_phase (link_ear link) ≡ phase.Open
  pub started : ear_started (link_ear link) ≡ stream_of source.number c.start
  pub asked : IsAsked c.heard (asking_length source peer.position) c.start
  pub statuses : All IsOneStatus c.reports
  pub held : ear_held (link_ear link) ≡ rest_of (cut 65536 (take c.heard (up_bytes source peer c)))

-- with a connection: what waits is what was not heard and not delivered, and what is held is not a whole frame
pub record IsLinked (source : StreamSource) (slots : List Slot) (link : Link) (subscriber : Subscriber) (peer : w.Peer)
    (c : Connection) : Type 0 where
  pub heard : c.heard ≤ length (up_bytes source peer c)
  pub delivered : c.delivered ≤ length (down_of source c)
  pub sends : sub_output subscriber ≡ drop c.heard (up_bytes source peer c)
  pub held : sub_held subscriber ≡ rest_of (cut limit (take c.delivered (down_of source c)))
  pub machine : AlikeBut (sub_machine subscriber) (connection_machine source peer (Some c))
  pub checked_is : link_checked link ≡ source.checked
  pub hears : Hears source link peer c
  pub speaks : SendsStream source link c.moves c.delivered c.start
  pub slot : HasSlot slots source.number peer.confirmed (is_some c.start)

abbrev pub IsAt : StreamSource → List Slot → Option Link → Subscriber → w.Peer → Option Connection → Type 0
IsAt source slots None subscriber peer None = IsApart source.number slots subscriber peer
IsAt source slots (Some link) subscriber peer (Some c) = IsLinked source slots link subscriber peer c
IsAt source slots link subscriber peer connection = ⊥

-- a subscriber of a program, and the publisher's end of its connection while there is one
abbrev pub PeerOf : Type 0
PeerOf = Peer

pub record PeerIs (source : StreamSource) (slots : List Slot) (code : PeerOf) (peer : w.Peer) : Type 0 where
  pub named : IsNamed source.checked source.number code.subscriber
  pub at : IsAt source slots code.link code.subscriber peer peer.connection
