-- That a subscriber can be brought up to the end of the log: what it sends is heard, the remaining commits are taken, a
-- keepalive is sent, and all is delivered: PostgreSQL 15, 55.4. Streaming Replication Protocol.
use Rattle.std.specs.Prelude.{◌≡◌, ◌<◌, ◌^◌, ℕ, zero, suc, false, List, All, length, Option, Some, None}
use Rattle.shard_checker.specs.CheckedView.{CheckedOf}
use Rattle.tables_log.specs.Lsn.{end_lsn_of}
use Rattle.shard_world.specs.World.{Connection, Peer, World, PeerEvent, Hear, Take, Keep, Deliver, Event, first_world, position_now, peer_step, Leads, StreamSource, source_in, up_bytes, down_of}
use Rattle.shard_world.specs.WorldLaws.{IsPublisher, IsTimedEvent}

-- after an event for which there was memory
abbrev pub next_peer : StreamSource → ℕ → PeerEvent → Peer → Peer
next_peer source now event peer = (peer_step source now event peer peer.connection).1

-- all bytes that it sent, and all of its stream
abbrev pub sent_by : StreamSource → Peer → Option Connection → ℕ
sent_by source peer None = 0
sent_by source peer (Some c) = length (up_bytes source peer c)

abbrev pub sent_to : StreamSource → Option Connection → ℕ
sent_to source None = 0
sent_to source (Some c) = length (down_of source c)

-- after this number of commits were to be taken
abbrev pub take_many : StreamSource → ℕ → ℕ → Peer → Peer
take_many source now zero peer = peer
take_many source now (suc count) peer = take_many source now count (next_peer source now Take peer)

abbrev pub delivered_all : StreamSource → ℕ → Peer → Peer
delivered_all source now peer = next_peer source now (Deliver (sent_to source peer.connection)) peer

abbrev pub caught_up : StreamSource → ℕ → Peer → Peer
caught_up source now peer =
    delivered_all source now (next_peer source now (Keep false)
    (take_many source now (length source.transactions)
    (next_peer source now (Hear (sent_by source peer peer.connection)) peer)))

-- Each subscriber with a connection, in each world that events lead to, is afterwards where the last commit of the log
-- ends, so that it has applied all of them.
abbrev pub SubscribersCatchUp : Type 0
SubscribersCatchUp = (checked : CheckedOf) (most : ℕ) → IsPublisher checked most → (events : List (ℕ × Event))
    → All IsTimedEvent events
    → (world : World) → Leads checked most events first_world world → (subscriber now : ℕ) → now < 2 ^ 64
    → (c : Connection) → (world.peers subscriber).connection ≡ Some c
    → position_now (source_in checked world subscriber)
    (caught_up (source_in checked world subscriber) now (world.peers subscriber))
    ≡ end_lsn_of (length world.transactions)
