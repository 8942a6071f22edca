-- Each step of the world keeps what holds of it, and so each subscriber has its shard.
use Rattle.std.proofs.Common.{◌≡◌, ℕ, ◌+◌, ◌<◌, ◌≤◌, ◌^◌, Bool, length, refl, sym, ◌∙◌, ap, subst, arith}
use Rattle.std.specs.Prelude.{Option, Some, None, min, slice_get}
use Rattle.std.proofs.lemmas.List.Elements.{All-nil}
use Rattle.std.proofs.lemmas.Option.{slice_get_within}
use Rattle.tables_log.specs.Commits.{CommitOf}
use Rattle.copy_both.specs.StreamLaws.{IsThere}
use Rattle.copy_both.specs.Streams as s
use Rattle.copy_both.specs.Streams.{StreamStateOf, Move}
use Rattle.stream_laws.specs.Following.{IsPublished}
use Rattle.shard_world.specs.World.{Connection, Peer, PeerEvent, Open, Hear, Take, Keep, Deliver, Report, Lose, down_bytes, ups_of, spelled_up, as_many, hears, delivers, moves_on, stream_state, take_step, keep_step, open_step, shut_step, peer_step, broken, StreamSource, up_bytes, down_of, in_part, log_in}
use Rattle.shard_world.specs.World as w
use Rattle.stream_laws.specs.LayoutRoom.{FitsLayouts}
use Rattle.shard_world.proofs.WorldHearing.{hears_good}
use Rattle.stream_laws.specs.LayoutRoom.{IsClocked}
use Rattle.shard_world.proofs.WorldPeers.{StartsAt, IsReported, IsConnectedAt, IsGood, loses_good, moves_connected, delivers_connected, reports_connected}

-- ---- a step on a connection

pub stays_within : (asked all done : ℕ) → done ≤ all → done + as_many asked all done ≤ all
stays_within asked all done h = omega (arith, h)

-- the connection of a subscriber that has one
pub as_open : {source : StreamSource} (peer : Peer) (c : Connection) → peer.connection ≡ Some c → IsGood source peer
    → IsGood source (record peer { connection = Some c })
as_open {source = source} peer c is good =
    record { follows = good.follows; connected = subst (IsConnectedAt source peer) is good.connected }

module _ (source : StreamSource) (published : IsPublished source.checked source.transactions)
    (sayable : FitsLayouts source.checked source.transactions) (now : ℕ) (timed : now < 2 ^ 64) where
  pub delivers_good : (peer : Peer) (c : Connection) (asked : ℕ) → IsGood source (record peer { connection = Some c })
      → IsGood source (delivers peer c (as_many asked (length (down_of source c)) c.delivered))
  delivers_good peer c asked good = record {
    follows = good.follows;
    connected = delivers_connected source peer.position peer.confirmed good.connected.0 c
        (as_many asked (length (down_of source c)) c.delivered)
        good.connected.1
        (stays_within asked (length (down_of source c)) c.delivered good.connected.1.delivered);
  }

  moves_good : (peer : Peer) (c : Connection) (move : Move) → IsGood source (record peer { connection = Some c })
      → IsClocked move
      → IsThere (log_in source) (stream_state source peer.position c.moves) move
      → IsGood source (moves_on peer c move)
  moves_good peer c move good clock here = record {
    follows = good.follows;
    connected = (
      good.connected.0,
      moves_connected source peer.position peer.confirmed good.connected.0 c move good.connected.1 clock here,
    );
  }

  takes_good : (peer : Peer) (c : Connection) (state : StreamStateOf) (found : Option CommitOf)
      → slice_get (log_in source) state.done ≡ found
      → state ≡ stream_state source peer.position c.moves
      → (connection : Option Connection) → peer.connection ≡ connection → IsGood source peer
      → IsGood source (record peer { connection = Some c })
      → IsGood source (w.take_commit source.checked now peer c state found).1
  takes_good peer c state None e at connection is whole good = whole
  takes_good peer c state (Some commit) e at connection is whole good =
      moves_good peer c (s.Take now) good timed
      (subst (λ p. p.done < length (log_in source)) at (slice_get_within (log_in source) state.done commit e))

  take_good : (peer : Peer) (c : Connection) (start : Option ℕ) → c.start ≡ start → IsGood source peer
      → IsGood source (record peer { connection = Some c })
      → IsGood source (take_step source now peer c start).1
  take_good peer c None e whole good = whole
  take_good peer c (Some start) e whole good =
      takes_good peer c (stream_state source start c.moves)
      (slice_get (log_in source) (stream_state source start c.moves).done) refl
      (ap (λ p. stream_state source p c.moves) at) peer.connection refl whole good
    where
      at : start ≡ peer.position
      at = subst (StartsAt peer.position) e good.connected.1.started

  keep_good : (want : Bool) (peer : Peer) (c : Connection) (start : Option ℕ) → IsGood source peer
      → IsGood source (record peer { connection = Some c })
      → IsGood source (keep_step now want peer c start).1
  keep_good want peer c None whole good = whole
  keep_good want peer c (Some start) whole good = moves_good peer c (s.Keep now want) good timed tt

  open_good : (event : PeerEvent) (peer : Peer) (c : Connection) → peer.connection ≡ Some c → IsGood source peer
      → IsGood source (open_step source now event peer c).1
  open_good Open peer c is good = good
  open_good (Hear count) peer c is good =
      hears_good source now timed peer c (as_many count (length (up_bytes source peer c)) c.heard)
      (as_open peer c is good)
  open_good Take peer c is good = take_good peer c c.start refl good (as_open peer c is good)
  open_good (Keep want) peer c is good = keep_good want peer c c.start good (as_open peer c is good)
  open_good (Deliver count) peer c is good = delivers_good peer c count (as_open peer c is good)
  open_good (Report want) peer c is good =
      let opened_good = as_open peer c is good in
      record {
        follows = good.follows;
        connected = (
          opened_good.connected.0,
          reports_connected source peer.position peer.confirmed opened_good.connected.0 c _
              (subst (λ n. n ≤ opened_good.connected.0)
              (sym (ap (w.connection_position source peer) is ∙ opened_good.connected.1.reached_is)) (omega arith))
              opened_good.connected.1,
        );
      }
  open_good Lose peer c is good = loses_good source published sayable peer good

  shut_good : (event : PeerEvent) (peer : Peer) → peer.connection ≡ None → IsGood source peer
      → IsGood source (shut_step event peer).1
  shut_good Open peer is good = record {
    follows = good.follows;
    connected = (
      peer.position,
      record {
        started = tt;
        there = tt;
        clocked = All-nil IsClocked;
        delivered = omega arith;
        reached_is = refl;
        confirmed_is = subst (IsConnectedAt source peer) is good.connected;
        reports = All-nil (IsReported peer.position);
      },
    );
  }
  shut_good (Hear count) peer is good = good
  shut_good Take peer is good = good
  shut_good (Keep want) peer is good = good
  shut_good (Deliver count) peer is good = good
  shut_good (Report want) peer is good = good
  shut_good Lose peer is good = good

  pub peer_good : (event : PeerEvent) (peer : Peer) (connection : Option Connection) → peer.connection ≡ connection
      → IsGood source peer
      → IsGood source (peer_step source now event peer connection).1
  peer_good event peer None is good = shut_good event peer is good
  peer_good event peer (Some c) is good = open_good event peer c is good

  -- if memory was refused
  pub in_part_good : (event : PeerEvent) (peer : Peer) (some : ℕ) (c : Connection) → peer.connection ≡ Some c
      → IsGood source peer → IsGood source (in_part source now event peer some c)
  in_part_good (Hear count) peer some c is good =
      hears_good source now timed peer c (as_many (min some count) (length (up_bytes source peer c)) c.heard)
      (as_open peer c is good)
  in_part_good (Deliver count) peer some c is good = delivers_good peer c (min some count) (as_open peer c is good)
  in_part_good Open peer some c is good = good
  in_part_good Take peer some c is good = good
  in_part_good (Keep want) peer some c is good = good
  in_part_good (Report want) peer some c is good = good
  in_part_good Lose peer some c is good = good

  pub broken_good : (event : PeerEvent) (peer : Peer) (some : ℕ) (connection : Option Connection)
      → peer.connection ≡ connection → IsGood source peer
      → IsGood source (broken source now event peer some connection)
  broken_good event peer some None is good = good
  broken_good event peer some (Some c) is good =
      loses_good source published sayable (in_part source now event peer some c)
      (in_part_good event peer some c is good)
