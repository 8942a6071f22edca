-- A subscriber and its connection in the world: what keeps holding when they move.
use Rattle.std.proofs.Common.{◌≡◌, ℕ, ◌+◌, ◌≤◌, List, [], ◌∷◌, ◌++◌, length, take, drop, refl, sym, ◌∙◌, ap, subst, arith, length-append}
use Rattle.std.specs.Prelude.{Option, Some, None, All}
use Rattle.std.specs.List.{flat_map}
use Rattle.std.proofs.lemmas.List.{length-take-le, take-append-drop}
use Rattle.std.proofs.lemmas.List.Concat.{flat_map-append}
use Rattle.std.proofs.lemmas.List.Elements.{All-nil, All-cons, All-head, All-tail, All-append}
use Rattle.copy_both.specs.StreamLaws.{IsThere, AllThere}
use Rattle.copy_both.specs.Streams.{StreamItem, Response, spelled, Move, state_at, all_moved, move_items}
use Rattle.copy_both.specs.Tellings.{telling_of}
use Rattle.copy_both.proofs.StreamLemmas.{items_append, there_append}
use Rattle.copy_frames.specs.Frames.{cut}
use Rattle.copy_frames.specs.declared.status.Status.{Status}
use Rattle.test_subscriber.specs.Feeding.{limit}
use Rattle.test_subscriber.specs.Frames.{MachineHeard, hear_cut}
use Rattle.test_subscriber.specs.Machine.{Machine, lost, opened}
use Rattle.stream_laws.specs.Cutting.{whole_in}
use Rattle.stream_laws.specs.Following.{position_after, Follows, IsPublished, IsSentItem}
use Rattle.stream_laws.specs.FollowingBytes.{IsFollowed}
use Rattle.stream_laws.specs.LayoutRoom.{FitsLayouts}
use Rattle.shard_world.specs.World.{Connection, Peer, down_items, down_bytes, connection_position, connection_machine, position_now, machine_now, loses, StreamSource, log_in}
pub use Rattle.shard_world.specs.WorldLaws.{StartsAt}
use Rattle.stream_laws.proofs.CuttingLemmas.{cut_nothing}
use Rattle.stream_laws.proofs.FollowingBytesLemmas.{follows_alike, opened_followed}
use Rattle.shard_world.proofs.WorldItems.{whole_more, more_raise}
use Rattle.stream_laws.specs.LayoutRoom.{IsClocked}
use Rattle.stream_laws.proofs.SentItems.{stream_sent}

-- ---- what holds of a connection

abbrev pub FollowsIn : StreamSource → ℕ → Machine → Type 0
FollowsIn source position machine = Follows source.checked source.transactions source.number position machine

-- it reports no more than what it reached
abbrev pub IsReported : ℕ → Status → Type 0
IsReported reached status = status.flushed ≤ reached

-- Its stream starts where it was opened, takes commits that exist, and was delivered so far; it reached this position,
-- and nothing beyond it was reported or confirmed.
pub record IsConnected (source : StreamSource) (position confirmed reached : ℕ) (c : Connection) : Type 0 where
  pub started : StartsAt position c.start
  pub there : AllThere (telling_of source.checked) (log_in source)
      (state_at source.number (length source.checked.catalog.tables) position) c.moves
  pub clocked : All IsClocked c.moves
  pub delivered : c.delivered ≤ length (flat_map spelled (down_items source c.start c.moves))
  pub reached_is : position_after position (whole_in c.delivered (down_items source c.start c.moves)) ≡ reached
  pub confirmed_is : confirmed ≤ reached
  pub reports : All (IsReported reached) c.reports

abbrev pub IsConnectedAt : StreamSource → Peer → Option Connection → Type 0
IsConnectedAt source peer None = peer.confirmed ≤ peer.position
IsConnectedAt source peer (Some c) = (reached : ℕ) × IsConnected source peer.position peer.confirmed reached c

pub record IsGood (source : StreamSource) (peer : Peer) : Type 0 where
  pub follows : FollowsIn source peer.position peer.machine
  pub connected : IsConnectedAt source peer peer.connection

-- ---- it has its shard now

abbrev IsFollowedIn : StreamSource → ℕ → MachineHeard → Type 0
IsFollowedIn source position heard = IsFollowed source.checked source.transactions source.number position heard

module _ (source : StreamSource) (published : IsPublished source.checked source.transactions)
    (sayable : FitsLayouts source.checked source.transactions) where
  -- what it is sent can be spelled
  pub down_sent : (position : ℕ) (machine : Machine) → FollowsIn source position machine → (start : Option ℕ)
      → StartsAt position start
      → (moves : List Move) → All IsClocked moves → All IsSentItem (down_items source start moves)
  down_sent position machine follows None at moves clocked = All-nil IsSentItem
  down_sent position machine follows (Some start) at moves clocked =
      subst (λ p. All IsSentItem (down_items source (Some p) moves)) (sym at)
      (stream_sent source.checked source.transactions published.accepted sayable source.number position moves
      follows.within clocked)

  -- and is heard with no fault
  pub delivered_followed : (position : ℕ) (machine : Machine) → FollowsIn source position machine → (start : Option ℕ)
      → StartsAt position start
      → (moves : List Move) → All IsClocked moves → (delivered : ℕ)
      → delivered ≤ length (flat_map spelled (down_items source start moves))
      → IsFollowedIn source (position_after position (whole_in delivered (down_items source start moves)))
      (hear_cut (cut limit (take delivered (down_bytes source start moves))) (opened machine))
  delivered_followed position machine follows None at moves clocked delivered within =
      subst (λ n. IsFollowedIn source position (hear_cut (cut limit (take n [])) (opened machine))) zero_is
      (subst (λ all. IsFollowedIn source position (hear_cut all (opened machine))) (sym (cut_nothing limit)) (record {
        no_fault = refl;
        follows = follows_alike source.checked source.transactions source.number position machine (opened machine)
            follows refl (λ oid key. refl) (λ oid. refl);
      }))
    where
      zero_is : 0 ≡ delivered
      zero_is = omega (arith, within)
  delivered_followed position machine follows (Some start) at moves clocked delivered within =
      subst (λ p. IsFollowedIn source (position_after position (whole_in delivered (down_items source (Some p) moves)))
      (hear_cut (cut limit (take delivered (down_bytes source (Some p) moves))) (opened machine))) (sym at)
      (by_length (length (take delivered (down_bytes source (Some position) moves))) long
      (opened_followed source.checked source.transactions published source.number (opened machine)
      (record { waits = refl; known = λ oid. refl; work_is = λ oid key. refl }) position
      (follows_alike source.checked source.transactions source.number position machine (opened machine) follows refl
      (λ oid key. refl) (λ oid. refl)) moves
      (stream_sent source.checked source.transactions published.accepted sayable source.number position moves
      follows.within clocked)
      (take delivered (down_bytes source (Some position) moves))
      (drop delivered (down_bytes source (Some position) moves))
      (take-append-drop delivered (down_bytes source (Some position) moves))))
    where
      moved_within : delivered ≤ length (flat_map spelled (down_items source (Some position) moves))
      moved_within = subst (λ p. delivered ≤ length (flat_map spelled (down_items source (Some p) moves))) at within

      long : length (take delivered (down_bytes source (Some position) moves)) ≡ delivered
      long = length-take-le delivered (down_bytes source (Some position) moves)
          moved_within

      by_length : (count : ℕ) → count ≡ delivered
          → IsFollowedIn source (position_after position (whole_in count (down_items source (Some position) moves)))
          (hear_cut (cut limit (take delivered (down_bytes source (Some position) moves))) (opened machine))
          → IsFollowedIn source (position_after position (whole_in delivered (down_items source (Some position) moves)))
          (hear_cut (cut limit (take delivered (down_bytes source (Some position) moves))) (opened machine))
      by_length count e h =
          subst (λ n. IsFollowedIn source
          (position_after position (whole_in n (down_items source (Some position) moves)))
          (hear_cut (cut limit (take delivered (down_bytes source (Some position) moves))) (opened machine))) e h

  follows_at : (peer : Peer) (connection : Option Connection) → FollowsIn source peer.position peer.machine
      → IsConnectedAt source peer connection
      → FollowsIn source (connection_position source peer connection) (connection_machine source peer connection)
  follows_at peer None follows connected = follows
  follows_at peer (Some c) follows connected =
      (delivered_followed peer.position peer.machine follows c.start connected.1.started c.moves connected.1.clocked
      c.delivered connected.1.delivered).follows

  pub good_follows : (peer : Peer) → IsGood source peer
      → FollowsIn source (position_now source peer) (machine_now source peer)
  good_follows peer good = follows_at peer peer.connection good.follows good.connected

  -- a connection that is lost
  confirmed_below : (peer : Peer) (connection : Option Connection) → IsConnectedAt source peer connection
      → peer.confirmed ≤ connection_position source peer connection
  confirmed_below peer None connected = connected
  confirmed_below peer (Some c) connected =
      subst (λ n. peer.confirmed ≤ n) (sym connected.1.reached_is) connected.1.confirmed_is

  pub loses_good : (peer : Peer) → IsGood source peer → IsGood source (loses source peer)
  loses_good peer good = record {
    follows = follows_alike source.checked source.transactions source.number (position_now source peer)
        (machine_now source peer)
        (lost (machine_now source peer)) (good_follows peer good) refl (λ oid key. refl) (λ oid. refl);
    connected = confirmed_below peer peer.connection good.connected;
  }

-- ---- one more move

spelled_longer : (xs ys : List StreamItem) → length (flat_map spelled xs) ≤ length (flat_map spelled (xs ++ ys))
spelled_longer xs ys =
    omega (arith, ap length (flat_map-append spelled xs ys), length-append (flat_map spelled xs) (flat_map spelled ys))

pub record Grows (source : StreamSource) (start : Option ℕ) (moves : List Move) (move : Move) : Type 0 where
  pub more : List StreamItem
  pub is : down_items source start (moves ++ move ∷ []) ≡ down_items source start moves ++ more

pub grows : (source : StreamSource) (start : Option ℕ) (moves : List Move) (move : Move) → Grows source start moves move
grows source None moves move = record { more = []; is = refl }
grows source (Some start) moves move = record {
  more = move_items (telling_of source.checked) (log_in source)
      (all_moved (telling_of source.checked) (log_in source)
      (state_at source.number (length source.checked.catalog.tables) start) moves) move;
  is = ap (λ items. Response ∷ items)
      (items_append (telling_of source.checked) (log_in source)
      (state_at source.number (length source.checked.catalog.tables) start) moves move);
}

module _ (source : StreamSource) (position confirmed reached : ℕ) where
  pub moves_connected : (c : Connection) (move : Move) → IsConnected source position confirmed reached c
      → IsClocked move
      → IsThere (log_in source)
      (all_moved (telling_of source.checked) (log_in source)
      (state_at source.number (length source.checked.catalog.tables) position) c.moves) move
      → IsConnected source position confirmed reached (record c { moves = c.moves ++ move ∷ [] })
  moves_connected c move connected clock here =
      let grown = grows source c.start c.moves move in
      record {
        started = connected.started;
        there = there_append (telling_of source.checked) (log_in source)
            (state_at source.number (length source.checked.catalog.tables) position) c.moves move connected.there
            here;
        clocked = All-append IsClocked c.moves (move ∷ []) connected.clocked
            (All-cons IsClocked move [] clock (All-nil IsClocked));
        delivered = subst (λ items. c.delivered ≤ length (flat_map spelled items)) (sym grown.is)
            (longer c.delivered (length (flat_map spelled (down_items source c.start c.moves))) _ connected.delivered
            (spelled_longer (down_items source c.start c.moves) grown.more));
        reached_is = ap (λ items. position_after position (whole_in c.delivered items)) grown.is
            ∙ ap (position_after position)
            (whole_more c.delivered (down_items source c.start c.moves) grown.more connected.delivered)
            ∙ connected.reached_is;
        confirmed_is = connected.confirmed_is;
        reports = connected.reports;
      }
    where
      longer : (a b d : ℕ) → a ≤ b → b ≤ d → a ≤ d
      longer a b d h k = omega (arith, h, k)

  pub delivers_connected : (c : Connection) (more : ℕ) → IsConnected source position confirmed reached c
      → c.delivered + more ≤ length (flat_map spelled (down_items source c.start c.moves))
      → (further : ℕ) × IsConnected source position confirmed further (record c { delivered = c.delivered + more })
  delivers_connected c more connected within =
      let items = down_items source c.start c.moves in
      let raised = more_raise position c.delivered (c.delivered + more) items (omega arith) in
      let above : reached ≤ position_after position
      (whole_in (c.delivered + more) (down_items source c.start c.moves)) =
      subst (λ n. n ≤ position_after position (whole_in (c.delivered + more) (down_items source c.start c.moves)))
      connected.reached_is raised in (
        position_after position (whole_in (c.delivered + more) (down_items source c.start c.moves)),
        record {
          started = connected.started;
          there = connected.there;
          clocked = connected.clocked;
          delivered = within;
          reached_is = refl;
          confirmed_is = omega (arith, connected.confirmed_is, above);
          reports = reports_below c.reports
              (position_after position (whole_in (c.delivered + more) (down_items source c.start c.moves))) above
              connected.reports;
        },
      )
    where
      reports_below : (reports : List Status) (further : ℕ) → reached ≤ further → All (IsReported reached) reports
          → All (IsReported further) reports
      reports_below [] further above h = All-nil (IsReported further)
      reports_below (report ∷ reports) further above h = All-cons (IsReported further) report reports
          (at_most report.flushed further above (All-head (IsReported reached) report reports h))
          (reports_below reports further above (All-tail (IsReported reached) report reports h))
        where
          at_most : (n further : ℕ) → reached ≤ further → n ≤ reached → n ≤ further
          at_most n further above low = omega (arith, above, low)

  pub reports_connected : (c : Connection) (status : Status) → status.flushed ≤ reached
      → IsConnected source position confirmed reached c
      → IsConnected source position confirmed reached (record c { reports = c.reports ++ status ∷ [] })
  reports_connected c status low connected = record {
    started = connected.started;
    there = connected.there;
    clocked = connected.clocked;
    delivered = connected.delivered;
    reached_is = connected.reached_is;
    confirmed_is = connected.confirmed_is;
    reports = All-append (IsReported reached) c.reports (status ∷ []) connected.reports
        (All-cons (IsReported reached) status [] low (All-nil (IsReported reached)));
  }
