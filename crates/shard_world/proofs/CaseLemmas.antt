-- What is known of a subscriber in a world that events lead to.
use Rattle.std.proofs.Common.{◌≡◌, ℕ, ◌<◌, ◌^◌, List, length, refl, ap, subst, arith}
use Rattle.std.specs.Prelude.{Option, Some, None}
use Rattle.std.proofs.lemmas.List.{length-map}
use Rattle.replica_identity.specs.Plans.{shares_for}
use Rattle.tables_log.specs.declared.slots.Slot.{Slot}
use Rattle.copy_both.specs.declared.link.Link.{Link}
use Rattle.test_subscriber.specs.Machine.{Machine}
use Rattle.test_subscriber.specs.declared.subscriber.Subscriber.{Subscriber}
use Rattle.stream_laws.specs.Asking.{IsAsking}
use Rattle.stream_laws.specs.Following.{IsPublished}
use Rattle.shard_world.specs.Joined.{PeerOf, IsApart, IsLinked, IsAt}
use Rattle.shard_world.specs.PeerSteps.{Case, IsCase, peer_of, MatchesPeer, source_of}
use Rattle.stream_laws.specs.LayoutRoom.{FitsLayouts}
use Rattle.shard_world.specs.World.{Connection, position_now, machine_now}
use Rattle.stream_laws.proofs.StartLengths.{subscribers_can_ask}
use Rattle.shard_world.proofs.WorldLemmas.{all_timed, can_be_said, good_at, published}
use Rattle.shard_world.proofs.WorldPeers.{IsGood, good_follows, FollowsIn}

module _ (case : Case) (is : IsCase case) where
  pub case_sayable : FitsLayouts case.checked case.world.transactions
  case_sayable = can_be_said case.checked case.most is.publisher case.events is.times case.world is.leads

  pub case_published : IsPublished case.checked case.world.transactions
  case_published = published case.checked is.publisher.covered is.publisher.apart case.world
      (good_at case.checked is.publisher.covered is.publisher.apart case.most case.events
      (all_timed case.events is.times) case.world is.leads case_sayable)

  pub case_good : IsGood (source_of case) (peer_of case)
  case_good = (good_at case.checked is.publisher.covered is.publisher.apart case.most case.events
      (all_timed case.events is.times) case.world is.leads case_sayable).peers case.number

  pub case_follows : FollowsIn (source_of case)
      (position_now (source_of case) (peer_of case)) (machine_now (source_of case) (peer_of case))
  case_follows = good_follows (source_of case) case_published case_sayable (peer_of case) case_good

  small_position : (position : ℕ) (machine : Machine) → FollowsIn (source_of case) position machine → position < 2 ^ 64
  small_position position machine follows = omega (arith, follows.within, case_sayable.few)

  pub opened_small : (peer_of case).position < 2 ^ 64
  opened_small = small_position (peer_of case).position (peer_of case).machine case_good.follows

  pub case_asks : IsAsking case.checked.catalog case.number
  case_asks =
      subscribers_can_ask case.checked.catalog case.number is.publisher.limited is.publisher.named
      (omega (
        arith,
        is.there,
        ap length is.publisher.own,
        length-map case.checked.catalog.subscriptions (shares_for case.checked.catalog),
      ))

  pub now_small : position_now (source_of case) (peer_of case) < 2 ^ 64
  now_small = small_position (position_now (source_of case) (peer_of case))
      (machine_now (source_of case) (peer_of case)) case_follows

-- ---- with and without a connection

pub record Shut (case : Case) (slots : List Slot) (subscriber : Subscriber) : Type 0 where
  pub none : (peer_of case).connection ≡ None
  pub is_apart : IsApart case.number slots subscriber (peer_of case)

pub record Open (case : Case) (slots : List Slot) (link : Link) (subscriber : Subscriber) : Type 0 where
  pub c : Connection
  pub some : (peer_of case).connection ≡ Some c
  pub linked : IsLinked (source_of case) slots link subscriber (peer_of case) c

module _ (case : Case) (slots : List Slot) (subscriber : Subscriber) where
  shut_at : (connection : Option Connection) → (peer_of case).connection ≡ connection
      → IsAt (source_of case) slots None subscriber (peer_of case) connection → Shut case slots subscriber
  shut_at None e at = record { none = e; is_apart = at }
  shut_at (Some c) e at = absurd at

  open_at : (link : Link) (connection : Option Connection) → (peer_of case).connection ≡ connection
      → IsAt (source_of case) slots (Some link) subscriber (peer_of case) connection → Open case slots link subscriber
  open_at link None e at = absurd at
  open_at link (Some c) e at = record { c = c; some = e; linked = at }

pub is_shut : (case : Case) (slots : List Slot) (code : PeerOf) → MatchesPeer case slots code → code.link ≡ None
    → Shut case slots code.subscriber
is_shut case slots code stands none = shut_at case slots code.subscriber (peer_of case).connection refl
    (subst (λ link. IsAt (source_of case) slots link code.subscriber (peer_of case) (peer_of case).connection) none
    stands.at)

pub is_open : (case : Case) (slots : List Slot) (code : PeerOf) (link : Link) → MatchesPeer case slots code
    → code.link ≡ Some link → Open case slots link code.subscriber
is_open case slots code link stands some = open_at case slots code.subscriber link (peer_of case).connection refl
    (subst (λ its. IsAt (source_of case) slots its code.subscriber (peer_of case) (peer_of case).connection) some
    stands.at)
