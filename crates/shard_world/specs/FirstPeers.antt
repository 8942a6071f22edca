-- The subscribers of a catalog before their first connection: PostgreSQL 15, 31.2. Subscription.
use Rattle.std.specs.Prelude.{◌≡◌, ℕ, List, [], ◌∷◌, map, slice_get, None}
use Rattle.filter_tree.specs.Expr.{Expr}
use Rattle.pub_catalog.specs.Catalogs.{PublicationOf}
use Rattle.pub_catalog.specs.declared.catalog.Subscription.{Subscription}
use Rattle.test_subscriber.specs.Machine.{Alike}
use Rattle.test_subscriber.specs.Subscribers.{first_machine, sub_machine, sub_publications, sub_slot}
use Rattle.shard_world.specs.Joined.{PeerOf}
use Rattle.shard_world.specs.World.{publication_name}

-- the names of the publications with these numbers
abbrev pub names_of : List (PublicationOf Expr) → List ℕ → List (List ℕ)
names_of publications numbers = map (λ number. publication_name (slice_get publications number)) numbers

-- it has no rows, and the names of its subscription
pub record IsFirstPeer (publications : List (PublicationOf Expr)) (subscription : Subscription) (peer : PeerOf) : Type
    0 where
  pub none : peer.link ≡ None
  pub machine : Alike (sub_machine peer.subscriber) first_machine
  pub slot : sub_slot peer.subscriber ≡ subscription.name
  pub takes : sub_publications peer.subscriber ≡ names_of publications subscription.publications

-- one for each subscription
abbrev pub AreFirstPeers : List (PublicationOf Expr) → List Subscription → List PeerOf → Type 0
AreFirstPeers publications [] [] = Unit {0}
AreFirstPeers publications (subscription ∷ subscriptions) (peer ∷ peers) = IsFirstPeer publications subscription peer
    × AreFirstPeers publications subscriptions peers
AreFirstPeers publications subscriptions peers = ⊥
