-- The subscribers of a catalog before their first connection match those of the first world.
use Rattle.std.proofs.Common.{◌≡◌, ℕ, zero, suc, ◌<◌, ◌≤◌, List, [], ◌∷◌, ◌++◌, length, map, replicate, refl, sym, ap, subst, ◌∙◌, arith, false}
use Rattle.std.specs.Prelude.{Some, None, slice_get}
use Rattle.std.proofs.lemmas.List.{length-map}
use Rattle.std.proofs.lemmas.List.Elements.{All-nil}
use Rattle.filter_tree.specs.Expr.{Expr}
use Rattle.pub_catalog.specs.Catalogs.{PublicationOf}
use Rattle.pub_catalog.specs.declared.catalog.Subscription.{Subscription}
use Rattle.pub_catalog.specs.CatalogView.{catalog_view}
use Rattle.replica_identity.specs.Plans.{shares_for}
use Rattle.shard_checker.specs.CheckedView.{CheckedOf, checked_view}
use Rattle.shard_checker.specs.declared.checked.Checked.{Checked}
use Rattle.tables_log.specs.BookView.{book_slots}
use Rattle.tables_log.specs.Committing.{IsNew}
use Rattle.tables_log.specs.declared.book.Book.{Book}
use Rattle.tables_log.specs.declared.slots.Slot.{Slot}
use Rattle.tables_log.proofs.StandLemmas.{new_stands}
use Rattle.shard_world.specs.Joined.{PeerOf, PeerIs, IsAt}
use Rattle.shard_world.specs.FirstPeers.{IsFirstPeer, AreFirstPeers}
use Rattle.shard_world.specs.World as w
use Rattle.shard_world.specs.World.{first_peer, first_world, source_in}
use Rattle.shard_world.specs.WorldCalls.{PeerAt, IsWorldBy}
use Rattle.shard_world.specs.WorldLaws.{IsPublisher, IsTimedEvent}
use Rattle.shard_world.proofs.PublisherLemmas.{checked_publish}

-- ---- one more

pub one_more : (publications : List (PublicationOf Expr)) (subscriptions : List Subscription) (peers : List PeerOf)
    (subscription : Subscription) (peer : PeerOf)
    → AreFirstPeers publications subscriptions peers → IsFirstPeer publications subscription peer
    → AreFirstPeers publications (subscriptions ++ subscription ∷ []) (peers ++ peer ∷ [])
one_more publications [] [] subscription peer are one = (one, tt)
one_more publications (first ∷ subscriptions) (other ∷ peers) subscription peer are one =
    (are.0, one_more publications subscriptions peers subscription peer are.1 one)
one_more publications [] (other ∷ peers) subscription peer are one = absurd are
one_more publications (first ∷ subscriptions) [] subscription peer are one = absurd are

-- ---- there are as many

as_many_first : (publications : List (PublicationOf Expr)) (subscriptions : List Subscription) (peers : List PeerOf)
    → AreFirstPeers publications subscriptions peers → length peers ≡ length subscriptions
as_many_first publications [] [] are = refl
as_many_first publications (subscription ∷ subscriptions) (peer ∷ peers) are =
    ap suc (as_many_first publications subscriptions peers are.1)
as_many_first publications [] (peer ∷ peers) are = absurd are
as_many_first publications (subscription ∷ subscriptions) [] are = absurd are

-- ---- each matches the first one of the world

record IsThere (publications : List (PublicationOf Expr)) (subscriptions : List Subscription) (number : ℕ)
    (peers : List PeerOf) : Type 0 where
  subscription : Subscription
  at : slice_get subscriptions number ≡ Some subscription
  peer : PeerOf
  peer_at : slice_get peers number ≡ Some peer
  is : IsFirstPeer publications subscription peer

first_at : (publications : List (PublicationOf Expr)) (subscriptions : List Subscription) (peers : List PeerOf)
    (number : ℕ) → AreFirstPeers publications subscriptions peers
    → number < length subscriptions → IsThere publications subscriptions number peers
first_at publications [] peers number are within = absurd (omega (arith, within))
first_at publications (subscription ∷ subscriptions) [] number are within = absurd are
first_at publications (subscription ∷ subscriptions) (peer ∷ peers) zero are within =
    record { subscription = subscription; at = refl; peer = peer; peer_at = refl; is = are.0 }
first_at publications (subscription ∷ subscriptions) (peer ∷ peers) (suc number) are within =
    let later = first_at publications subscriptions peers number are.1 (omega (arith, within)) in
    record {
      subscription = later.subscription;
      at = later.at;
      peer = later.peer;
      peer_at = later.peer_at;
      is =
          later.is;
    }

got_replicated : (count number : ℕ) (slot : Slot) → number < count → slice_get (replicate count slot) number ≡ Some slot
got_replicated zero number slot within = absurd (omega (arith, within))
got_replicated (suc count) zero slot within = refl
got_replicated (suc count) (suc number) slot within = got_replicated count number slot (omega (arith, within))

module _ (publisher : Checked) (most : ℕ) (book : Book) (peers : List PeerOf)
    (new : IsNew book (checked_view publisher) most)
    (are : AreFirstPeers (catalog_view publisher.catalog).publications (catalog_view publisher.catalog).subscriptions
    peers) where
  abbrev checked : CheckedOf
  checked = checked_view publisher

  peer_stands : (number : ℕ) → number < length checked.catalog.subscriptions
      → (there : IsThere checked.catalog.publications checked.catalog.subscriptions number peers)
      → PeerIs (source_in checked first_world number) (book_slots book) there.peer first_peer
  peer_stands number within there = record {
    named = record {
      slot = there.is.slot ∙ ap w.subscription_name (sym there.at);
      publications = there.is.takes
          ∙ ap (λ subscription. map
          (λ publication. w.publication_name (slice_get checked.catalog.publications publication))
          (w.publications_taken subscription)) (sym there.at);
    };
    at = subst (λ link. IsAt (source_in checked first_world number) (book_slots book) link there.peer.subscriber
        first_peer None) (sym there.is.none) (record {
          machine = record {
            position = there.is.machine.position;
            kept = there.is.machine.kept;
            rows =
                there.is.machine.rows;
          };
          slot = ap (λ slots. slice_get slots number) new.slots
              ∙ got_replicated (length checked.catalog.subscriptions) number (record { confirmed = 0; taken = false })
              within;
        });
  }

  pub first_is : most ≤ 1000000000 → IsWorldBy (checked_view publisher) most book peers [] first_world
  first_is few =
      let known : IsPublisher checked most = checked_publish publisher most few in
      let planned : length checked.plan ≡ length checked.catalog.subscriptions = ap length known.own
      ∙ length-map checked.catalog.subscriptions (shares_for checked.catalog) in
      record {
        publisher = known;
        times = All-nil IsTimedEvent;
        leads = refl;
        checked_is = new.checked_is;
        limit_is = new.limit_is;
        stands = new_stands book checked most new;
        count = as_many_first checked.catalog.publications checked.catalog.subscriptions peers are ∙ sym planned;
        each = λ number within.
            let here : number < length checked.catalog.subscriptions = subst (λ n. number < n) planned within in
            let there = first_at checked.catalog.publications checked.catalog.subscriptions peers number are here in
            subst (PeerAt (source_in checked first_world number) (book_slots book) first_peer) (sym there.peer_at)
            (peer_stands number here there);
      }
