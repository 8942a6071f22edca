use Rattle.std.proofs.Common.{ap, subst, ◌∙◌}
use Rattle.std.specs.Arc.{arc_value}
use Rattle.pub_catalog.specs.CatalogView.{catalog_view}
use Rattle.shard_checker.specs.CheckedView.{CheckedOf, checked_view}
use Rattle.tables_log.specs.BookView.{book_checked}
use Rattle.tables_log.specs.Committing.{IsNew}
use Rattle.shard_world.specs.FirstPeers.{AreFirstPeers}
use Rattle.shard_world.proofs.FirstPeerLemmas.{first_is}
use Rattle.shard_world.proofs.LinkedLemmas.{first_are_linked, same_serves_alike}
use Rattle.shard_world.proofs.world.World.new.Goals as goal

pub returns-clause-stands : goal.returns-clause-stands
returns-clause-stands c =
    first_is (arc_value c.args.checked) c.args.limit c.in_ok-book.book c.in_ok-peers.peers.items
    (subst (λ its. IsNew c.in_ok-book.book (checked_view its) c.args.limit) c.in_ok-try_clone.ensures
    c.in_ok-book.ensures)
    (subst (λ catalog. AreFirstPeers catalog.publications catalog.subscriptions c.in_ok-peers.peers.items)
    (c.catalog.ensures.shows ∙ ap (λ its. (checked_view its).catalog) c.deref.ensures)
    c.in_ok-peers.ensures)
    c.requires.within

pub invariant_of-result : goal.invariant_of-result
invariant_of-result c =
    let checked : CheckedOf = checked_view (arc_value c.args.checked) in
    record {
      published =
          same_serves_alike (book_checked c.in_ok-book.book) checked
          (c.in_ok-book.ensures.checked_is ∙ ap checked_view c.in_ok-try_clone.ensures);
      linked =
          first_are_linked checked (catalog_view c.catalog.result.now).publications
          (catalog_view c.catalog.result.now).subscriptions c.in_ok-peers.peers.items c.in_ok-peers.ensures;
    }
