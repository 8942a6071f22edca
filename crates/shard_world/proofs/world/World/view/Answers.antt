use Rattle.std.proofs.Common.{◌≡◌, ap, length, subst, ◌∙◌}
use Rattle.pub_catalog.specs.CatalogView.{catalog_view}
use Rattle.shard_checker.specs.CheckedView.{checked_view, setting_in}
use Rattle.table_changes.specs.Standing.{DividesRows}
use Rattle.shard_world.specs.ViewContents.{AreSeen}
use Rattle.shard_world.specs.ViewMeaning.{ShowsWorld}
use Rattle.shard_world.specs.WorldCalls.{world_book, world_checked, world_peers}
use Rattle.shard_world.proofs.CallLemmas.{if_ok_so}
use Rattle.shard_world.proofs.ViewLemmas.{shows_world}
use Rattle.shard_world.proofs.world.World.view.Goals as goal

pub returns : goal.returns
returns c most events world is =
    let code = c.args.self.now in
    let sound : DividesRows (setting_in (world_checked code)) =
    subst (λ its. DividesRows (setting_in (checked_view its))) c.deref.ensures c.catalog.ensures.divided in
    let catalog : catalog_view c.catalog.result.now ≡ (world_checked code).catalog = c.catalog.ensures.shows
    ∙ ap (λ its. (checked_view its).catalog) c.deref.ensures in
    let width : c.len-tables.result ≡ length (world_checked code).catalog.tables =
    c.len-tables.ensures ∙ c.catalog.result.now.tables.ok.0 ∙ ap (λ its. length its.tables) catalog in
    if_ok_so c.seen.result (AreSeen (world_book code) c.len-tables.result c.as_slice.result.now)
    (ShowsWorld (world_checked code) world) c.seen.ensures
    (λ shown seen. shows_world (world_checked code) most (world_book code) (world_peers code) events world is
    c.len-tables.result shown sound width
    (subst (λ peers. AreSeen (world_book code) c.len-tables.result peers shown) c.as_slice.ensures.value seen))
