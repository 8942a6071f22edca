use Rattle.tables_log.specs.Staging.{kept}
use Rattle.tables_log.proofs.ListingLemmas.{lists_maps}
use Rattle.tables_log.proofs.staged.Staged.values.Goals as goal

pub returns-clause-found : goal.returns-clause-found
unfolding kept
returns-clause-found g c =
    let map = c.args.self.now in
    lists_maps map.numbers.base map.numbers.made.items map.numbers.undo.items map.rows.base map.rows.made.items
    map.rows.undo.items
    c.list.ensures.ordered c.list.ensures.room c.list-2.ensures.ordered c.list-2.ensures.room map.kept_apart
