use Rattle.std.proofs.Common.{rules, ◌<◌, length}
use Rattle.pub_catalog.specs.CatalogView.{entry_view}
use Rattle.replica_identity.proofs.PlanLemmas.{joined_in}
use Rattle.replica_identity.proofs.planning.join.Goals as goal

pub returns : goal.returns
returns c =
    let within : c.args.entry.now.table < length c.args.shares.now.items = search rules in
    joined_in c.args.shares.now.items (entry_view c.args.entry.now) c.index_mut.result.now c.join_to.new.share within
    c.index_mut.ensures.value c.in_ok-join_to.ensures
