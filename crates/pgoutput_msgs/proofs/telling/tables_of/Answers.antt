use Rattle.std.proofs.Common.{◌≡◌, sym, subst, rules}
use Rattle.std.specs.Prelude.{All}
use Rattle.pub_catalog.specs.CatalogLimits.{IsLimitedTable}
use Rattle.shard_checker.specs.CheckedView.{checked_view}
use Rattle.pgoutput_msgs.proofs.telling.tables_of.Goals as goal

pub returns-clause-limited : goal.returns-clause-limited
returns-clause-limited c =
    let is : c.as_slice.result.now ≡ (checked_view c.args.checked.now).catalog.tables = search rules in
    subst (All IsLimitedTable) (sym is) c.catalog.ensures.limits.each_table
